use Rattle.std.proofs.Common.{◌<◌, ◌||◌, ◌&&◌, not, length, sym, ap, ◌∙◌, arith}
use Rattle.std.proofs.lemmas.List.{take_all}
use Rattle.ad_entity.specs.Builtin.{is_builtin}
use Rattle.ad_entity.specs.Entities.{same_entity}
use Rattle.ad_syntax_laws.specs.OntologyLogic.{seed_test}
use Rattle.ad_module_document.proofs.SeedLemmas.{seed_more}
use Rattle.ad_module_document.proofs.seeds.mark_seed.Goals as goal

pub loop-entity-preserved : goal.loop-entity-preserved
loop-entity-preserved c =
    let entities = c.entities-entities.result.now in
    let i = c.loop-entity.entity-index in
    let x = c.entity-item.result in
    let within : i < length entities = omega arith in
    record {
      numbers = λ e n at.
          c.mark.ensures.marked e n at
          ∙ ap (λ b. b || (same_entity x e && not (is_builtin e))) (c.loop-entity.invariant.numbers e n at)
          ∙ sym (seed_more entities i x e within c.entity-item.is);
      size = c.mark.ensures.size ∙ c.loop-entity.invariant.size;
    }

pub returns-clause-numbers : goal.returns-clause-numbers
returns-clause-numbers c e n at =
    let entities = c.entities-entities.result.now in
    c.loop-entity.invariant.numbers e n at
    ∙ ap (λ s. seed_test s e) (take_all c.loop-entity.entity-index entities (omega arith) ∙ c.entities-entities.ensures)
