use Rattle.std.proofs.Common.{map, sym, ◌∙◌, ap, subst}
use Rattle.std.proofs.lemmas.List.{take_all}
use Rattle.std.specs.List.{AllByRecursion}
use Rattle.ad_command.specs.Command.{IsSeedEntity, seed_word}
use Rattle.ad_command.proofs.EntityLemmas.{one_more}
use Rattle.ad_command.proofs.seed.seed_of.Goals as goal

pub loop-word-preserved : goal.loop-word-preserved
loop-word-preserved c =
    let one = one_more c.args.words.now c.loop-word.seed c.loop-word.word-index c.as_str.result.now c.word-item.result c.in_ok-entity_of.field-0
    c.requires c.loop-word-test.true (c.as_str.ensures ∙ c.word-item.is) c.in_ok-entity_of.ensures c.loop-word.invariant.words c.loop-word.invariant.entities in
    record {
      words = ap (map seed_word) c.in_ok-push.ensures.ok ∙ one.0;
      entities = subst (AllByRecursion IsSeedEntity) (sym c.in_ok-push.ensures.ok) one.1;
    }

pub returns : goal.returns
returns c = (c.loop-word.invariant.entities, sym (c.loop-word.invariant.words ∙ take_all c.loop-word.word-index c.args.words.now c.loop-word-test.false))
