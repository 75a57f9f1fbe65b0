use Rattle.std.proofs.Common.{◌≡◌, true, ap, ◌∙◌, subst}
use Rattle.std.specs.Option.{unwrap_or}
use Rattle.ad_entity.specs.declared.entities.EntityKind.TheVariants as kinds
use Rattle.ad_command.specs.Words.{entity_kind_in, is_iri_behind}
use Rattle.std.specs.Prelude.{drop, length}
use Rattle.ad_command.proofs.EntityLemmas.{read_entity}
use Rattle.ad_command.proofs.seed.entity_of.Goals as goal

pub returns : goal.returns
returns c = read_entity c.args.word.now c.unwrap_or-kind.result c.in_ok-name_behind.field-0
    (c.unwrap_or-kind.ensures ∙ ap (λ o. unwrap_or o kinds.Class) (c.kind_named.ensures ∙ ap entity_kind_in c.as_bytes.ensures.value))
    (subst (λ front. is_iri_behind front c.args.word.now ≡ true → c.in_ok-name_behind.field-0 ≡ drop (length front) c.args.word.now) c.front.ensures c.in_ok-name_behind.ensures)
