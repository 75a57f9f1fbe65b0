-- The map has the group of the key, or a new group begins with the slot.
use Rattle.std.proofs.Common.{◌∙◌, ap, sym, inl, inr, refl, rules}
use Rattle.ad_groups.specs.Keys.{value_at}
use Rattle.ad_groups.proofs.KeyLemmas.{updated}
use Rattle.ad_groups.proofs.grouping.group_of.Goals as goal

pub returns-in-Some-clause-group : goal.returns-in-Some-clause-group
returns-in-Some-clause-group c =
    inl (ap (value_at c.args.known.now) (sym c.as_slice.ensures.value) ∙ sym c.get.ensures.value ∙ sym c.copied.ensures ∙ c.in-Some.is, refl)

pub returns-clause-group : goal.returns-clause-group
returns-clause-group c =
    inr (
      ap (value_at c.args.known.now) (sym c.as_slice.ensures.value) ∙ sym c.get.ensures.value ∙ sym c.copied.ensures ∙ c.in_default.is,
      search rules,
      search rules,
    )

pub returns-clause-known : goal.returns-clause-known
returns-clause-known c = λ q. updated c.args.key.items c.args.known.now c.insert.new.self _ c.in_ok-insert.ensures.updates q
