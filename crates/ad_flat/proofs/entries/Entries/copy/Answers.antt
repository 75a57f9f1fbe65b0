use Rattle.std.proofs.Common.{◌∙◌}
use Rattle.ad_flat.proofs.KeyLemmas.{same_slots, same_values, same_keys}
use Rattle.ad_flat.proofs.entries.Entries.copy.Goals as goal

pub invariant_of-result : goal.invariant_of-result
invariant_of-result c = same_keys c.self.inside.axioms c.in_ok-axioms.axioms c.self.inside.keys.items c.in_ok-keys.keys.items
    (same_slots c.self.inside.axioms.slots c.in_ok-axioms.axioms.slots c.in_ok-axioms.ensures.cases.slots) (c.in_ok-keys.ensures ∙ c.as_slice.ensures.value) c.self.invariant

pub returns : goal.returns
returns c = same_values c.self.inside.axioms c.in_ok-axioms.axioms c.self.inside.keys.items c.in_ok-keys.keys.items
    (same_slots c.self.inside.axioms.slots c.in_ok-axioms.axioms.slots c.in_ok-axioms.ensures.cases.slots) (c.in_ok-keys.ensures ∙ c.as_slice.ensures.value)
    ∙ c.self.view_is
