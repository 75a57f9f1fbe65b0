-- A logical axiom has a slot, and a carried one has none.
use Rattle.std.proofs.Common.{◌≡◌, ◌<◌, None, length, ap, ◌∙◌, subst, arith}
use Rattle.std.specs.Prelude.{is_some, slice_index_or}
use Rattle.std.proofs.lemmas.List.{get_or_read}
use Rattle.ad_syntax_laws.specs.OntologyModule.{values}
use Rattle.ad_numbered.specs.Numbered.{InSlots, IsNumbered}
use Rattle.ad_numbered.proofs.NumberedLemmas.{as_many_slots, slotted_at}
use Rattle.ad_numbered.proofs.ontology.NumberedOntology.slot.Goals as goal

pub index-requires : goal.index-requires
index-requires c =
    let slots = c.self.inside.slots in
    let as_many : length slots.items ≡ length (values c.self.inside.axioms.items) = as_many_slots (values c.self.inside.axioms.items) slots.items c.self.invariant.slotted in
    let same : length (values c.self.inside.axioms.items) ≡ length c.args.self.now.axioms = ap (λ (o : InSlots). length o.axioms) c.self.view_is in
    omega (arith, as_many, same, c.requires, slots.ok)

pub returns-clause-slot : goal.returns-clause-slot
returns-clause-slot c =
    let slots = c.self.inside.slots in
    let as_many : length slots.items ≡ length (values c.self.inside.axioms.items) = as_many_slots (values c.self.inside.axioms.items) slots.items c.self.invariant.slotted in
    let same : length (values c.self.inside.axioms.items) ≡ length c.args.self.now.axioms = ap (λ (o : InSlots). length o.axioms) c.self.view_is in
    let within : c.args.i < length slots.items = omega (arith, as_many, same, c.requires) in
    get_or_read slots.items c.args.i c.index.result.now within c.index.ensures None ∙ ap (λ (o : InSlots). slice_index_or o.slots c.args.i None) c.self.view_is

pub returns-clause-logical : goal.returns-clause-logical
returns-clause-logical c = λ a at.
    let slots = c.self.inside.slots in
    let as_many : length slots.items ≡ length (values c.self.inside.axioms.items) = as_many_slots (values c.self.inside.axioms.items) slots.items c.self.invariant.slotted in
    let same : length (values c.self.inside.axioms.items) ≡ length c.args.self.now.axioms = ap (λ (o : InSlots). length o.axioms) c.self.view_is in
    let within : c.args.i < length slots.items = omega (arith, as_many, same, c.requires) in
    let value : c.index.result.now ≡ slice_index_or c.args.self.now.slots c.args.i None =
    get_or_read slots.items c.args.i c.index.result.now within c.index.ensures None ∙ ap (λ (o : InSlots). slice_index_or o.slots c.args.i None) c.self.view_is in
    let is : IsNumbered c.args.self.now = subst IsNumbered c.self.view_is c.self.invariant in
    ap is_some value ∙ slotted_at c.args.self.now.axioms c.args.self.now.slots is.slotted c.args.i a at
