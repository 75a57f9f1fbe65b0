-- The slots of an ontology, in its order, are the live ones.
use Rattle.std.proofs.Common.{◌≡◌, ◌↔◌, ◌==◌, ℕ, IsTrue, IsFalse, List, [], ◌∷◌, Option, inl, inr, sym, ap, subst, refl, eqb-true}
use Rattle.std.specs.Prelude.{is_some}
use Rattle.std.specs.List.{AllZip, Contains}
use Rattle.ad_entity.specs.declared.entities.Entity.{Entity}
use Rattle.ad_tree.specs.declared.axioms.Noted.{Noted}
use Rattle.ad_theory.specs.Numbers.{among}
use Rattle.ad_theory.proofs.Members.{Has, contains_of_has, has_of_any, has_of_contains, either, not_both}
use Rattle.ad_slots.specs.Held.{Held}
use Rattle.ad_slots.specs.Places.{is_held}
use Rattle.ad_flat.specs.Holds.{Holds}
use Rattle.ad_syntax_laws.specs.OntologyModule.{is_logical_axiom}
use Rattle.ad_numbered.specs.Numbered.{InSlots, IsNumbered, given, order_of}

held_there : (number : Entity → Option ℕ) (held : List (Option Held)) (places : List ℕ) (axioms : List Noted) → AllZip (λ i a. Holds number held i a.axiom) places axioms
    → (i : ℕ) → Has places i → IsTrue (is_held held i)
held_there number held [] axioms all i h = absurd h
held_there number held (p ∷ places) [] all i h = absurd all
held_there number held (p ∷ places) (a ∷ axioms) all i (inl e) = subst (λ j. IsTrue (is_held held j)) (sym e) (ap is_some all.0.1)
held_there number held (p ∷ places) (a ∷ axioms) all i (inr h) = held_there number held places axioms all.1 i h

has_among : (places : List ℕ) (i : ℕ) → IsTrue (among places i) → Has places i
has_among places i t =
    let found = has_of_any (λ x. x == i) places t in
    subst (Has places) (eqb-true found.0 i found.2) found.1

-- just the slots in order are live
pub order_is_live : (ontology : InSlots) → IsNumbered ontology → (i : ℕ) → Contains (order_of ontology) i ↔ IsTrue (is_held ontology.held i)
order_is_live ontology is i = (
  λ c. held_there _ ontology.held (order_of ontology) _ is.placed.held i (has_of_contains (order_of ontology) i c),
  λ t. contains_of_has (order_of ontology) i (has_among (order_of ontology) i (is.placed.live i t)),
)

-- the same of a list that is the order, and of what the slots hold
pub order_is_live_in : (ontology : InSlots) → IsNumbered ontology → (order : List ℕ) (held : List (Option Held)) → order ≡ order_of ontology → held ≡ ontology.held
    → (i : ℕ) → Contains order i ↔ IsTrue (is_held held i)
order_is_live_in ontology is order held listed there i =
    subst (λ l. Contains l i ↔ IsTrue (is_held held i)) (sym listed)
    (subst (λ h. Contains (order_of ontology) i ↔ IsTrue (is_held h i)) (sym there) (order_is_live ontology is i))

no_slots : (axioms : List Noted) (slots : List (Option ℕ)) → axioms ≡ [] → AllZip (λ a slot. is_some slot ≡ is_logical_axiom a) axioms slots → given slots ≡ []
no_slots [] [] none all = refl
no_slots [] (slot ∷ slots) none all = absurd all
no_slots (a ∷ axioms) slots none all = absurd (cc)

-- without axioms there is no slot in order
pub no_order : (ontology : InSlots) → IsNumbered ontology → ontology.axioms ≡ [] → order_of ontology ≡ []
no_order ontology is none = no_slots ontology.axioms ontology.slots none is.slotted

-- and no slot is live
pub none_live : (ontology : InSlots) → IsNumbered ontology → ontology.axioms ≡ [] → (i : ℕ) → IsFalse (is_held ontology.held i)
none_live ontology is none i = elim (either (is_held ontology.held i)) [
  | inl t ↦ absurd (not_both (is.placed.live i t) (ap (λ places. among places i) (no_order ontology is none)))
  | inr f ↦ f
]
