-- Slots are below how many there may be.
use Rattle.std.proofs.Common.{◌≡◌, ◌==◌, ◌<◌, ℕ, zero, suc, IsTrue, List, [], ◌∷◌, length, Option, None, Some, is_some, refl, sym, ap, subst, eq-eqb}
use Rattle.std.specs.Prelude.{slice_index_or}
use Rattle.std.specs.List.{AllZip}
use Rattle.ad_theory.specs.Numbers.{among}
use Rattle.ad_theory.proofs.Members.{or_left, or_right}
use Rattle.ad_syntax_laws.specs.OntologyModule.{logical}
use Rattle.ad_slots.specs.Places.{is_held}
use Rattle.ad_flat.specs.Laws.{live_below}
use Rattle.ad_flat.specs.Universes.{held_in, most_in}
use Rattle.ad_flat.specs.declared.flat.FlatUniverse.{FlatUniverse}
use Rattle.ad_flat.proofs.TreeLemmas.{pair_holds, pair_of_place}
use Rattle.ad_numbered.specs.Numbered.{InSlots, IsNumbered, given, order_of}

given_among : (slots : List (Option ℕ)) (i slot : ℕ) → slice_index_or slots i None ≡ Some slot → IsTrue (among (given slots) slot)
given_among [] i slot at = absurd (let e : None ≡ Some slot = at in cc)
given_among (None ∷ slots) zero slot at = absurd (let e : None ≡ Some slot = at in cc)
given_among (Some k ∷ slots) zero slot at = let e : k ≡ slot = (let f : Some k ≡ Some slot = at in cc) in or_left (k == slot) (among (given slots) slot) (eq-eqb k slot e)
given_among (None ∷ slots) (suc i) slot at = given_among slots i slot at
given_among (Some k ∷ slots) (suc i) slot at = or_right (k == slot) (among (given slots) slot) (given_among slots i slot at)

pub slot_below : (ontology : InSlots) → IsNumbered ontology → (universe : FlatUniverse) → held_in universe ≡ ontology.held → most_in universe ≡ ontology.most
    → (i slot : ℕ) → slice_index_or ontology.slots i None ≡ Some slot → slot < ontology.most
slot_below ontology is universe held most i slot at =
    let there = pair_of_place _ (order_of ontology) (logical ontology.axioms) is.placed.held slot (given_among ontology.slots i slot at) in
    let holds = pair_holds _ (order_of ontology) (logical ontology.axioms) is.placed.held slot there.0 there.1 in
    let live : IsTrue (is_held ontology.held slot) = subst (λ o. IsTrue (is_some o)) (sym holds.1) refl in
    let below : slot < most_in universe = live_below universe.slots slot (subst (λ l. IsTrue (is_held l slot)) (sym held) live) in
    subst (λ n. slot < n) most below

pub as_many : {A B : Type 0} (R : A → B → Type 0) (xs : List A) (ys : List B) → AllZip R xs ys → length ys ≡ length xs
as_many R [] [] all = refl
as_many R [] (y ∷ ys) all = absurd all
as_many R (x ∷ xs) [] all = absurd all
as_many R (x ∷ xs) (y ∷ ys) all = ap suc (as_many R xs ys all.1)
