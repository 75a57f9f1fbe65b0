-- Slots that are filled from 0 on.
use Rattle.std.proofs.Common.{◌≡◌, ◌≢◌, ◌+◌, ◌<◌, ℕ, zero, suc, true, false, cond, IsTrue, IsFalse, List, [], ◌∷◌, ◌++◌, length, Option, None, Some, nat_eq, refl, sym, ap, ◌∙◌, subst, inl, inr, arith, eqb-true, eq-eqb, append-nil, append_assoc, take, drop, take-append-drop}
use Rattle.std.specs.Prelude.{is_some}
use Rattle.std.specs.List.{AllZip, range_with_len}
use Rattle.std.proofs.lemmas.List.{length_push}
use Rattle.ad_theory.proofs.Members.{either, not_both}
use Rattle.ad_entity.specs.declared.entities.Entity.{Entity}
use Rattle.ad_tree.specs.declared.axioms.Axiom.{Axiom}
use Rattle.ad_tree.specs.declared.axioms.Noted.{Noted}
use Rattle.ad_syntax_laws.specs.OntologyModule.{is_logical_axiom, logical}
use Rattle.ad_slots.specs.Held.{Held}
use Rattle.ad_slots.specs.Places.{slot_at, is_held, least_free}
use Rattle.ad_slots.proofs.PlaceLemmas.{least_is_free, held_below_least}
use Rattle.ad_flat.specs.Holds.{Holds}
use Rattle.ad_numbered.specs.Making.{IsPut, AreInOrder}
use Rattle.ad_numbered.specs.Numbered.{given}
use Rattle.ad_numbered.proofs.ListLemmas.{logical-append, given-append, zip_more, zip_weaker, range_more}

-- the first slot that is free
free_at : (slots : List (Option Held)) (i : ℕ) → ((j : ℕ) → j < i → IsTrue (is_held slots j)) → IsFalse (is_held slots i) → least_free slots ≡ i
free_at [] zero held free = refl
free_at [] (suc i) held free = absurd (not_both (held 0 (omega arith)) refl)
free_at (None ∷ slots) zero held free = refl
free_at (None ∷ slots) (suc i) held free = absurd (not_both (held 0 (omega arith)) refl)
free_at (Some h ∷ slots) zero held free = absurd (not_both refl free)
free_at (Some h ∷ slots) (suc i) held free = ap suc (free_at slots i (λ j l. held (suc j) (omega arith)) free)

-- nothing stands in the slots of no axioms
pub none_in_order : (number : Entity → Option ℕ) (held : List (Option Held)) → held ≡ [] → AreInOrder number [] [] held
none_in_order number held empty = subst (AreInOrder number [] []) (sym empty) (record {
  slotted = tt;
  rising = refl;
  holding = tt;
  live = λ i t. absurd (not_both t refl);
  next = refl;
})

one_logical : (a : Noted) → is_logical_axiom a ≡ true → logical (a ∷ []) ≡ a ∷ []
one_logical a is = ap (λ b. cond b (a ∷ []) []) is

one_carried : (a : Noted) → is_logical_axiom a ≡ false → logical (a ∷ []) ≡ []
one_carried a is = ap (λ b. cond b (a ∷ []) []) is

module _ (number : Entity → Option ℕ) (a : Noted) (before after : List (Option Held)) (axioms : List Noted) (slots : List (Option ℕ)) (order : AreInOrder number axioms slots before) where
  carried_more : is_logical_axiom a ≡ false → after ≡ before → AreInOrder number (axioms ++ a ∷ []) (slots ++ None ∷ []) after
  carried_more carried same =
      let kept : logical (axioms ++ a ∷ []) ≡ logical axioms = logical-append axioms (a ∷ []) ∙ ap (λ l. logical axioms ++ l) (one_carried a carried) ∙ append-nil (logical axioms) in
      let there : given (slots ++ None ∷ []) ≡ given slots = given-append slots (None ∷ []) ∙ append-nil (given slots) in
      let long : length (logical (axioms ++ a ∷ [])) ≡ length (logical axioms) = ap length kept in
      record {
        slotted = zip_more (λ a slot. is_some slot ≡ is_logical_axiom a) axioms slots a None order.slotted (sym carried);
        rising = there ∙ order.rising ∙ ap (range_with_len 0) (sym long);
        holding = subst (λ l. AllZip (λ i a. Holds number after i a.axiom) (given (slots ++ None ∷ [])) l) (sym kept)
            (subst (λ g. AllZip (λ i a. Holds number after i a.axiom) g (logical axioms)) (sym there)
            (subst (λ h. AllZip (λ i a. Holds number h i a.axiom) (given slots) (logical axioms)) (sym same) order.holding));
        live = λ i t. let l : i < length (logical axioms) = order.live i (subst (λ h. IsTrue (is_held h i)) same t) in omega arith;
        next = ap least_free same ∙ order.next ∙ sym long;
      }

  module _ (i : ℕ) (is : i ≡ least_free before) (holds : Holds number after i a.axiom) (others : (j : ℕ) → j ≢ i → slot_at after j ≡ slot_at before j) where
    held_at : (b : Axiom) (slots : List (Option Held)) (j : ℕ) → Holds number slots j b → IsTrue (is_held slots j)
    held_at b slots j h = ap is_some h.1

    -- what holds an axiom is not the least free slot
    not_next : (j : ℕ) → IsTrue (is_held before j) → j ≢ i
    not_next j t e = not_both (subst (λ k. IsTrue (is_held before k)) (e ∙ is) t) (least_is_free before)

    still : (j : ℕ) (b : Noted) → Holds number before j b.axiom → Holds number after j b.axiom
    still j b h = (h.0, others j (not_next j (held_at b.axiom before j h)) ∙ h.1, h.2)

    still_held : (j : ℕ) → IsTrue (is_held before j) → IsTrue (is_held after j)
    still_held j t = ap is_some (others j (not_next j t)) ∙ t

    live_after : (j : ℕ) → IsTrue (is_held after j) → j < length (logical axioms) + 1
    live_after j t =
        let here : i ≡ length (logical axioms) = is ∙ order.next in
        elim (either (nat_eq j i)) [
          | inl same ↦ (let e : j ≡ i = eqb-true j i same in omega arith)
          | inr differ ↦ (
              let was : IsTrue (is_held before j) = sym (ap is_some (others j (λ e. not_both (eq-eqb j i e) differ))) ∙ t in
              let l : j < length (logical axioms) = order.live j was in
              omega arith)
        ]

    held_below : (j : ℕ) → j < length (logical axioms) + 1 → IsTrue (is_held after j)
    held_below j l =
        let here : i ≡ length (logical axioms) = is ∙ order.next in
        elim (either (nat_eq j i)) [
          | inl same ↦ subst (λ k. IsTrue (is_held after k)) (sym (eqb-true j i same)) (held_at a.axiom after i holds)
          | inr differ ↦ (
              let other : j ≢ i = λ e. not_both (eq-eqb j i e) differ in
              still_held j (held_below_least before j (omega (arith, other, order.next))))
        ]

    free_after : IsFalse (is_held after (length (logical axioms) + 1))
    free_after = elim (either (is_held after (length (logical axioms) + 1))) [
      | inl t ↦ (let l = live_after (length (logical axioms) + 1) t in absurd (omega (arith, l)))
      | inr f ↦ f
    ]

    logical_more : is_logical_axiom a ≡ true → AreInOrder number (axioms ++ a ∷ []) (slots ++ Some i ∷ []) after
    logical_more one =
        let more : logical (axioms ++ a ∷ []) ≡ logical axioms ++ a ∷ [] = logical-append axioms (a ∷ []) ∙ ap (λ l. logical axioms ++ l) (one_logical a one) in
        let there : given (slots ++ Some i ∷ []) ≡ given slots ++ i ∷ [] = given-append slots (Some i ∷ []) in
        let long : length (logical (axioms ++ a ∷ [])) ≡ length (logical axioms) + 1 = ap length more ∙ length_push (logical axioms) a in
        let here : i ≡ 0 + length (logical axioms) = omega (arith, is, order.next) in
        record {
          slotted = zip_more (λ a slot. is_some slot ≡ is_logical_axiom a) axioms slots a (Some i) order.slotted (sym one);
          rising = there ∙ ap (λ l. l ++ i ∷ []) order.rising ∙ ap (λ k. range_with_len 0 (length (logical axioms)) ++ k ∷ []) here ∙ sym (range_more 0 (length (logical axioms))) ∙ ap (range_with_len 0) (sym long);
          holding = subst (λ l. AllZip (λ i a. Holds number after i a.axiom) (given (slots ++ Some i ∷ [])) l) (sym more)
              (subst (λ g. AllZip (λ i a. Holds number after i a.axiom) g (logical axioms ++ a ∷ [])) (sym there)
              (zip_more (λ i a. Holds number after i a.axiom) (given slots) (logical axioms) i a
              (zip_weaker (λ i a. Holds number before i a.axiom) (λ i a. Holds number after i a.axiom) (given slots) (logical axioms) still order.holding) holds));
          live = λ j t. let l : j < length (logical axioms) + 1 = live_after j t in omega arith;
          next = free_at after (length (logical axioms) + 1) held_below free_after ∙ sym long;
        }

  pub in_order_more : (slot : Option ℕ) → IsPut number a before after slot → AreInOrder number (axioms ++ a ∷ []) (slots ++ slot ∷ []) after
  in_order_more None put = carried_more put.0 put.1
  in_order_more (Some i) put = logical_more i put.1 put.2 put.3 put.0

-- with one more logical axiom there are no more than in the whole list
pub fewer_logical : (front : List Noted) (a : Noted) (rest : List Noted) → is_logical_axiom a ≡ true → length (logical front) < length (logical (front ++ a ∷ rest))
fewer_logical [] a rest one = let long : length (logical (a ∷ rest)) ≡ suc (length (logical rest)) = ap (λ b. length (cond b (a ∷ logical rest) (logical rest))) one in omega arith
fewer_logical (x ∷ front) a rest one =
    let l : length (logical front) < length (logical (front ++ a ∷ rest)) = fewer_logical front a rest one in
    elim (is_logical_axiom x) as (λ b. length (cond b (x ∷ logical front) (logical front)) < length (cond b (x ∷ logical (front ++ a ∷ rest)) (logical (front ++ a ∷ rest)))) [
      | true ↦ omega arith
      | false ↦ l
    ]

module _ (axioms : List Noted) (i : ℕ) (a : Noted) (more : take (i + 1) axioms ≡ take i axioms ++ a ∷ []) where
  pub fewer_at : is_logical_axiom a ≡ true → length (logical (take i axioms)) < length (logical axioms)
  fewer_at one = subst (λ l. length (logical (take i axioms)) < length (logical l))
      (sym (append_assoc (take i axioms) (a ∷ []) (drop (i + 1) axioms)) ∙ ap (λ l. l ++ drop (i + 1) axioms) (sym more) ∙ take-append-drop (i + 1) axioms)
      (fewer_logical (take i axioms) a (drop (i + 1) axioms) one)

  pub in_order_next : (number : Entity → Option ℕ) (before after : List (Option Held)) (slots items : List (Option ℕ)) (slot : Option ℕ) → items ≡ slots ++ slot ∷ []
      → AreInOrder number (take i axioms) slots before → IsPut number a before after slot → AreInOrder number (take (i + 1) axioms) items after
  in_order_next number before after slots items slot pushed order put = subst (λ s. AreInOrder number (take (i + 1) axioms) s after) (sym pushed)
      (subst (λ l. AreInOrder number l (slots ++ slot ∷ []) after) (sym more) (in_order_more number a before after (take i axioms) slots order slot put))
