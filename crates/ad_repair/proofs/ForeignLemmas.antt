-- Where something that was added is foreign to what stays of a module.
use Rattle.std.proofs.Common.{◌≡◌, ℕ, ◌<◌, Bool, ◌&&◌, not, List, [], length, get_or, IsTrue, IsFalse, inl, inr, sym, ◌∙◌, ap, subst, arith}
use Rattle.std.specs.List.{range_with_len}
use Rattle.std.proofs.lemmas.List.Folds.{list_any_at}
use Rattle.std.proofs.lemmas.List.FromFn.{length-range_with_len, get_or-range_with_len}
use Rattle.ad_base.specs.declared.limits.Side.{Side}
use Rattle.ad_bits.specs.Rows.{has}
use Rattle.ad_bits.proofs.Rows.{within_size}
use Rattle.ad_theory.specs.Module.{IsAntitone}
use Rattle.ad_theory.specs.Numbers.{among, logic_of}
use Rattle.ad_theory.proofs.Members.{either, not_both, or_left, or_right, or_cases, and_intro, and_left, and_right, not_true, false_not, has_of_any}
use Rattle.ad_decomposition.specs.Affected.{Change, some_slot, rest_symbols, has_foreign}
use Rattle.ad_repair.specs.declared.touched.Touched.{Touched}
use Rattle.ad_repair.specs.Changes.{stays, stands_in}
use Rattle.ad_repair.specs.Touches.{IsTouched, IsHeld}
use Rattle.ad_repair.proofs.ListLemmas.{place_of}

-- a slot that passes a test
pub some_passes : (change : Change) (test : ℕ → Bool) (k : ℕ) → k < change.slots → IsTrue (test k) → IsTrue (some_slot change test)
some_passes change test k l t =
    let long : length (range_with_len 0 change.slots) ≡ change.slots = length-range_with_len 0 change.slots in
    list_any_at test (range_with_len 0 change.slots) k k (subst (λ n. k < n) (sym long) l) (ap test (get_or-range_with_len 0 change.slots k k l ∙ omega arith) ∙ t)

-- what is not true is false
pub false_of : (b : Bool) → (IsTrue b → ⊥) → IsFalse b
false_of b f = elim (either b) [ inl t ↦ absurd (f t) | inr n ↦ n ]

module _ (change : Change) (touched : Touched) (is : IsTouched change touched) (below : (k : ℕ) → IsTrue (change.added k) → k < change.slots)
    (i : ℕ) (stay : IsTrue (stays change i)) (row : List Bool) (size : length row ≡ change.slots) (live : (k : ℕ) → IsTrue (has row k) → IsTrue (change.before.live k)) where
  abbrev rest : ℕ → Bool
  rest = rest_symbols change i (has row)

  abbrev holder : ℕ → List Bool
  holder t = get_or touched.holders.items t []

  abbrev symbol : ℕ → ℕ
  symbol t = get_or touched.symbols.items t 0

  abbrev in_rest : ℕ → Bool
  in_rest k = has row k && not (change.removed k)

  abbrev stands : ℕ → ℕ → Bool
  stands s k = in_rest k && among (change.before.symbols k) s

  -- a symbol that is held stands in what stays
  pub held_rest : (s t : ℕ) → t < length touched.symbols.items → symbol t ≡ s → IsHeld (holder t) i row → IsTrue (rest s)
  held_rest s t l e (inl h) =
      let in_slot : IsTrue (stands_in change (symbol t) i) = sym (is.holders t i l) ∙ h in
      let at : IsTrue (among (change.before.symbols i) (symbol t)) = and_right (stays change i) (among (change.before.symbols i) (symbol t)) in_slot in
      or_left (among (change.before.symbols i) s) (some_slot change (stands s)) (subst (λ z. IsTrue (among (change.before.symbols i) z)) e at)
  held_rest s t l e (inr m) =
      let k = m.0 in
      let in_slot : IsTrue (stands_in change (symbol t) k) = sym (is.holders t k l) ∙ m.2 in
      let at : IsTrue (among (change.before.symbols k) (symbol t)) = and_right (stays change k) (among (change.before.symbols k) (symbol t)) in_slot in
      let keeps : IsTrue (not (change.removed k)) = and_right (change.before.live k) (not (change.removed k)) (and_left (stays change k) (among (change.before.symbols k) (symbol t)) in_slot) in
      or_right (among (change.before.symbols i) s) (some_slot change (stands s)) (some_passes change (stands s) k (subst (λ n. k < n) size (within_size row k m.1))
      (and_intro (in_rest k) (among (change.before.symbols k) s) (and_intro (has row k) (not (change.removed k)) m.1 keeps) (subst (λ z. IsTrue (among (change.before.symbols k) z)) e at)))

  -- and the other way round, where an added axiom has it
  pub rest_held : (a s : ℕ) → IsTrue (change.added a) → IsTrue (among (change.after.symbols a) s) → IsTrue (rest s)
      → (t : ℕ) × (t < length touched.symbols.items) × (symbol t ≡ s) × IsHeld (holder t) i row
  rest_held a s new h r =
      let p = place_of touched.symbols.items s (is.symbols a s new h) in
      let t = p.0 in
      let holds : (k : ℕ) → IsTrue (stays change k) → IsTrue (among (change.before.symbols k) s) → IsTrue (has (holder t) k) =
      (λ k u v. is.holders t k p.1 ∙ and_intro (stays change k) (among (change.before.symbols k) (symbol t)) u (subst (λ z. IsTrue (among (change.before.symbols k) z)) (sym p.2) v)) in (
        t,
        p.1,
        p.2,
        elim (or_cases (among (change.before.symbols i) s) (some_slot change (stands s)) r) [
          | inl v ↦ inl (holds i stay v)
          | inr v ↦ (
              let q = has_of_any (stands s) (range_with_len 0 change.slots) v in
              let k = q.0 in
              let within : IsTrue (in_rest k) = and_left (in_rest k) (among (change.before.symbols k) s) q.2 in
              let member : IsTrue (has row k) = and_left (has row k) (not (change.removed k)) within in
              inr (
                k,
                member,
                holds k (and_intro (change.before.live k) (not (change.removed k)) (live k member) (and_right (has row k) (not (change.removed k)) within))
                    (and_right (in_rest k) (among (change.before.symbols k) s) q.2),
              ))
        ],
      )

  module _ (side : Side) (antitone : IsAntitone (logic_of change.after.symbols (change.after.local side))) where
    abbrev is_foreign : ℕ → Bool
    is_foreign k = change.added k && not (change.after.local side rest k)

    -- an added axiom that is not local for a set with no more of its symbols than stay
    pub foreign : (seen : ℕ → Bool) → ((a s : ℕ) → IsTrue (change.added a) → IsTrue (among (change.after.symbols a) s) → IsTrue (seen s) → IsTrue (rest s))
        → (a : ℕ) → IsTrue (change.added a) → IsFalse (change.after.local side seen a) → IsTrue (has_foreign change side i (has row))
    foreign seen within a new not_local =
        let fails : IsFalse (change.after.local side rest a) = false_of (change.after.local side rest a) (λ t. not_both (antitone.shrinks seen rest a (λ s h v. within a s new h v) t) not_local) in
        some_passes change is_foreign a (below a new) (and_intro (change.added a) (not (change.after.local side rest a)) new (false_not (change.after.local side rest a) fails))

    -- each added axiom is local for a set with all its symbols that stay
    pub none_foreign : (seen : ℕ → Bool) → ((a s : ℕ) → IsTrue (change.added a) → IsTrue (among (change.after.symbols a) s) → IsTrue (rest s) → IsTrue (seen s))
        → ((a : ℕ) → IsTrue (change.added a) → IsTrue (change.after.local side seen a)) → IsFalse (has_foreign change side i (has row))
    none_foreign seen within all = false_of (has_foreign change side i (has row)) (λ t.
        let q = has_of_any is_foreign (range_with_len 0 change.slots) t in
        let new : IsTrue (change.added q.0) = and_left (change.added q.0) (not (change.after.local side rest q.0)) q.2 in
        let not_local : IsFalse (change.after.local side rest q.0) = not_true (change.after.local side rest q.0) (and_right (change.added q.0) (not (change.after.local side rest q.0)) q.2) in
        not_both (antitone.shrinks rest seen q.0 (λ s h v. within q.0 s new h v) (all q.0 new)) not_local)

-- where nothing was added, nothing is foreign
pub nothing_added : (change : Change) (side : Side) (i : ℕ) (M : ℕ → Bool) → ((k : ℕ) → IsTrue (change.added k) → ⊥) → IsFalse (has_foreign change side i M)
nothing_added change side i M none = false_of (has_foreign change side i M) (λ t.
    let test : ℕ → Bool = λ k. change.added k && not (change.after.local side (rest_symbols change i M) k) in
    let q = has_of_any test (range_with_len 0 change.slots) t in
    none q.0 (and_left (change.added q.0) (not (change.after.local side (rest_symbols change i M) q.0)) q.2))
