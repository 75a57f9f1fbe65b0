-- Which slots a change affects.
use Rattle.std.proofs.Common.{◌≡◌, ℕ, ◌<◌, Bool, true, false, refl, ◌&&◌, ◌||◌, not, IsTrue, IsFalse, inl, inr, sym, ◌∙◌, ap}
use Rattle.std.specs.List.{range_with_len}
use Rattle.ad_base.specs.declared.limits.Kind.{Kind}
use Rattle.ad_base.specs.declared.limits.Kind.TheVariants.{Bottom, Top, Star}
use Rattle.ad_base.specs.declared.limits.Side.TheVariants as sides
use Rattle.ad_bits.specs.Rows.{has}
use Rattle.ad_tables.specs.Rows.{Tables}
use Rattle.ad_theory.proofs.Members.{either, not_both, or_left, or_right, and_intro, and_left, and_right, has_of_any, false_not}
use Rattle.ad_decomposition.specs.Affected.{Change, IsChangeOfSlots, meets_removed, has_foreign, has_foreign_of, affected}
use Rattle.ad_decomposition.specs.Tables.{is_in_row_of}
use Rattle.ad_repair.specs.declared.marks.Foreign.{Foreign}
use Rattle.ad_repair.specs.Changes.{stays}
use Rattle.ad_repair.specs.Marks.{AreForeign, AllStay, foreign_of}
use Rattle.ad_repair.proofs.ForeignLemmas.{some_passes, false_of}

-- a disjunction whose first part is false
pub or_second : (a b : Bool) → IsFalse a → (a || b) ≡ b
or_second a b f = rw f refl

-- and one whose second part is
pub or_false : (a b : Bool) → IsFalse b → (a || b) ≡ a
or_false true b f = refl
or_false false b f = f

-- the answer of a search for a removed slot
pub met : (change : Change) (M : ℕ → Bool) (b : Bool) → ((k : ℕ) → IsTrue (change.removed k) → k < change.slots)
    → (IsTrue b → (k : ℕ) × IsTrue (M k) × IsTrue (change.removed k)) → (IsFalse b → (k : ℕ) → IsTrue (M k) → IsFalse (change.removed k)) → b ≡ meets_removed change M
met change M b below some none =
    let test : ℕ → Bool = λ k. M k && change.removed k in
    elim (either b) [
      | inl t ↦ (let s = some t in t ∙ sym (some_passes change test s.0 (below s.0 s.2) (and_intro (M s.0) (change.removed s.0) s.1 s.2)))
      | inr f ↦ f ∙ sym (false_of (meets_removed change M) (λ h.
          let q = has_of_any test (range_with_len 0 change.slots) h in
          not_both (and_right (M q.0) (change.removed q.0) q.2) (none f q.0 (and_left (M q.0) (change.removed q.0) q.2))))
    ]

module _ (change : Change) (rows : Tables) where
  pub affected_added : (kind : Kind) (i : ℕ) → IsTrue (change.added i) → IsTrue (affected change rows kind i)
  affected_added kind i t = or_left (change.added i) (meets_removed change (is_in_row_of rows kind i) || has_foreign_of change rows kind i) t

  module _ (foreign : Foreign) (are : AreForeign change rows foreign) where
    foreign_is : (kind : Kind) (i : ℕ) → IsTrue (stays change i) → foreign_of foreign kind i ≡ has_foreign_of change rows kind i
    foreign_is Bottom i s = are.bottom i s
    foreign_is Top i s = are.top i s
    foreign_is Star i s = ap (λ b. b && has foreign.top i) (are.bottom i s) ∙ ap (λ b. has_foreign change sides.Bottom i (is_in_row_of rows Bottom i) && b) (are.top i s)

    pub affected_foreign : (kind : Kind) (i : ℕ) → IsTrue (stays change i) → IsTrue (foreign_of foreign kind i) → IsTrue (affected change rows kind i)
    affected_foreign kind i s t =
        let foreign_too : IsTrue (has_foreign_of change rows kind i) = sym (foreign_is kind i s) ∙ t in
        or_right (change.added i) (meets_removed change (is_in_row_of rows kind i) || has_foreign_of change rows kind i)
        (or_right (meets_removed change (is_in_row_of rows kind i)) (has_foreign_of change rows kind i) foreign_too)

    pub affected_met : (kind : Kind) (i : ℕ) (b : Bool) → IsFalse (change.added i) → IsTrue (stays change i) → IsFalse (foreign_of foreign kind i)
        → b ≡ meets_removed change (is_in_row_of rows kind i) → b ≡ affected change rows kind i
    affected_met kind i b n s f e =
        let none : IsFalse (has_foreign_of change rows kind i) = sym (foreign_is kind i s) ∙ f in
        e ∙ sym (or_false (meets_removed change (is_in_row_of rows kind i)) (has_foreign_of change rows kind i) none)
        ∙ sym (or_second (change.added i) (meets_removed change (is_in_row_of rows kind i) || has_foreign_of change rows kind i) n)

-- after a change, a live slot without an added axiom held its axiom before
pub all_stay : (change : Change) → IsChangeOfSlots change → AllStay change
all_stay change is i live n = elim (either (change.removed i)) [
  | inl r ↦ absurd (not_both live (is.gone i r n))
  | inr f ↦ and_intro (change.before.live i) (not (change.removed i)) (is.others i f n ∙ live) (false_not (change.removed i) f)
]
