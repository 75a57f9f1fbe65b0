-- Covers and tops by the rows of what is below atoms.
use Rattle.std.proofs.Common.{◌≡◌, ◌↔◌, ℕ, ◌+◌, ◌<◌, Bool, ◌&&◌, not, List, length, get_or, slice_index, IsTrue, IsFalse, inl, inr, refl, sym, ◌∙◌, ap, subst, arith}
use Rattle.std.specs.Cmp.{both_ways}
use Rattle.std.specs.List.{list_any}
use Rattle.std.proofs.lemmas.Bool.{cases_eq, cases_lt}
use Rattle.std.proofs.lemmas.List.{get_or_default}
use Rattle.ad_base.specs.declared.limits.Kind.{Kind}
use Rattle.ad_bits.specs.Rows.{has}
use Rattle.ad_tables.specs.Rows.{Tables, Numbered}
use Rattle.ad_theory.proofs.Members.{Has, either, not_both, and_intro, and_left, and_right, not_true, false_not, has_get_or, has_of_any, any_of_has}
use Rattle.ad_decomposition.specs.Atoms.{covers, depends_strictly, firsts, is_top}
use Rattle.ad_decomposition.specs.Tables.{is_in_row_of}
use Rattle.ad_depend.specs.Numbering.{AreAtomsOfOrder, HasBelow, HasCovers, IsFirst}
use Rattle.ad_depend.proofs.NumberingLemmas.{first_at, count_at, first_strict, first_is, is_first, start_first, below_strict}
use Rattle.ad_depend.proofs.WalkLemmas.{IsUncovered}

-- the row has the firsts that are below none of so many atoms
abbrev pub AreAbove : Tables → Kind → List ℕ → Numbered → ℕ → List Bool → Type 0
AreAbove tables kind order atoms n tops = (b : ℕ) → IsTrue (has tops b) ↔ (IsFirst atoms.firsts b × ((i : ℕ) → i < n → IsFalse (depends_strictly (is_in_row_of tables kind) order (slice_index atoms.firsts i) b)))

module _ (tables : Tables) (kind : Kind) (order : List ℕ) (atoms : Numbered) (are : AreAtomsOfOrder tables kind order atoms) where
  module _ (a : ℕ) (h : Has (firsts (is_in_row_of tables kind) order) a) (start : List Bool) (below : HasBelow (is_in_row_of tables kind) atoms.firsts a start) where
    -- a member that no other has in its row is covered
    covered_is : (b : ℕ) → Has (firsts (is_in_row_of tables kind) order) b → (t : Bool) → (IsTrue t ↔ (IsTrue (has start b) × IsUncovered (is_in_row_of tables kind) start b)) → t ≡ covers (is_in_row_of tables kind) order a b
    covered_is b k t is =
        let G : ℕ → ℕ → Bool = is_in_row_of tables kind in
        let between : ℕ → Bool = λ c. depends_strictly G order a c && depends_strictly G order c b in
        let some : Bool = list_any between (firsts G order) in
        both_ways t (covers G order a b)
        (λ u.
        let m = is.0 u in
        and_intro (depends_strictly G order a b) (not some) ((below_strict tables kind order atoms are a h start below b k).0 m.0) (elim (either some) [
          | inr f ↦ false_not some f
          | inl v ↦ (
              let r = has_of_any between (firsts G order) v in
              let above = and_left (depends_strictly G order a r.0) (depends_strictly G order r.0 b) r.2 in
              let strict = (first_strict G order are.nested r.0 b r.1 k).0 (and_right (depends_strictly G order a r.0) (depends_strictly G order r.0 b) r.2) in
              absurd (strict.0 (sym (m.1 r.0 ((below_strict tables kind order atoms are a h start below r.0 r.1).1 above) strict.1)))
              )
        ]))
        (λ u. is.1 (
          (below_strict tables kind order atoms are a h start below b k).1 (and_left (depends_strictly G order a b) (not some) u),
          λ c s g. elim (cases_eq c b) [
            | inl e ↦ e
            | inr n ↦ (
                let q = start_first tables kind order atoms are a h start below c s in
                absurd (not_both
                (any_of_has between (firsts G order) c q
                (and_intro (depends_strictly G order a c) (depends_strictly G order c b)
                ((below_strict tables kind order atoms are a h start below c q).0 s)
                ((first_strict G order are.nested c b q k).1 (λ e. n (sym e), g))))
                (not_true some (and_right (depends_strictly G order a b) (not some) u)))
                )
          ],
        ))

  pub has_covers : (i : ℕ) → i < length atoms.firsts → (start row : List Bool) → HasBelow (is_in_row_of tables kind) atoms.firsts (slice_index atoms.firsts i) start →
      ((j : ℕ) → j < length atoms.firsts → IsTrue (has row j) ↔ (IsTrue (has start (slice_index atoms.firsts j)) × IsUncovered (is_in_row_of tables kind) start (slice_index atoms.firsts j))) →
      HasCovers (is_in_row_of tables kind) order i row
  has_covers i k start row below is j d l =
      let G : ℕ → ℕ → Bool = is_in_row_of tables kind in
      let i' : i < length (firsts G order) = omega (arith, count_at tables kind order atoms are) in
      let j' : j < length atoms.firsts = omega (arith, count_at tables kind order atoms are) in
      let a = first_at tables kind order atoms are i d k in
      let b = first_at tables kind order atoms are j d j' in
      covered_is (get_or (firsts G order) i d) (has_get_or (firsts G order) i d i') start (subst (λ s. HasBelow G atoms.firsts s start) a below)
      (get_or (firsts G order) j d) (has_get_or (firsts G order) j d l) (has row j)
      (subst (λ s. IsTrue (has row j) ↔ (IsTrue (has start s) × IsUncovered G start s)) b (is j j'))

  -- a first that is below none is a top
  pub top_is : (b : ℕ) → Has (firsts (is_in_row_of tables kind) order) b → (t : Bool) →
      (IsTrue t ↔ ((a : ℕ) → Has (firsts (is_in_row_of tables kind) order) a → IsFalse (depends_strictly (is_in_row_of tables kind) order a b))) → t ≡ is_top (is_in_row_of tables kind) order b
  top_is b k t is =
      let G : ℕ → ℕ → Bool = is_in_row_of tables kind in
      let above : ℕ → Bool = λ a. depends_strictly G order a b in
      let some : Bool = list_any above (firsts G order) in
      both_ways t (is_top G order b)
      (λ u. elim (either some) [
        | inr f ↦ false_not some f
        | inl v ↦ (let r = has_of_any above (firsts G order) v in absurd (not_both r.2 (is.0 u r.0 r.1)))
      ])
      (λ u. is.1 (λ a h. elim (either (depends_strictly G order a b)) [
        | inr f ↦ f
        | inl v ↦ absurd (not_both (any_of_has above (firsts G order) a h v) (not_true some u))
      ]))

  -- one atom more
  pub tops_more : (n : ℕ) → n < length atoms.firsts → (tops left new : List Bool) → HasBelow (is_in_row_of tables kind) atoms.firsts (slice_index atoms.firsts n) left →
      ((k : ℕ) → has new k ≡ (has tops k && not (has left k))) → AreAbove tables kind order atoms n tops → AreAbove tables kind order atoms (n + 1) new
  tops_more n l tops left new below is old b =
      let G : ℕ → ℕ → Bool = is_in_row_of tables kind in
      let a : ℕ = slice_index atoms.firsts n in
      let h = first_is tables kind order atoms are a (n, l, refl) in (
        λ t.
            let u = sym (is b) ∙ t in
            let m = (old b).0 (and_left (has tops b) (not (has left b)) u) in
            let out = not_true (has left b) (and_right (has tops b) (not (has left b)) u) in (
              m.0,
              λ i k. elim (cases_lt i n) [
                | inl less ↦ m.1 i less
                | inr not_less ↦ (
                    let here : n ≡ i = omega arith in
                    subst (λ x. IsFalse (depends_strictly G order (slice_index atoms.firsts x) b)) here
                    (elim (either (depends_strictly G order a b)) [
                      | inr f ↦ f
                      | inl v ↦ absurd (not_both ((below_strict tables kind order atoms are a h left below b (first_is tables kind order atoms are b m.0)).1 v) out)
                    ])
                    )
              ],
            ),
        λ m.
            is b ∙ and_intro (has tops b) (not (has left b)) ((old b).1 (m.0, λ i k. m.1 i (omega (arith, k))))
            (elim (either (has left b)) [
              | inr f ↦ false_not (has left b) f
              | inl v ↦ absurd (not_both ((below_strict tables kind order atoms are a h left below b (first_is tables kind order atoms are b m.0)).0 v) (m.1 n (omega arith)))
            ]),
      )

  pub tops_are : (n : ℕ) → n ≡ length atoms.firsts → (tops : List Bool) → AreAbove tables kind order atoms n tops → (j d : ℕ) → j < length atoms.firsts →
      has tops (slice_index atoms.firsts j) ≡ is_top (is_in_row_of tables kind) order (get_or atoms.firsts j d)
  tops_are n all tops above j d l =
      let G : ℕ → ℕ → Bool = is_in_row_of tables kind in
      let b : ℕ = slice_index atoms.firsts j in
      top_is b (first_is tables kind order atoms are b (j, l, refl)) (has tops b) (
        λ t a h. let p = is_first tables kind order atoms are a h in subst (λ x. IsFalse (depends_strictly G order x b)) p.2 (((above b).0 t).1 p.0 (omega (arith, p.1))),
        λ each. (above b).1 ((j, l, refl), λ i k. each (slice_index atoms.firsts i) (first_is tables kind order atoms are (slice_index atoms.firsts i) (i, omega (arith, k), refl))),
      )
      ∙ ap (is_top G order) (get_or_default atoms.firsts j 0 d l)
