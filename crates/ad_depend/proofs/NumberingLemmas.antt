-- The first slots of atoms, and the rows of those on which an atom depends.
use Rattle.std.proofs.Common.{◌≡◌, ◌≢◌, ◌↔◌, ℕ, ◌<◌, Bool, List, Some, None, length, get_or, slice_index, slice_index_or, IsTrue, IsFalse, inl, inr, sym, ◌∙◌, ap, subst, arith}
use Rattle.std.specs.List.{Contains}
use Rattle.std.proofs.lemmas.List.{get_or_default}
use Rattle.ad_base.specs.declared.limits.Kind.{Kind}
use Rattle.ad_bits.specs.Rows.{has}
use Rattle.ad_bits.proofs.Rows.{member_count-outside}
use Rattle.ad_tables.specs.Rows.{Tables, Numbered, of_kind, row_of}
use Rattle.ad_theory.proofs.Members.{either, Has, has_get_or, contains_of_has}
use Rattle.ad_decomposition.specs.Atoms.{atom_of, depends, depends_strictly, firsts, same_module}
use Rattle.ad_decomposition.specs.Tables.{AreNested, is_in_row_of}
use Rattle.ad_decomposition.proofs.Classes.{first_has, atom_of_own, atom_of_first}
use Rattle.ad_decomposition.proofs.Depends.{depends_itself, depends_member, member_depends, same_equivalence, same_intro, strictly_intro, strictly_down, strictly_not_up}
use Rattle.ad_decomposition.proofs.Firsts.{position_same}
use Rattle.ad_sizes.specs.Sizes.{sizes_of}
use Rattle.ad_sizes.proofs.NestedRows.{size_at, has_in, subset}
use Rattle.ad_depend.specs.Numbering.{AreAtomsOfOrder, HasBelow, IsFirst}
use Rattle.ad_depend.proofs.WalkLemmas.{AreRanked}

module _ (G : ℕ → ℕ → Bool) (order : List ℕ) where
  pub first_in : (k d : ℕ) → k < length (firsts G order) → Contains order (get_or (firsts G order) k d) × IsTrue (G (get_or (firsts G order) k d) (get_or (firsts G order) k d))
  first_in k d l = first_has G order (get_or (firsts G order) k d) (has_get_or (firsts G order) k d l)

  -- the firsts of two atoms are not the same
  pub firsts_apart : (i j d : ℕ) → i < length (firsts G order) → j < length (firsts G order) → IsTrue (same_module G order (get_or (firsts G order) i d) (get_or (firsts G order) j d)) → i ≡ j
  firsts_apart i j d k l t =
      let a : ℕ = get_or (firsts G order) i d in
      let b : ℕ = get_or (firsts G order) j d in
      let p = sym (atom_of_own G order a (first_in i d k).1) ∙ atom_of_first G order i d k in
      let q = sym (atom_of_own G order b (first_in j d l).1) ∙ atom_of_first G order j d l in
      let r : Some i ≡ Some j = sym p ∙ position_same (same_module G order) (same_equivalence G order) (firsts G order) a b t ∙ q in
      cc

  -- a first is one at a place
  pub place_of : (d c : ℕ) → Has (firsts G order) c → (k : ℕ) × (k < length (firsts G order)) × (get_or (firsts G order) k d ≡ c)
  place_of d c h = let p = contains_of_has (firsts G order) c h in (p.0, p.1, get_or_default (firsts G order) p.0 d c p.1 ∙ p.2)

  pub same_first : (a b : ℕ) → Has (firsts G order) a → Has (firsts G order) b → IsTrue (same_module G order a b) → a ≡ b
  same_first a b h k t =
      let p = place_of 0 a h in
      let q = place_of 0 b k in
      let same : p.0 ≡ q.0 = firsts_apart p.0 q.0 0 p.1 q.1 (subst (λ x. IsTrue (same_module G order x (get_or (firsts G order) q.0 0))) (sym p.2) (subst (λ y. IsTrue (same_module G order a y)) (sym q.2) t)) in
      sym p.2 ∙ ap (λ n. get_or (firsts G order) n 0) same ∙ q.2

  -- of two firsts one depends strictly on the other where that is another one in its module
  pub first_strict : AreNested G order → (a b : ℕ) → Has (firsts G order) a → Has (firsts G order) b → IsTrue (depends_strictly G order a b) ↔ ((b ≢ a) × IsTrue (G a b))
  first_strict nest a b h k =
      let o = first_has G order a h in
      let q = first_has G order b k in (
        λ t. (
          λ e. strictly_not_up G order a b t (subst (λ x. IsTrue (depends G order x a)) (sym e) (depends_itself G order a)),
          depends_member G order nest a b q.0 q.1 (strictly_down G order a b t),
        ),
        λ m. let down = member_depends G order nest a b o.0 m.1 in strictly_intro G order a b down (λ up. m.0 (sym (same_first a b h k (same_intro G order a b down up)))),
      )

module _ (tables : Tables) (kind : Kind) (order : List ℕ) (atoms : Numbered) (are : AreAtomsOfOrder tables kind order atoms) where
  pub first_at : (i d : ℕ) → i < length atoms.firsts → slice_index atoms.firsts i ≡ get_or (firsts (is_in_row_of tables kind) order) i d
  first_at i d l = get_or_default atoms.firsts i 0 d l ∙ ap (λ xs. get_or xs i d) are.numbered.firsts_are

  pub count_at : length atoms.firsts ≡ length (firsts (is_in_row_of tables kind) order)
  count_at = ap length are.numbered.firsts_are

  pub first_listed : (i : ℕ) → i < length atoms.firsts → Contains order (slice_index atoms.firsts i)
  first_listed i l = subst (Contains order) (sym (first_at i 0 l)) (first_in (is_in_row_of tables kind) order i 0 (omega (arith, count_at))).0

  -- the first axiom of an atom has a row
  pub first_has_row : (i : ℕ) → i < length atoms.firsts → row_of tables kind (slice_index atoms.firsts i) ≡ None → ⊥
  first_has_row i l none = let r = are.rows.rows (slice_index atoms.firsts i) (first_listed i l) in let e : Some r.0 ≡ None = sym r.1 ∙ none in cc

  -- the firsts of atoms are those that are listed
  pub first_is : (s : ℕ) → IsFirst atoms.firsts s → Has (firsts (is_in_row_of tables kind) order) s
  first_is s h = subst (Has (firsts (is_in_row_of tables kind) order)) (sym (first_at h.0 0 h.1) ∙ h.2) (has_get_or (firsts (is_in_row_of tables kind) order) h.0 0 (omega (arith, count_at)))

  pub is_first : (s : ℕ) → Has (firsts (is_in_row_of tables kind) order) s → IsFirst atoms.firsts s
  is_first s h = let p = place_of (is_in_row_of tables kind) order 0 s h in let l : p.0 < length atoms.firsts = omega (arith, count_at) in (p.0, l, first_at p.0 0 l ∙ p.2)

  pub first_below : (k : ℕ) → k < length atoms.firsts → slice_index atoms.firsts k < length (of_kind tables kind)
  first_below k l = are.rows.below (slice_index atoms.firsts k) (first_listed k l)

  -- the atom of a first is that which it begins
  pub atom_at : (j : ℕ) → j < length atoms.firsts → slice_index_or atoms.atom_of (slice_index atoms.firsts j) None ≡ Some j
  atom_at j l =
      let G : ℕ → ℕ → Bool = is_in_row_of tables kind in
      are.numbered.of_axioms (slice_index atoms.firsts j) (first_listed j l) ∙ ap (atom_of G order) (first_at j 0 l) ∙ atom_of_first G order j 0 (omega (arith, count_at))

  pub atom_of_first_is : (s : ℕ) → (h : IsFirst atoms.firsts s) → slice_index_or atoms.atom_of s None ≡ Some h.0
  atom_of_first_is s h = ap (λ k. slice_index_or atoms.atom_of k None) (sym h.2) ∙ atom_at h.0 h.1

  pub first_row : (s : ℕ) → IsFirst atoms.firsts s → (row : List Bool) × (row_of tables kind s ≡ Some row) × (length row ≡ length (of_kind tables kind))
  first_row s h = are.rows.rows s (first_has (is_in_row_of tables kind) order s (first_is s h)).0

  pub only_one : (i j : ℕ) → i < length atoms.firsts → j < length atoms.firsts → slice_index atoms.firsts j ≡ slice_index atoms.firsts i → j ≡ i
  only_one i j k l e = let same : Some j ≡ Some i = sym (atom_at j l) ∙ ap (λ s. slice_index_or atoms.atom_of s None) e ∙ atom_at i k in cc

  module _ (a : ℕ) (h : Has (firsts (is_in_row_of tables kind) order) a) (start : List Bool) (below : HasBelow (is_in_row_of tables kind) atoms.firsts a start) where
    pub start_first : (s : ℕ) → IsTrue (has start s) → Has (firsts (is_in_row_of tables kind) order) s
    start_first s t = first_is s ((below s).0 t).0

    -- the members of what is below are ranked by the sizes of their rows
    pub ranked : AreRanked (is_in_row_of tables kind) (slice_index (sizes_of tables kind)) start
    ranked =
        let G : ℕ → ℕ → Bool = is_in_row_of tables kind in
        record {
          own = λ s t. (first_has G order s (start_first s t)).1;
          nested = λ s b c t g u. are.nested.nested s b c (first_has G order s (start_first s t)).0 g u;
          smaller = λ x y s t g n.
              let hx = start_first x s in
              let hy = start_first y t in
              let ox = first_has G order x hx in
              let oy = first_has G order y hy in
              let strict = (first_strict G order are.nested x y hx hy).1 (λ e. n (sym e), g) in
              let out : IsFalse (G y x) = (elim (either (G y x)) [
                | inr f ↦ f
                | inl up ↦ absurd (strictly_not_up G order x y strict (member_depends G order are.nested y x oy.0 up))
              ]) in
              let less = member_count-outside (are.rows.rows y oy.0).0 (are.rows.rows x ox.0).0 x (subset tables kind order are.rows are.nested x y ox.0 oy.0 g)
              (sym (has_in tables kind order are.rows are.nested y x oy.0) ∙ out) (sym (has_in tables kind order are.rows are.nested x x ox.0) ∙ ox.1) in
              omega (arith, size_at tables kind order are.rows are.nested x ox.0, size_at tables kind order are.rows are.nested y oy.0);
        }

    -- what is below is what is depended on
    pub below_strict : (b : ℕ) → Has (firsts (is_in_row_of tables kind) order) b → IsTrue (has start b) ↔ IsTrue (depends_strictly (is_in_row_of tables kind) order a b)
    below_strict b k =
        let G : ℕ → ℕ → Bool = is_in_row_of tables kind in
        let s = first_strict G order are.nested a b h k in (
          λ t. let m = (below b).0 t in s.1 (m.1, m.2),
          λ t. let m = s.0 t in (below b).1 (is_first b k, m.0, m.1),
        )
