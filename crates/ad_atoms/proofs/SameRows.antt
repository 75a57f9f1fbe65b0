-- Where rows nest, the largest rows among those of a slot's members are the same as the slot's.
use Rattle.std.proofs.Common.{◌≡◌, ℕ, Bool, List, Some, length, slice_index, IsTrue, inl, inr, sym, ◌∙◌, subst, arith}
use Rattle.std.specs.Cmp.{both_ways}
use Rattle.std.specs.List.{Contains}
use Rattle.ad_base.specs.declared.limits.Kind.{Kind}
use Rattle.ad_bits.specs.Rows.{has}
use Rattle.ad_bits.proofs.Rows.{member_count-subset, member_count-outside}
use Rattle.ad_tables.specs.Rows.{Tables, of_kind, row_of}
use Rattle.ad_theory.proofs.Members.{either, and_intro, and_left, and_right}
use Rattle.ad_decomposition.specs.Tables.{AreNested, HaveRows, is_in_row_of}
use Rattle.ad_sizes.specs.Sizes.{sizes_of, AreLargest}
use Rattle.ad_atoms.specs.Numbering.{is_mutual}
use Rattle.ad_sizes.proofs.NestedRows.{size_at, has_in, subset}

module _ (tables : Tables) (kind : Kind) (order : List ℕ) (have : HaveRows tables kind (length (of_kind tables kind)) order) (nest : AreNested (is_in_row_of tables kind) order) where
  module _ (a : ℕ) (o : Contains order a) (t : IsTrue (is_in_row_of tables kind a a)) (left : List Bool) (largest : AreLargest (slice_index (sizes_of tables kind)) (have.rows a o).0 left) where
    largest_mutual : (b : ℕ) → IsTrue (has left b) → IsTrue (is_mutual (is_in_row_of tables kind) a b)
    largest_mutual b s =
        let G : ℕ → ℕ → Bool = is_in_row_of tables kind in
        let h = (largest.largest b).0 s in
        let m : IsTrue (G a b) = has_in tables kind order have nest a b o ∙ h.0 in
        let q = nest.within a b o m in
        let own = sym (has_in tables kind order have nest a a o) ∙ t in
        and_intro (G a b) (G b a) m (has_in tables kind order have nest b a q ∙ elim (either (has (have.rows b q).0 a)) [
          | inl u ↦ u
          | inr f ↦ (
              let less = member_count-outside (have.rows b q).0 (have.rows a o).0 a (subset tables kind order have nest a b o q m) f own in
              absurd (omega (arith, h.1 a own, size_at tables kind order have nest a o, size_at tables kind order have nest b q))
              )
        ])

    mutual_largest : (b : ℕ) → IsTrue (is_mutual (is_in_row_of tables kind) a b) → IsTrue (has left b)
    mutual_largest b m =
        let G : ℕ → ℕ → Bool = is_in_row_of tables kind in
        let down = and_left (G a b) (G b a) m in
        let up = and_right (G a b) (G b a) m in
        let q = nest.within a b o down in
        (largest.largest b).1 (
          sym (has_in tables kind order have nest a b o) ∙ down,
          λ k s.
              let inside : IsTrue (G a k) = has_in tables kind order have nest a k o ∙ s in
              let p = nest.within a k o inside in
              let less = member_count-subset (have.rows k p).0 (have.rows b q).0 (subset tables kind order have nest b k q p (nest.nested b a k q up inside)) in
              omega (arith, size_at tables kind order have nest k p, size_at tables kind order have nest b q),
        )

  pub largest_are_same : (a : ℕ) → Contains order a → IsTrue (is_in_row_of tables kind a a) → (row left : List Bool) → row_of tables kind a ≡ Some row →
      AreLargest (slice_index (sizes_of tables kind)) row left → (b : ℕ) → has left b ≡ is_mutual (is_in_row_of tables kind) a b
  largest_are_same a o t row left is largest b =
      let r = have.rows a o in
      let e : Some row ≡ Some r.0 = sym is ∙ r.1 in
      let e' : row ≡ r.0 = cc in
      let l = subst (λ m. AreLargest (slice_index (sizes_of tables kind)) m left) e' largest in
      both_ways (has left b) (is_mutual (is_in_row_of tables kind) a b) (largest_mutual a o t left l b) (mutual_largest a o t left l b)
