-- Rows that nest, and their sizes.
use Rattle.std.proofs.Common.{◌≡◌, ℕ, Bool, List, Some, None, length, slice_index, IsTrue, sym, ◌∙◌, ap}
use Rattle.std.specs.List.{Contains}
use Rattle.std.proofs.lemmas.List.{get_or-map}
use Rattle.ad_base.specs.declared.limits.Kind.{Kind}
use Rattle.ad_bits.specs.Rows.{has, member_count, IsSubset}
use Rattle.ad_tables.specs.Rows.{Tables, of_kind, row_of}
use Rattle.ad_decomposition.specs.Tables.{AreNested, HaveRows, is_in, is_in_row_of}
use Rattle.ad_sizes.specs.Sizes.{size_of, sizes_of}

module _ (tables : Tables) (kind : Kind) (order : List ℕ) (have : HaveRows tables kind (length (of_kind tables kind)) order) (nest : AreNested (is_in_row_of tables kind) order) where
  pub size_at : (b : ℕ) → (o : Contains order b) → slice_index (sizes_of tables kind) b ≡ member_count (have.rows b o).0
  size_at b o = get_or-map size_of (of_kind tables kind) b None 0 (have.below b o) ∙ ap size_of (have.rows b o).1

  pub has_in : (b k : ℕ) → (o : Contains order b) → is_in_row_of tables kind b k ≡ has (have.rows b o).0 k
  has_in b k o = ap (λ r. is_in r k) (have.rows b o).1

  -- the row of what is in the module of b lies in that of b
  pub subset : (b k : ℕ) → (o : Contains order b) → (q : Contains order k) → IsTrue (is_in_row_of tables kind b k) → IsSubset (have.rows k q).0 (have.rows b o).0
  subset b k o q t i s = sym (has_in b i o) ∙ nest.nested b k i o t (has_in k i q ∙ s)
