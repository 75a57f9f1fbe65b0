-- The rows of genuine modules nest.
use Rattle.std.proofs.Common.{◌↔◌, Bool, ℕ, List, IsTrue, subst, sym}
use Rattle.std.specs.List.{Contains}
use Rattle.ad_base.specs.declared.limits.Kind.{Kind}
use Rattle.ad_base.specs.declared.limits.Kind.TheVariants.{Bottom, Top, Star}
use Rattle.ad_base.specs.declared.limits.Side.{Side}
use Rattle.ad_bits.specs.Rows.{has}
use Rattle.ad_theory.specs.Genuine.{IsGenuine}
use Rattle.ad_theory.specs.Numbers.{among}
use Rattle.ad_tables.specs.Rows.{Tables}
use Rattle.ad_theory.proofs.GenuineLemmas.{numbered_nested}
use Rattle.ad_decomposition.specs.Tables.{AreGenuine, AreNested, is_in, is_in_row_of}

module _ (symbols : ℕ → List ℕ) (local : Side → (ℕ → Bool) → ℕ → Bool) (live : ℕ → Bool) where
  genuine_live : (kind : Kind) (i : ℕ) (M : ℕ → Bool) → IsGenuine kind symbols local live i M → (j : ℕ) → IsTrue (M j) → IsTrue (live j)
  genuine_live Bottom i M m j t = m.1.within j t
  genuine_live Top i M m j t = m.1.within j t
  genuine_live Star i M m j t = m.1.0.within j t

  module _ (slots : ℕ) (tables : Tables) (kind : Kind) (genuine : AreGenuine symbols local live slots tables) where
    -- the row of a live axiom, and what it has
    has_in : (i j : ℕ) → (l : IsTrue (live i)) → IsTrue (is_in_row_of tables kind i j) → IsTrue (has (genuine.rows kind i l).0 j)
    has_in i j l t = subst (λ r. IsTrue (is_in r j)) (genuine.rows kind i l).1 t

    in_has : (i j : ℕ) → (l : IsTrue (live i)) → IsTrue (has (genuine.rows kind i l).0 j) → IsTrue (is_in_row_of tables kind i j)
    in_has i j l t = subst (λ r. IsTrue (is_in r j)) (sym (genuine.rows kind i l).1) t

    in_live : (i j : ℕ) → IsTrue (live i) → IsTrue (is_in_row_of tables kind i j) → IsTrue (live j)
    in_live i j l t = let r = genuine.rows kind i l in genuine_live kind i (has r.0) r.3 j (has_in i j l t)

    pub rows_nested : (order : List ℕ) → ((i : ℕ) → Contains order i ↔ IsTrue (live i)) → AreNested (is_in_row_of tables kind) order
    rows_nested order all = record {
      within = λ i j o t. (all j).1 (in_live i j ((all i).0 o) t);
      nested = λ i j k o s t.
          let l = (all i).0 o in
          let m = in_live i j l s in
          let r = genuine.rows kind i l in
          let q = genuine.rows kind j m in
          in_has i k l (numbered_nested symbols local live kind (among (symbols i)) j (has r.0) (has q.0) r.3.0 r.3.1 (has_in i j l s) q.3 k (has_in j k m t));
    }
