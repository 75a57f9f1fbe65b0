-- What a search for a module leaves.
use Rattle.std.specs.Prelude.{◌≡◌, ℕ, Bool, List, ◌⊎◌, IsTrue, length}
use Rattle.ad_bits.specs.Rows.{has}
use Rattle.ad_theory.specs.Module.{Logic, IsModule}
use Rattle.ad_theory.specs.Sweep.{IsGathered}

-- the axioms of M were gathered, and each other axiom of O is local for what was seen
pub record IsSearched {A E : Type 0} (L : Logic A E) (seed : E → Bool) (O : A → Type 0) (M : A → Bool) (S : E → Bool) : Type 0 where
  pub gathered : IsGathered L seed O (λ a. IsTrue (M a)) S
  pub rest : (a : A) → O a → IsTrue (M a) ⊎ IsTrue (L.local S a)

-- the rows, of these sizes, are what a search for the module for the slot's own signature leaves
pub record IsSearchedRow (L : Logic ℕ ℕ) (live : ℕ → Bool) (slots symbols slot : ℕ) (row closure : List Bool) : Type 0 where
  pub row_size : length row ≡ slots
  pub closure_size : length closure ≡ symbols
  pub searched : IsSearched L (L.sig slot) (λ i. IsTrue (live i)) (has row) (has closure)

-- the row, of this size, is the module for the slot's own signature
pub record IsSideRow (L : Logic ℕ ℕ) (live : ℕ → Bool) (slots slot : ℕ) (row : List Bool) : Type 0 where
  pub size : length row ≡ slots
  pub found : (S : ℕ → Bool) × IsModule L (L.sig slot) (λ i. IsTrue (live i)) (has row) S
