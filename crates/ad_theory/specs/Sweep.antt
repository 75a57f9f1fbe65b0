-- Finding a module by sweeps: axioms are gathered one by one, each not local for the names seen so far.
use Rattle.std.specs.Prelude.{◌≡◌, ℕ, suc, ◌<◌, Bool, true, false, ◌⊎◌, ◌↔◌, IsTrue, IsFalse, List, [], ◌∷◌, length, slice_index_or}
use Rattle.std.specs.List.{Contains}
use Rattle.ad_theory.specs.Module.{Logic, IsClosed}

-- the axioms of M were gathered so far, and S is the seed with what stands in their signatures
pub record IsGathered {A E : Type 0} (L : Logic A E) (seed : E → Bool) (O M : A → Type 0) (S : E → Bool) : Type 0 where
  pub within : (a : A) → M a → O a
  pub only : (e : E) → IsTrue (S e) → IsTrue (seed e) ⊎ ((a : A) × M a × IsTrue (L.sig a e))
  pub has_seed : (e : E) → IsTrue (seed e) → IsTrue (S e)
  pub has_symbols : (a : A) (e : E) → M a → IsTrue (L.sig a e) → IsTrue (S e)
  -- each of them is in the module, and not local for what was seen
  pub below : (N : A → Bool) (T : E → Bool) → IsClosed L seed O N T → (a : A) → M a → IsTrue (N a)
  pub needed : (a : A) → M a → IsFalse (L.local S a)

-- the marked elements, in order
abbrev pub chosen : {A : Type 0} → List Bool → List A → List A
chosen [] xs = []
chosen (b ∷ bs) [] = []
chosen (true ∷ bs) (x ∷ xs) = x ∷ chosen bs xs
chosen (false ∷ bs) (x ∷ xs) = chosen bs xs

-- how many marks are not set
abbrev pub unmarked : List Bool → ℕ
unmarked [] = 0
unmarked (true ∷ bs) = unmarked bs
unmarked (false ∷ bs) = suc (unmarked bs)

-- a sweep over O stands here: there is a mark for each axiom, and the marked ones were gathered
pub record IsSweeping {A E : Type 0} (L : Logic A E) (seed : E → Bool) (O : List A) (marks : List Bool) (seen : E → Bool) : Type 0 where
  pub long : length marks ≡ length O
  pub gathered : IsGathered L seed (Contains O) (Contains (chosen marks O)) seen

-- each of the first n axioms of O is marked, or local for what was seen
abbrev pub IsSettledBelow : {A E : Type 0} → Logic A E → List A → List Bool → (E → Bool) → ℕ → Type 0
IsSettledBelow {A} L O marks seen n = (k : ℕ) (d : A) → k < n → IsFalse (slice_index_or marks k true) → IsTrue (L.local seen (slice_index_or O k d))

-- the set after has what the set before had and these names, and no more
abbrev pub HasAlso : {E : Type 0} → (E → Bool) → (E → Bool) → (E → Bool) → Type 0
HasAlso {E} before names after = (e : E) → IsTrue (after e) ↔ (IsTrue (before e) ⊎ IsTrue (names e))
