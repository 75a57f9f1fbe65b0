-- The symbols in the signatures of slots.
use Rattle.std.specs.Prelude.{◌↔◌, ℕ, ◌<◌, Bool, List, IsTrue}
use Rattle.ad_theory.specs.Numbers.{among}

-- just the symbols of these slots are in the closure
abbrev pub IsClosureOf : (ℕ → List ℕ) → (ℕ → Bool) → (ℕ → Bool) → Type 0
IsClosureOf symbols slots closure = (s : ℕ) → IsTrue (closure s) ↔ ((i : ℕ) × IsTrue (slots i) × IsTrue (among (symbols i) s))

-- the same of the slots below a number
abbrev pub IsClosureBelow : (ℕ → List ℕ) → (ℕ → Bool) → ℕ → (ℕ → Bool) → Type 0
IsClosureBelow symbols slots below closure = (s : ℕ) → IsTrue (closure s) ↔ ((i : ℕ) × IsTrue (slots i) × (i < below) × IsTrue (among (symbols i) s))
