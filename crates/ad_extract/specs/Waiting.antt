-- Symbols that were reached, and the stack of those that wait: the axioms in which they stand were not yet looked at.
use Rattle.std.specs.Prelude.{ℕ, ◌≤◌, not, ◌&&◌, Bool, List, [], ◌∷◌, length, IsTrue, IsFalse}
use Rattle.ad_bits.specs.Rows.{has, member_count}
use Rattle.ad_theory.specs.Numbers.{among}

-- no number stands in the list twice
abbrev pub AreDistinct : List ℕ → Type 0
AreDistinct [] = Unit {0}
AreDistinct (x ∷ xs) = IsFalse (among xs x) × AreDistinct xs

-- each symbol that waits was reached, and waits once
pub record IsWaiting (pending : List ℕ) (reached : List Bool) : Type 0 where
  pub part : (s : ℕ) → IsTrue (among pending s) → IsTrue (has reached s)
  pub distinct : AreDistinct pending
  pub room : length pending ≤ member_count reached

-- reached, and waiting no more
abbrev pub settled : List ℕ → List Bool → ℕ → Bool
settled pending reached s = has reached s && not (among pending s)
