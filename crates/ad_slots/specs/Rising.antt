-- Lists of numbers that rise strictly.
use Rattle.std.specs.Prelude.{◌≡◌, ◌==◌, ◌||◌, ◌&&◌, not, ℕ, List}
use Rattle.std.specs.Ordering.{nat_cmp}
use Rattle.std.specs.List.Sorted.{IsStrictlySortedBy}
use Rattle.ad_theory.specs.Numbers.{among}

-- the list after rises, and has n and what stands in the list before
pub record IsWith (n : ℕ) (before after : List ℕ) : Type 0 where
  pub rising : IsStrictlySortedBy nat_cmp after
  pub members : (m : ℕ) → among after m ≡ (n == m || among before m)

-- the list after rises, and has what stands in the list before, but not n
pub record IsWithout (n : ℕ) (before after : List ℕ) : Type 0 where
  pub rising : IsStrictlySortedBy nat_cmp after
  pub members : (m : ℕ) → among after m ≡ (not (n == m) && among before m)
