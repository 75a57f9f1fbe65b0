-- What a tally has counted. Its counts stand still at their type's end.
use Rattle.std.specs.Prelude.{◌≡◌, ℕ, ◌+◌, ◌-◌, ◌^◌, ◌≤◌, ◌<◌, ◌⊎◌}

-- tests of locality, and extractions
pub record Counts : Type 0 where
  pub tests : ℕ
  pub runs : ℕ

-- n more than before; or the last number of the type, where that many are more than it has
abbrev pub IsRaisedBy : ℕ → ℕ → ℕ → Type 0
IsRaisedBy n before after = (after ≡ before + n) ⊎ ((after ≡ 2 ^ 64 - 1) × (before ≤ after) × (after < before + n))
