-- How reading all that is left, up to a limit, may end.
use Rattle.std.specs.Prelude.{◌≡◌, ℕ, ◌+◌, ◌≤◌, List, Option, Result, Ok, Err, length}
use Rattle.ad_io.specs.declared.reads.ReadEnd.{ReadEnd}
use Rattle.ad_io.specs.declared.reads.ReadEnd.TheVariants.{Failed, Long, Memory}
use Rattle.ad_io.specs.Flow.{Loses, LosesExactly, LosesAtMost, IsAtEnd, Rose}

-- what was left, what is left, the limit, and the bytes that were read to the end
abbrev pub IsReading : Option (List ℕ) → Option (List ℕ) → ℕ → List ℕ → Result (Unit {0}) ReadEnd → Type 0
IsReading old new limit bytes (Ok done) = IsAtEnd new × Loses old new bytes × (length bytes ≤ limit)
IsReading old new limit bytes (Err Failed) = LosesAtMost old new limit
IsReading old new limit bytes (Err Long) = LosesExactly old new (limit + 1)
IsReading old new limit bytes (Err Memory) = LosesAtMost old new limit

-- the count of faults never falls, and reading fails only where it rises
pub record ReadingCause (before now : ℕ) (result : Result (Unit {0}) ReadEnd) : Type 0 where
  pub later : before ≤ now
  pub failed : result ≡ Err Failed → Rose before now
