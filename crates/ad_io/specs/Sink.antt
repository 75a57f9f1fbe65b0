-- What a call of a sink, and a call that writes a whole piece, may answer.
use Rattle.std.specs.Prelude.{◌≡◌, ℕ, ◌<◌, ◌≤◌, List, [], Option, Result, Ok, Err, length, take}
use Rattle.ad_io.specs.declared.sink.Put.{Put}
use Rattle.ad_io.specs.declared.sink.Put.TheVariants.{Took, Failed}
use Rattle.ad_io.specs.declared.writes.Failed.{Failed as Stop}
use Rattle.ad_io.specs.declared.writes.Wrote.{Wrote}
use Rattle.ad_io.specs.declared.writes.Wrote.TheVariants.{All}
use Rattle.ad_io.specs.declared.writes.Wrote.TheVariants as wrote
use Rattle.ad_io.specs.Flow.{Gains, GainsFront, Rose}

-- a call that writes this piece: what was written, what is written, and the answer
abbrev pub Takes : Option (List ℕ) → Option (List ℕ) → Put → List ℕ → Type 0
Takes old new (Took n) piece = (0 < n) × (n ≤ length piece) × Gains old new (take n piece)
Takes old new Failed piece = Gains old new []

-- the count of faults never falls, and a call fails only where it rises
pub record WriteCause (before now : ℕ) (put : Put) : Type 0 where
  pub later : before ≤ now
  pub failed : put ≡ Failed → Rose before now

-- a whole piece was appended, or a front of it
abbrev pub Puts : Option (List ℕ) → Option (List ℕ) → Wrote → List ℕ → Type 0
Puts old new All bytes = Gains old new bytes
Puts old new wrote.Failed bytes = GainsFront old new bytes

-- what a writer of several pieces, which stops by `?`, amounts to
abbrev pub wrote_of : Result (Unit {0}) Stop → Wrote
wrote_of (Ok u) = wrote.All
wrote_of (Err e) = wrote.Failed

-- the count of faults never falls, and the whole fails only where it rises
pub record PutCause (before now : ℕ) (result : Wrote) : Type 0 where
  pub later : before ≤ now
  pub failed : result ≡ wrote.Failed → Rose before now
