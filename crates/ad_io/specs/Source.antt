-- What a call of a source may answer.
use Rattle.std.specs.Prelude.{◌≡◌, ℕ, ◌<◌, ◌≤◌, List, [], Option, length, take}
use Rattle.ad_io.specs.declared.source.Got.{Got}
use Rattle.ad_io.specs.declared.source.Got.TheVariants.{Bytes, End, Failed}
use Rattle.ad_io.specs.Flow.{Loses, IsAtEnd, Rose}

-- a call that reads into this buffer: what was left, what is left, the answer, and the buffer afterwards
abbrev pub Reads : Option (List ℕ) → Option (List ℕ) → Got → List ℕ → Type 0
Reads old new (Bytes n) buffer = (0 < n) × (n ≤ length buffer) × Loses old new (take n buffer)
Reads old new End buffer = IsAtEnd new × Loses old new []
Reads old new Failed buffer = Loses old new []

-- the count of faults never falls, and a call fails only where it rises
pub record ReadCause (before now : ℕ) (got : Got) : Type 0 where
  pub later : before ≤ now
  pub failed : got ≡ Failed → Rose before now
