-- What a sink gains from a text that is written piece by piece, and how the bytes of a text are counted.
use Rattle.std.specs.Prelude.{◌≡◌, ℕ, ◌+◌, ◌-◌, ◌^◌, ◌≤◌, List, [], ◌++◌, length, Option, min}
use Rattle.ad_io.specs.declared.writes.Wrote.{Wrote}
use Rattle.ad_io.specs.declared.writes.Wrote.TheVariants.{All, Failed}
use Rattle.ad_io.specs.Flow.{Gains, GainsFront}
use Rattle.ad_io.specs.Sink.{PutCause}

-- what waited was written behind what was written, and of the text a front; the rest of it waits
pub record GainsAhead (old new : Option (List ℕ)) (waited waiting text : List ℕ) : Type 0 where
  pub front : List ℕ
  pub whole : waited ++ text ≡ front ++ waiting
  pub gained : Gains old new front

-- Where all before it was written, a text is written too and its end waits, or a front is written. After a failure
-- nothing is.
abbrev pub Goes : Option (List ℕ) → Option (List ℕ) → List ℕ → List ℕ → Wrote → Wrote → List ℕ → Type 0
Goes old new waited waiting All All text = GainsAhead old new waited waiting text
Goes old new waited waiting All Failed text = GainsFront old new (waited ++ text)
Goes old new waited waiting Failed after text = (after ≡ Failed) × Gains old new []

-- and what becomes of the sink's count of faults
abbrev pub Counts : ℕ → ℕ → Wrote → Wrote → Type 0
Counts old new All after = PutCause old new after
Counts old new Failed after = (after ≡ Failed) × (old ≡ new)

-- a number, or the greatest u64 where it is above that
abbrev pub capped : ℕ → ℕ
capped n = min n (2 ^ 64 - 1)

-- the length of a text is added to a count that is a u64 and stays at the greatest one
abbrev pub Weighs : ℕ → ℕ → List ℕ → Type 0
Weighs old new text = old ≤ 2 ^ 64 - 1 → new ≡ capped (old + length text)
