-- What reading a byte, a line or a payload may answer.
use Rattle.std.specs.Prelude.{◌≡◌, ◌≢◌, ℕ, ◌<◌, ◌≤◌, List, [], ◌∷◌, ◌++◌, Option, length}
use Rattle.ad_io.specs.Flow.{Loses, LosesExactly, IsAtEnd, Rose}
use Rattle.ad_io.specs.declared.source.Got.{Got}
use Rattle.ad_io.specs.declared.source.Got.TheVariants as got
use Rattle.ad_items.specs.declared.line.Byte.{Byte}
use Rattle.ad_items.specs.declared.line.Byte.TheVariants as byte
use Rattle.ad_items.specs.declared.line.LineEnd.{LineEnd}
use Rattle.ad_items.specs.declared.line.LineEnd.TheVariants as line_end
use Rattle.ad_items.specs.declared.payload.Filled.{Filled}
use Rattle.ad_items.specs.declared.payload.Filled.TheVariants as filled
use Rattle.ad_items.specs.declared.payload.PayloadEnd.{PayloadEnd}
use Rattle.ad_items.specs.declared.payload.PayloadEnd.TheVariants as payload_end
use Rattle.ad_items.specs.Items.{IsShort, IsLongLine}

-- fewer than so many bytes are lost
pub record LosesFewer (old new : Option (List ℕ)) (count : ℕ) : Type 0 where
  pub bytes : List ℕ
  pub fewer : length bytes < count
  pub lost : Loses old new bytes

-- the next byte
abbrev pub IsByte : Option (List ℕ) → Option (List ℕ) → Byte → Type 0
IsByte old new (byte.Is b) = Loses old new (b ∷ [])
IsByte old new byte.End = IsAtEnd new × Loses old new []
IsByte old new byte.Failed = Loses old new []

pub record ByteCause (before now : ℕ) (answer : Byte) : Type 0 where
  pub later : before ≤ now
  pub failed : answer ≡ byte.Failed → Rose before now

-- a line without its line feed, or the bytes before the end or the failure
abbrev pub IsLine : Option (List ℕ) → Option (List ℕ) → List ℕ → LineEnd → Type 0
IsLine old new line line_end.Whole = IsShort line × Loses old new (line ++ 10 ∷ [])
IsLine old new line line_end.Closed = IsAtEnd new × Loses old new []
IsLine old new line line_end.Cut = IsShort line × (line ≢ []) × IsAtEnd new × Loses old new line
IsLine old new line line_end.TooLong = IsLongLine line × Loses old new line
IsLine old new line line_end.Failed = IsShort line × Loses old new line

pub record LineCause (before now : ℕ) (answer : LineEnd) : Type 0 where
  pub later : before ≤ now
  pub failed : answer ≡ line_end.Failed → Rose before now

-- the buffer is filled
abbrev pub Fills : Option (List ℕ) → Option (List ℕ) → List ℕ → Filled → Type 0
Fills old new buffer filled.Whole = Loses old new buffer
Fills old new buffer filled.Cut = IsAtEnd new × LosesFewer old new (length buffer)
Fills old new buffer filled.Failed = LosesFewer old new (length buffer)

-- that many bytes are passed over
abbrev pub Skips : Option (List ℕ) → Option (List ℕ) → ℕ → Filled → Type 0
Skips old new size filled.Whole = LosesExactly old new size
Skips old new size filled.Cut = IsAtEnd new × LosesFewer old new size
Skips old new size filled.Failed = LosesFewer old new size

pub record FillCause (before now : ℕ) (answer : Filled) : Type 0 where
  pub later : before ≤ now
  pub failed : answer ≡ filled.Failed → Rose before now

-- a payload of this size is read, or its bytes are dropped
abbrev pub IsPayload : Option (List ℕ) → Option (List ℕ) → ℕ → PayloadEnd → Type 0
IsPayload old new size (payload_end.Full bytes) = (length bytes.items ≡ size) × Loses old new bytes.items
IsPayload old new size payload_end.Dropped = (0 < size) × LosesExactly old new size
IsPayload old new size payload_end.Cut = IsAtEnd new × LosesFewer old new size
IsPayload old new size payload_end.Failed = LosesFewer old new size

pub record PayloadCause (before now : ℕ) (answer : PayloadEnd) : Type 0 where
  pub later : before ≤ now
  pub failed : answer ≡ payload_end.Failed → Rose before now

-- at most that many bytes are passed over
abbrev pub IsPiece : Option (List ℕ) → Option (List ℕ) → ℕ → Got → Type 0
IsPiece old new most (got.Bytes n) = (0 < n) × (n ≤ most) × LosesExactly old new n
IsPiece old new most got.End = IsAtEnd new × Loses old new []
IsPiece old new most got.Failed = Loses old new []
