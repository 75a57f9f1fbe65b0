-- What reading one item may answer.
use Rattle.std.specs.Prelude.{◌≡◌, ◌⊎◌, ℕ, ◌<◌, ◌≤◌, List, Option, length}
use Rattle.ad_io.specs.Flow.{Loses, Rose}
use Rattle.ad_request.specs.declared.request.Request.{Request}
use Rattle.ad_items.specs.declared.item.Payload.{Payload}
use Rattle.ad_items.specs.declared.item.Payload.TheVariants as payloads
use Rattle.ad_items.specs.declared.item.Next.{Next}
use Rattle.ad_items.specs.declared.item.Next.TheVariants as next
use Rattle.ad_items.specs.Items.{Bounds, item, item_bytes, IsItem, IsShort, IsCutPayload, Closes, Ending, quit, closed, cut, too_long}

-- the payload was read, or its bytes were dropped for want of memory; where there are none, no memory is taken
abbrev pub HasBytes : Payload → List ℕ → Type 0
HasBytes (payloads.Full bytes) payload = bytes.items ≡ payload
HasBytes payloads.Dropped payload = 0 < length payload

-- an item was taken from the source
pub record TakesItem (bounds : Bounds) (old new : Option (List ℕ)) (asked : Option Request) (payload : Payload) : Type 0 where
  pub line : List ℕ
  pub bytes : List ℕ
  pub is : IsItem bounds (item line asked bytes)
  pub read : HasBytes payload bytes
  pub lost : Loses old new (item_bytes (item line asked bytes))

-- the end was taken from the source
pub record TakesEnd (bounds : Bounds) (ending : Ending) (old new : Option (List ℕ)) : Type 0 where
  pub taken : List ℕ
  pub closes : Closes bounds ending taken new
  pub lost : Loses old new taken

-- a part of an item was taken from the source, possibly nothing
pub record TakesPart (bounds : Bounds) (old new : Option (List ℕ)) : Type 0 where
  pub taken : List ℕ
  pub part : IsShort taken ⊎ IsCutPayload bounds taken
  pub lost : Loses old new taken

-- what was left, what is left, and the answer
abbrev pub IsNext : Bounds → Option (List ℕ) → Option (List ℕ) → Next → Type 0
IsNext bounds old new (next.Item asked payload) = TakesItem bounds old new asked payload
IsNext bounds old new next.Quit = TakesEnd bounds quit old new
IsNext bounds old new next.Closed = TakesEnd bounds closed old new
IsNext bounds old new next.Cut = TakesEnd bounds cut old new
IsNext bounds old new next.TooLong = TakesEnd bounds too_long old new
IsNext bounds old new next.Failed = TakesPart bounds old new

-- the count of faults never falls, and reading fails only where it rises
pub record NextCause (before now : ℕ) (answer : Next) : Type 0 where
  pub later : before ≤ now
  pub failed : answer ≡ next.Failed → Rose before now
