-- The input of a session, split into items and an end. An item is a line with the payload that it announces.
use Rattle.std.specs.Prelude.{◌≡◌, ◌≢◌, ◌⊎◌, ℕ, ◌+◌, ◌<◌, ◌≤◌, List, [], ◌∷◌, ◌++◌, Option, None, Some, length, flat_map}
use Rattle.std.specs.List.{AllByRecursion}
use Rattle.ad_base.specs.declared.limits.Limits.{Limits}
use Rattle.ad_io.specs.Flow.{IsAtEnd}
use Rattle.ad_request.specs.declared.request.Request.{Request}
use Rattle.ad_request.specs.declared.request.Request.TheVariants.{Quit}
use Rattle.ad_request.specs.Requests.{Asks, payload_size, request_line}

-- how many bytes a payload, and how many items a session, may have
pub record Bounds : Type 0 where
  pub payload : ℕ
  pub requests : ℕ

abbrev pub bounds_of : Limits → Bounds
bounds_of limits = record { payload = limits.payload; requests = limits.requests }

-- a line without its line feed, what it asks for, and the payload behind it
pub record Item : Type 0 where
  pub line : List ℕ
  pub asked : Option Request
  pub payload : List ℕ

abbrev pub item : List ℕ → Option Request → List ℕ → Item
item line asked payload = record { line = line; asked = asked; payload = payload }

-- the item as it stands in the input
abbrev pub item_bytes : Item → List ℕ
item_bytes i = i.line ++ 10 ∷ i.payload

-- how many bytes stand behind a line
abbrev pub size_of : Option Request → ℕ
size_of None = 0
size_of (Some request) = payload_size request

-- no line feed is among the bytes
abbrev pub IsUnbroken : List ℕ → Type 0
IsUnbroken bytes = AllByRecursion (λ byte. byte ≢ 10) bytes

-- a line, or a part of one, of at most 256 bytes
pub record IsShort (line : List ℕ) : Type 0 where
  pub unbroken : IsUnbroken line
  pub short : length line ≤ 256

-- what is answered: any line but that of the end, whose payload is whole and within the bound
pub record IsItem (bounds : Bounds) (i : Item) : Type 0 where
  pub short : IsShort i.line
  pub asks : Asks i.line i.asked
  pub goes_on : i.asked ≢ Some Quit
  pub within : size_of i.asked ≤ bounds.payload
  pub whole : length i.payload ≡ size_of i.asked

-- how the input of a session ends
pub data Ending : Type 0 where
  -- with the request for the end
  quit : Ending
  -- before the first byte of a line
  closed : Ending
  -- inside a line or a payload
  cut : Ending
  -- at the 257th byte of a line, or at a line whose payload is too long
  too_long : Ending
  -- after as many items as a session may have
  spent : Ending

-- the bytes are a line and a payload within the bound that misses some of its bytes
pub record IsCutPayload (bounds : Bounds) (bytes : List ℕ) : Type 0 where
  pub line : List ℕ
  pub request : Request
  pub part : List ℕ
  pub short : IsShort line
  pub asks : Asks line (Some request)
  pub within : payload_size request ≤ bounds.payload
  pub missing : length part < payload_size request
  pub whole : bytes ≡ line ++ 10 ∷ part

-- the bytes are a line whose payload is above the bound
pub record IsAboveBound (bounds : Bounds) (bytes : List ℕ) : Type 0 where
  pub line : List ℕ
  pub request : Request
  pub short : IsShort line
  pub asks : Asks line (Some request)
  pub above : bounds.payload < payload_size request
  pub whole : bytes ≡ line ++ 10 ∷ []

-- the bytes are the first 257 of a line
pub record IsLongLine (bytes : List ℕ) : Type 0 where
  pub unbroken : IsUnbroken bytes
  pub long : length bytes ≡ 257

-- The input ends so behind the items: with these bytes, where that much is left. A source may tell nothing of what
-- is left.
abbrev pub Closes : Bounds → Ending → List ℕ → Option (List ℕ) → Type 0
Closes bounds quit taken left = taken ≡ request_line Quit ++ 10 ∷ []
Closes bounds closed taken left = (taken ≡ []) × IsAtEnd left
Closes bounds cut taken left = IsAtEnd left × ((IsShort taken × (taken ≢ [])) ⊎ IsCutPayload bounds taken)
Closes bounds too_long taken left = IsLongLine taken ⊎ IsAboveBound bounds taken
Closes bounds spent taken left = taken ≡ []

-- after so many items: a session ends for having answered many exactly where it answered as many as it may
abbrev pub InTime : Bounds → Ending → ℕ → Type 0
InTime bounds quit count = count < bounds.requests
InTime bounds closed count = count < bounds.requests
InTime bounds cut count = count < bounds.requests
InTime bounds too_long count = count < bounds.requests
InTime bounds spent count = bounds.requests ≤ count

-- the items are those that a session may have, of which it has answered n before
pub record AreItems (bounds : Bounds) (n : ℕ) (items : List Item) : Type 0 where
  pub each : AllByRecursion (IsItem bounds) items
  pub room : (items ≡ []) ⊎ (n + length items ≤ bounds.requests)

-- the bytes are these items, then the end's, then what is left
pub record Items (bounds : Bounds) (n : ℕ) (bytes : List ℕ) (items : List Item) (ending : Ending) (taken left : List ℕ) : Type 0 where
  pub items_are : AreItems bounds n items
  pub closes : Closes bounds ending taken (Some left)
  pub in_time : InTime bounds ending (n + length items)
  pub whole : bytes ≡ flat_map item_bytes items ++ (taken ++ left)

-- a split of the input
pub record Split : Type 0 where
  pub items : List Item
  pub ending : Ending
  pub taken : List ℕ
  pub left : List ℕ

abbrev pub split : List Item → Ending → List ℕ → List ℕ → Split
split items ending taken left = record { items = items; ending = ending; taken = taken; left = left }

-- bytes are split in one way only
abbrev pub SplitsOnce : Type 0
SplitsOnce = (bounds : Bounds) (n : ℕ) (bytes : List ℕ) (one other : Split) → Items bounds n bytes one.items one.ending one.taken one.left → Items bounds n bytes other.items other.ending other.taken other.left → one ≡ other

-- and there is such a way
abbrev pub SplitsAlways : Type 0
SplitsAlways = (bounds : Bounds) (n : ℕ) (bytes : List ℕ) → (s : Split) × Items bounds n bytes s.items s.ending s.taken s.left
