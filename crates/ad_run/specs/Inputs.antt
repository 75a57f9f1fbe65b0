-- What a command reads.
use Rattle.std.specs.Prelude.{ℕ, ◌≤◌, List, Option, length}
use Rattle.ad_base.specs.Limits.{standard}
use Rattle.ad_io.specs.Flow.{Loses, IsAtEnd}

-- how many bytes a document has at most
abbrev pub payload_limit : ℕ
payload_limit = standard.payload

-- the source was read to its end, and had this text, which isn't too long
pub record IsRead (left left' : Option (List ℕ)) (text : List ℕ) : Type 0 where
  pub lost : Loses left left' text
  pub ended : IsAtEnd left'
  pub short : length text ≤ payload_limit
