-- The numbers by which a client tells why something is refused.
use Rattle.std.specs.Prelude.{◌≡◌, ℕ, List, codes}
use Rattle.ad_reply.specs.declared.cause.Cause.{Cause}
use Rattle.ad_reply.specs.declared.cause.Cause.TheVariants as causes

-- the number of a cause, in decimal
abbrev pub number_word : Cause → List ℕ
number_word causes.Request = codes "10"
number_word causes.Syntax = codes "20"
number_word causes.Depth = codes "21"
number_word causes.Prefix = codes "22"
number_word causes.Unsupported = codes "23"
number_word causes.Limit = codes "30"
number_word causes.Atom = codes "41"
number_word causes.Moved = codes "50"
number_word causes.Memory = codes "90"
number_word causes.Shut = codes "91"

-- two causes with the same number are one
abbrev pub CausesDiffer : Type 0
CausesDiffer = (a b : Cause) → number_word a ≡ number_word b → a ≡ b
