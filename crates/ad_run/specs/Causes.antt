-- Why the input of a command on a document is refused.
use Rattle.std.specs.Prelude.{◌≡◌, ◌⊎◌, ℕ, ◌+◌, List}
use Rattle.ad_base.specs.declared.limits.Which.TheVariants as limits
use Rattle.ad_io.specs.Flow.{LosesExactly}
use Rattle.ad_reply.specs.declared.refusal.Refusal.{Refusal}
use Rattle.ad_reply.specs.declared.refusal.Refusal.TheVariants as refusals
use Rattle.ad_session.specs.Flows.{Flow}
use Rattle.ad_documents.specs.Causes.{IsUnfitFor}
use Rattle.ad_run.specs.Inputs.{IsRead, payload_limit}

-- the refusal of a source with more bytes than a document may have
abbrev pub too_long : Refusal
too_long = refusals.Limit 0 limits.Payload (payload_limit + 1)

-- the source was read to its end and is refused for this cause, or it gave more bytes than a document may have
abbrev pub IsUnfit : Refusal → Flow → Flow → Type 0
IsUnfit refusal a b = ((text : List ℕ) × IsRead a.left b.left text × IsUnfitFor text refusal) ⊎ ((refusal ≡ too_long) × LosesExactly a.left b.left (payload_limit + 1))
