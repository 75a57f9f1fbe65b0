-- Why a document is refused.
use Rattle.std.specs.Prelude.{◌≡◌, ◌≢◌, ℕ, List, [], Option, Some}
use Rattle.ad_base.specs.Limits.{standard}
use Rattle.ad_apply.specs.Apply.{applied}
use Rattle.ad_edition.specs.Limit.{Passed, passed}
use Rattle.ad_grammar.specs.Faults.{document}
use Rattle.ad_read.specs.Outcome.{Refuses}
use Rattle.ad_read.specs.Texts.{IsDocument}
use Rattle.ad_read.specs.declared.texts.ReadRefused.TheVariants as causes
use Rattle.ad_reply.specs.declared.refusal.Refusal.{Refusal}
use Rattle.ad_reply.specs.declared.refusal.Refusal.TheVariants as refusals
use Rattle.ad_tree.specs.declared.axioms.Noted.{Noted}
use Rattle.ad_tree.specs.declared.edits.Op.{Op}
use Rattle.ad_documents.specs.Output.{IsOntology}

-- the refusal names the first limit that is passed, on the first edition
abbrev pub IsPassedBy : Option Passed → Refusal → Type 0
IsPassedBy first refusals.Request = ⊥
IsPassedBy first (refusals.Text cause) = ⊥
IsPassedBy first (refusals.Limit edition which count) = (edition ≡ 0) × (first ≡ Some (record { which = which; count = count }))
IsPassedBy first refusals.Memory = ⊥
IsPassedBy first refusals.Shut = ⊥
IsPassedBy first (refusals.Atom edition count) = ⊥
IsPassedBy first (refusals.Moved edition) = ⊥

-- the text is no document, for this cause; or its ontology passes this limit on the edition before it, the first
abbrev pub IsUnfitFor : List ℕ → Refusal → Type 0
IsUnfitFor text refusals.Request = ⊥
IsUnfitFor text (refusals.Text cause) = (cause ≢ causes.Memory) × Refuses document standard.depth text cause
IsUnfitFor text (refusals.Limit edition which count) = (edition ≡ 0) × (ops : List Op) × IsDocument standard.depth text ops × (passed standard 0 (applied [] ops) ≡ Some (record { which = which; count = count }))
IsUnfitFor text refusals.Memory = ⊥
IsUnfitFor text refusals.Shut = ⊥
IsUnfitFor text (refusals.Atom edition count) = ⊥
IsUnfitFor text (refusals.Moved edition) = ⊥

-- a document is refused for one cause at most
abbrev pub HasOneCause : Type 0
HasOneCause = (text : List ℕ) (a b : Refusal) → IsUnfitFor text a → IsUnfitFor text b → a ≡ b

-- one that has an ontology within the limits is refused for none
abbrev pub IsOntologyOrUnfit : Type 0
IsOntologyOrUnfit = (text : List ℕ) (ontology : List Noted) (refusal : Refusal) → IsOntology text ontology → IsUnfitFor text refusal → ⊥
