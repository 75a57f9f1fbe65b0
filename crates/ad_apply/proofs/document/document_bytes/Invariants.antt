-- The document of the axioms so far.
use Rattle.std.proofs.Common.{◌≡◌, ◌-◌, ◌^◌, length, min, take}
use Rattle.ad_write.specs.Canonical.{canon_document}
use Rattle.ad_syntax_laws.specs.OntologyModule.{values}
use Rattle.ad_apply.proofs.document.document_bytes.Given as goal

abbrev pub invariant-loop-noted : goal.invariant-loop-noted
invariant-loop-noted l = l.bytes ≡ min (length (canon_document (take l.noted-index (values l.axioms)))) (2 ^ 64 - 1)
