-- The size with the lines of the axioms so far.
use Rattle.std.proofs.Common.{◌≡◌, ◌-◌, ◌^◌, length}
use Rattle.std.specs.Prelude.{min}
use Rattle.ad_write.specs.Canonical.{canon_document}
use Rattle.ad_module_document.proofs.LineLemmas.{front_of}
use Rattle.ad_module_document.proofs.document.document_size_of.Given as goal

abbrev pub invariant-loop-i : goal.invariant-loop-i
invariant-loop-i g l = l.bytes ≡ min (length (canon_document (front_of (g.C.Choice.takes l.choice) l.ontology l.i))) (2 ^ 64 - 1)
