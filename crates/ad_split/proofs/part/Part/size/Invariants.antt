-- The size with the lines of the axioms so far.
use Rattle.std.proofs.Common.{◌≡◌, ◌-◌, ◌^◌, length}
use Rattle.std.specs.Prelude.{min}
use Rattle.ad_bits.specs.Rows.{has}
use Rattle.ad_write.specs.Canonical.{canon_document}
use Rattle.ad_module_document.proofs.LineLemmas.{front_of}
use Rattle.ad_split.specs.Slots.{is_in_part}
use Rattle.ad_split.proofs.part.Part.size.Given as goal

abbrev pub invariant-loop-i : goal.invariant-loop-i
invariant-loop-i l = l.bytes ≡ min (length (canon_document (front_of (is_in_part l.self.ontology.now (has l.self.members.now) (has l.self.closure.now)) l.self.ontology.now l.i))) (2 ^ 64 - 1)
