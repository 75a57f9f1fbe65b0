-- The document of the ontology has as many bytes as a u64 counts, and that of the atom's axioms no more.
use Rattle.std.proofs.Common.{◌-◌, ◌^◌, ℕ, Option, length, min, ap, refl, ◌∙◌, arith}
use Rattle.ad_tree.specs.declared.axioms.Noted.{Noted}
use Rattle.ad_numbered.specs.Numbered.{InSlots}
use Rattle.ad_write.specs.Canonical.{canon_document}
use Rattle.ad_module_document.specs.Documents.{taken_of}
use Rattle.ad_reply.specs.Atoms.{is_slot_of}
use Rattle.ad_reply.proofs.AtomLemmas.{atom_taken_in}
use Rattle.ad_reply.proofs.FoundLemmas.{sized}
use Rattle.ad_reply.proofs.atoms.atom_bytes.Goals as goal

pub document_size_of-requires : goal.document_size_of-requires
document_size_of-requires c = omega (arith, ap (λ (o : InSlots). o.most) c.ontology.ensures, c.laws.ensures.numbered.few_slots)

pub returns : goal.returns
returns c =
    let edition = c.args.edition.now in
    let kind = c.args.kind in
    let atom = c.args.atom in
    let atoms = c.atoms.result.now in
    let takes = λ (a : Noted) (slot : Option ℕ). is_slot_of atoms.atom_of atom slot in
    sized edition takes c.document_size_of.result c.bytes-bytes.result c.laws.ensures c.bytes-bytes.ensures (omega (arith, c.bytes-bytes.type_inv))
    (c.document_size_of.ensures ∙ ap (λ (o : InSlots). min (length (canon_document (taken_of takes o))) (2 ^ 64 - 1)) c.ontology.ensures)
    ∙ ap (λ l. length (canon_document l)) (atom_taken_in kind edition atom atoms edition.numbered c.laws.ensures c.atoms.ensures refl)
