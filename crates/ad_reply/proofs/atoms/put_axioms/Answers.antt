-- What the slots of the atom have are its axioms.
use Rattle.std.proofs.Common.{ap, arith, subst}
use Rattle.ad_io.specs.Sink.{Puts}
use Rattle.ad_numbered.specs.Numbered.{InSlots}
use Rattle.ad_write.specs.Canonical.{canon_document}
use Rattle.ad_reply.proofs.AtomLemmas.{atom_taken_in}
use Rattle.ad_reply.proofs.atoms.put_axioms.Goals as goal

pub write_document_of-requires : goal.write_document_of-requires
write_document_of-requires g c = omega (arith, ap (λ (o : InSlots). o.most) c.ontology.ensures, c.laws.ensures.numbered.few_slots)

pub returns-clause-bytes : goal.returns-clause-bytes
returns-clause-bytes g c =
    subst (λ axioms. Puts (g.K.Sink.written c.args.sink.now) (g.K.Sink.written c.write_document_of.new.sink) c.write_document_of.result (canon_document axioms))
    (atom_taken_in c.args.kind c.args.edition.now c.args.atom c.atoms.result.now c.ontology.result.now c.laws.ensures c.atoms.ensures c.ontology.ensures)
    c.write_document_of.ensures.bytes
