-- The atoms of the rows over slots are those of the ontology.
use Rattle.ad_reply.specs.Atoms.{shape_in}
use Rattle.ad_reply.proofs.AtomLemmas.{edition_shape}
use Rattle.ad_reply.proofs.bodies.atoms_body.Goals as goal

pub returns-clause-text : goal.returns-clause-text
returns-clause-text g c =
    let edition = c.args.edition.now in
    let kind = c.args.kind in
    record {
      shape = shape_in kind edition;
      is = edition_shape kind edition c.laws.ensures c.shapes_of_slots.ensures;
      puts = c.put_atoms.ensures.bytes;
    }
