-- The text of the shape was written.
use Rattle.std.proofs.Common.{sym, subst}
use Rattle.ad_decompose.specs.Decomposed.{genuine_of}
use Rattle.ad_decomposition.specs.Atoms.{AreAtoms, AreCovers}
use Rattle.ad_numbered.specs.Numbered.{order_of}
use Rattle.ad_reply.proofs.bodies.put_atoms.Goals as goal

pub returns-clause-bytes : goal.returns-clause-bytes
returns-clause-bytes g c =
    let edition = c.args.edition.now in
    let kind = c.args.kind in
    let G = genuine_of edition.found kind in
    let order = order_of edition.numbered in
    let atomic = c.laws.ensures.decomposed.atomic kind in
    let atoms = subst (AreAtoms G order) (sym c.atoms.ensures) atomic.atoms_are in
    let covers = subst (λ covered. AreCovers G order covered.rows) (sym c.covers.ensures) atomic.covers_are in
    c.write_atoms.ensures.bytes G order atoms covers
