-- The text of the shape was counted, and a u64 counts its bytes.
use Rattle.std.proofs.Common.{◌≡◌, ◌<◌, ◌-◌, ◌^◌, length, min, sym, subst, arith}
use Rattle.ad_atoms_text.specs.AtomsText.{atoms_text}
use Rattle.ad_decompose.specs.Decomposed.{genuine_of}
use Rattle.ad_decomposition.specs.Atoms.{AreAtoms, AreCovers}
use Rattle.ad_numbered.specs.Numbered.{order_of}
use Rattle.ad_reply.specs.Atoms.{shape_in}
use Rattle.ad_reply.proofs.AtomLemmas.{order_short}
use Rattle.ad_reply.proofs.atoms.atoms_bytes.Goals as goal

pub returns : goal.returns
returns c =
    let edition = c.args.edition.now in
    let kind = c.args.kind in
    let G = genuine_of edition.found kind in
    let order = order_of edition.numbered in
    let atomic = c.laws.ensures.decomposed.atomic kind in
    let atoms = subst (AreAtoms G order) (sym c.atoms.ensures) atomic.atoms_are in
    let covers = subst (λ covered. AreCovers G order covered.rows) (sym c.covers.ensures) atomic.covers_are in
    let fits : length (atoms_text (shape_in kind edition)) < 2 ^ 64 = c.atoms_text_fits.ensures G order (order_short edition c.laws.ensures) in
    let size : c.atoms_size.result ≡ min (length (atoms_text (shape_in kind edition))) (2 ^ 64 - 1) = c.atoms_size.ensures G order atoms covers in
    omega (arith, fits, size)
