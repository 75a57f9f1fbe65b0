-- How many atoms there are, where the number is beyond them.
use Rattle.std.proofs.Common.{refl, length, ◌∙◌, ap, arith}
use Rattle.ad_tables.specs.Rows.{Numbered}
use Rattle.ad_reply.proofs.AtomLemmas.{atoms_are}
use Rattle.ad_reply.proofs.atoms.atom_reply.Goals as goal

pub returns-else-atom-from-clause-told : goal.returns-else-atom-from-clause-told
returns-else-atom-from-clause-told g c =
    let edition = c.args.edition.now in (
      atoms_are c.args.kind edition c.count-count.result c.laws.ensures c.shapes_of_slots.ensures (c.count-count.ensures ∙ ap (λ (a : Numbered). length a.firsts) c.atoms.ensures),
      omega (arith, c.if-atom-from.false, c.from.ensures),
      refl,
    )
