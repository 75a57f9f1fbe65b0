-- The first slots of atoms are slots.
use Rattle.std.proofs.Common.{arith}
use Rattle.ad_depend.proofs.NumberingLemmas.{first_below}
use Rattle.ad_depend.proofs.search.covers.Goals as goal

pub starts-requires : goal.starts-requires
starts-requires c = λ k l.
    let given = c.requires in
    omega (arith, first_below c.args.rows.now c.args.kind given.0 c.args.atoms.now given.1 k l, c.slots.ensures c.args.kind)

pub over_atoms-requires : goal.over_atoms-requires
over_atoms-requires c = λ k l.
    let given = c.requires in
    omega (arith, first_below c.args.rows.now c.args.kind given.0 c.args.atoms.now given.1 k l, c.slots.ensures c.args.kind, c.in_ok-tops.ensures.size, c.search.ensures.size)
