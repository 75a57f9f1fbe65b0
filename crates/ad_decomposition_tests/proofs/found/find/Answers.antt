-- The modules nest, so their atoms and covers can be found.
use Rattle.std.proofs.Common.{length, sym, ◌∙◌, ap}
use Rattle.ad_decomposition_tests.proofs.ModuleLemmas.{example_distinct, example_rows, example_nested, example_atoms}
use Rattle.ad_decomposition_tests.proofs.found.find.Goals as goal

pub atoms-requires-clause-distinct : goal.atoms-requires-clause-distinct
atoms-requires-clause-distinct c = example_distinct c.args.modules.now c.args.order.now c.requires.example

pub atoms-requires-clause-rows : goal.atoms-requires-clause-rows
atoms-requires-clause-rows c = example_rows c.args.modules.now c.args.order.now c.requires.example c.in_ok-rows.rows c.in_ok-rows.ensures

pub atoms-requires-clause-nested : goal.atoms-requires-clause-nested
atoms-requires-clause-nested c = example_nested c.args.modules.now c.args.order.now c.requires.example c.in_ok-rows.rows c.in_ok-rows.ensures

pub covers-requires : goal.covers-requires
covers-requires c = example_atoms c.args.modules.now c.args.order.now c.requires.example c.in_ok-rows.rows c.in_ok-rows.ensures c.in_ok-atoms.atoms c.in_ok-atoms.ensures

pub invariant_of-result : goal.invariant_of-result
invariant_of-result c =
    let rows = example_rows c.args.modules.now c.args.order.now c.requires.example c.in_ok-rows.rows c.in_ok-rows.ensures in
    let nested = example_nested c.args.modules.now c.args.order.now c.requires.example c.in_ok-rows.rows c.in_ok-rows.ensures in
    record { same = (c.in_ok-covers.ensures.covers c.args.order.now rows nested c.in_ok-atoms.ensures).atoms_are ∙ sym (ap length c.in_ok-atoms.ensures.firsts_are) }
