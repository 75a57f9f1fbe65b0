-- What is asked of each kind is asked of the two sides.
use Rattle.ad_decompose.proofs.decomposition.of_sides.Goals as goal

pub of-requires-clause-rows : goal.of-requires-clause-rows
of-requires-clause-rows c = c.requires.rows _

pub of-requires-2-clause-rows : goal.of-requires-2-clause-rows
of-requires-2-clause-rows c = c.requires.rows _
