-- Whether two axioms are the same, annotations included.
use Rattle.std.specs.Prelude.{Bool}
use Rattle.ad_tree.specs.declared.axioms.Noted.{Noted}
use Rattle.ad_tree.specs.contracts.axioms.NotedPartialEq.TheImpl.{ghosts}

abbrev pub same_axiom : Noted → Noted → Bool
same_axiom a b = ghosts.eq a b
