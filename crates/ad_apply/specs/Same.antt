-- Whether two axioms are the same, annotations included. It stays closed in proofs that don't unfold it.
use Rattle.std.specs.Prelude.{Bool}
use Rattle.ad_tree.specs.Same as trees
use Rattle.ad_tree.specs.declared.axioms.Noted.{Noted}

unfoldable pub same_axiom : Noted → Noted → Bool
same_axiom a b = trees.same_axiom a b
