-- What holds of every batch.
use Rattle.std.specs.Prelude.{◌≡◌, ◌+◌, List, length}
use Rattle.std.specs.List.{IsDistinct}
use Rattle.ad_tree.specs.declared.axioms.Noted.{Noted}
use Rattle.ad_tree.specs.declared.edits.Op.{Op}
use Rattle.ad_apply.specs.Same.{same_axiom}
use Rattle.ad_apply.specs.Apply.{applied, counts_of}

-- an ontology of distinct axioms stays one
abbrev pub StaysDistinct : Type 0
StaysDistinct = (ontology : List Noted) (batch : List Op) → IsDistinct same_axiom ontology → IsDistinct same_axiom (applied ontology batch)

-- each operation is counted once
abbrev pub CountsAddUp : Type 0
CountsAddUp = (ontology : List Noted) (batch : List Op) → (counts_of ontology batch).added + (counts_of ontology batch).already + (counts_of ontology batch).removed + (counts_of ontology batch).absent ≡ length batch
