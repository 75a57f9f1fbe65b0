-- An ontology is a list of distinct axioms in the order in which they were put in, logical and carried together.
-- A batch is applied operation by operation.
use Rattle.std.specs.Prelude.{ℕ, ◌+◌, Bool, true, false, not, cond, List, [], ◌∷◌, ◌++◌}
use Rattle.std.specs.List.{list_any, filter}
use Rattle.ad_apply.specs.Same.{same_axiom}
use Rattle.ad_tree.specs.declared.axioms.Noted.{Noted}
use Rattle.ad_tree.specs.declared.edits.Op.{Op}
use Rattle.ad_tree.specs.declared.edits.Sign.{Sign}
use Rattle.ad_tree.specs.declared.edits.Sign.TheVariants as signs

-- whether an axiom is in the ontology
abbrev pub has_axiom : List Noted → Noted → Bool
has_axiom ontology a = list_any (λ b. same_axiom b a) ontology

-- the ontology without an axiom, the others closed up
abbrev pub without : List Noted → Noted → List Noted
without ontology a = filter (λ b. not (same_axiom b a)) ontology

-- an addition of an absent axiom puts it at the end; a removal of one that is there takes it out; else nothing changes
abbrev pub done : Sign → List Noted → Noted → List Noted
done signs.Add ontology a = cond (has_axiom ontology a) ontology (ontology ++ a ∷ [])
done signs.Remove ontology a = without ontology a

abbrev pub done_by : List Noted → Op → List Noted
done_by ontology op = done op.sign ontology op.noted

abbrev pub applied : List Noted → List Op → List Noted
applied ontology [] = ontology
applied ontology (op ∷ ops) = applied (done_by ontology op) ops

-- how many operations added an axiom, found it there already, took it out, or found it absent
pub record Counts : Type 0 where
  pub added : ℕ
  pub already : ℕ
  pub removed : ℕ
  pub absent : ℕ

abbrev pub no_counts : Counts
no_counts = record { added = 0; already = 0; removed = 0; absent = 0 }

-- the counts with one more operation, on an axiom that is there or not
abbrev pub counted : Sign → Bool → Counts → Counts
counted signs.Add false c = record c { added = c.added + 1 }
counted signs.Add true c = record c { already = c.already + 1 }
counted signs.Remove true c = record c { removed = c.removed + 1 }
counted signs.Remove false c = record c { absent = c.absent + 1 }

abbrev pub counts_from : Counts → List Noted → List Op → Counts
counts_from c ontology [] = c
counts_from c ontology (op ∷ ops) = counts_from (counted op.sign (has_axiom ontology op.noted) c) (done_by ontology op) ops

abbrev pub counts_of : List Noted → List Op → Counts
counts_of ontology ops = counts_from no_counts ontology ops
