-- A sweep stands here, and each round leaves fewer axioms unmarked.
use Rattle.std.proofs.Common.{◌≡◌, length, map, vec_len}
use Rattle.ad_theory.specs.Sweep.{IsSweeping, unmarked}
use Rattle.ad_syntax_laws.specs.OntologyLogic.{axiom_logic, seed_test}
use Rattle.ad_names.specs.Names.{is_member}
use Rattle.ad_sweep.proofs.sweeping.sweep_to_end.Given as goal

abbrev pub invariant-rounds : goal.invariant-rounds
invariant-rounds g l = record {
  long : vec_len l.marks ≡ length l.owners;
  sweeping : IsSweeping (axiom_logic l.side) (seed_test l.seed) (map g.A.Lent.lent l.owners) l.marks.items (is_member l.names);
}

abbrev pub decreases-rounds : goal.decreases-rounds
decreases-rounds g l = unmarked l.marks.items
