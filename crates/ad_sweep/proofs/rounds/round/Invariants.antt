-- What one round has done up to its k-th axiom.
use Rattle.std.proofs.Common.{◌≡◌, ◌<◌, length, map, vec_len, IsTrue, IsFalse}
use Rattle.ad_theory.specs.Sweep.{IsSettledBelow, unmarked}
use Rattle.ad_syntax_laws.specs.OntologyLogic.{axiom_logic}
use Rattle.ad_names.specs.Names.{is_member}
use Rattle.ad_sweep.specs.Marks.{KeepsSweeping}
use Rattle.ad_sweep.proofs.rounds.round.Given as goal

abbrev pub invariant-loop-k : goal.invariant-loop-k
invariant-loop-k g l = record {
  long : vec_len l.marks ≡ length l.owners;
  sweeping : KeepsSweeping l.side (map g.A.Lent.lent l.owners) l.initial.marks.items (is_member l.initial.names) l.marks.items (is_member l.names);
  settled : IsFalse l.more → IsSettledBelow (axiom_logic l.side) (map g.A.Lent.lent l.owners) l.marks.items (is_member l.names) l.k;
  even : IsFalse l.more → unmarked l.marks.items ≡ unmarked l.initial.marks.items;
  fewer : IsTrue l.more → unmarked l.marks.items < unmarked l.initial.marks.items;
}
