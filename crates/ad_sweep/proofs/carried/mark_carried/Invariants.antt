-- Below the k-th axiom the marks came in, and from there on they are as before.
use Rattle.std.proofs.Common.{◌≡◌, length, map, vec_len}
use Rattle.ad_names.specs.Names.{is_member}
use Rattle.ad_sweep.proofs.CarriedMarkLemmas.{IsMarkedBelow, IsLeftFrom}
use Rattle.ad_sweep.proofs.carried.mark_carried.Given as goal

abbrev pub invariant-loop-k : goal.invariant-loop-k
invariant-loop-k g l = record {
  long : vec_len l.marks ≡ length l.owners;
  below : IsMarkedBelow l.k (is_member l.names) (map g.A.Lent.lent l.owners) l.initial.marks.items l.marks.items;
  from : IsLeftFrom l.k l.initial.marks.items l.marks.items;
}
