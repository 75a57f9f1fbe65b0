-- Each call goes on behind what was written so far.
use Rattle.std.proofs.Common.{◌≤◌, ◌-◌, length, arith, rules, length-drop}
use Rattle.std.proofs.lemmas.List.{length-take}
use Rattle.ad_io.proofs.FlowLemmas.{writes_more, writes_front}
use Rattle.ad_io.proofs.writes.put_all.Goals as goal

pub loop-written-preserved : goal.loop-written-preserved
loop-written-preserved g c =
    let piece = c.args.piece.now in
    let at = c.loop-written.written in
    let took = c.in-Took.ensures.bytes in
    let taken = simp (length-take, length-drop) at took.1 in
    let fits : c.in-Took.n ≤ length piece - at = omega arith in
    record {
      within = omega arith;
      gained = writes_more _ _ _ piece at c.in-Took.n fits c.loop-written.invariant.gained took.2;
      later = search rules;
    }

pub returns-in-Failed-clause-bytes : goal.returns-in-Failed-clause-bytes
returns-in-Failed-clause-bytes g c =
    writes_front _ _ _ c.args.piece.now c.loop-written.written c.loop-written.invariant.gained c.in-Failed.ensures.bytes
