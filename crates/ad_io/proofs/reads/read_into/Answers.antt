-- Each read goes on behind what was filled so far.
use Rattle.std.proofs.Common.{◌∙◌, arith, rules, length-drop}
use Rattle.ad_io.proofs.FlowLemmas.{reads_more}
use Rattle.ad_io.proofs.reads.read_into.Goals as goal

pub loop-filled-preserved : goal.loop-filled-preserved
loop-filled-preserved g c =
    let filled = c.loop-filled.filled in
    let before = c.loop-filled.bytes in
    let after = c.read_behind.new.bytes in
    let read = c.in-Bytes.ensures in
    let taken = simp length-drop at read.bytes.1 in
    let kept = read.kept ∙ c.make_room.ensures.kept in
    record {
      filled = omega (arith, after.ok.0);
      within = search rules;
      lost = reads_more _ _ _ before.items after.items filled c.in-Bytes.n kept c.loop-filled.invariant.lost read.bytes.2;
      later = search rules;
    }
