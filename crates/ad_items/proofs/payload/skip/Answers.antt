-- One more piece is passed over.
use Rattle.std.proofs.Common.{◌≡◌, ◌-◌, ◌+◌, ◌≤◌, arith, rules, subst}
use Rattle.ad_io.specs.Flow.{LosesExactly}
use Rattle.ad_items.proofs.ReadingLemmas.{loses_exactly_on}
use Rattle.ad_items.proofs.payload.skip.Goals as goal

pub loop-left-preserved : goal.loop-left-preserved
loop-left-preserved g c =
    let piece = c.in-Bytes.ensures.bytes in
    let within : c.loop-left.left ≤ c.args.size = c.loop-left.invariant.within in
    let n : c.in-Bytes.n ≤ c.loop-left.left = piece.1 in
    let sum : (c.args.size - c.loop-left.left) + c.in-Bytes.n ≡ c.args.size - (c.loop-left.left - c.in-Bytes.n) = omega arith in
    record {
      within = omega arith;
      lost = subst (λ k. LosesExactly (g.S.Source.left c.args.source.now) (g.S.Source.left c.read_piece.new.source) k) sum (loses_exactly_on _ _ _ (c.args.size - c.loop-left.left) c.in-Bytes.n c.loop-left.invariant.lost piece.2);
      later = search rules;
    }
