-- A symbol that is newly reached is one more member, so there is room on the stack.
use Rattle.std.proofs.Common.{◌≡◌, false, arith, ap}
use Rattle.ad_bits.specs.Rows.{has, member_count}
use Rattle.ad_bits.proofs.Rows.{member_count-set, member_count-le}
use Rattle.ad_extract.proofs.WaitingLemmas.{pushes}
use Rattle.ad_extract.proofs.waiting.reach.Goals as goal

pub push_reserved-requires : goal.push_reserved-requires
push_reserved-requires c =
    let new : has c.args.reached.now c.args.symbol ≡ false = first_of (cc, grind arith) in
    omega (
      arith,
      member_count-set c.args.reached.now c.args.symbol c.requires.symbol new,
      member_count-le c.set.new.self,
      c.set.ensures.size,
      c.requires.waiting.room,
      c.args.pending.now.ok.0,
      ap member_count c.set.ensures.row,
    )

pub returns-then-not-has-clause-waiting : goal.returns-then-not-has-clause-waiting
returns-then-not-has-clause-waiting c =
    let new : has c.args.reached.now c.args.symbol ≡ false = first_of (cc, grind arith) in
    rw (c.push_reserved.ensures.items, c.set.ensures.row) (pushes c.args.pending.now.items c.args.reached.now c.args.symbol c.requires.waiting c.requires.symbol new)
