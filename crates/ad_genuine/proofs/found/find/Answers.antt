-- One extraction was made for each slot and kind.
use Rattle.std.proofs.Common.{arith}
use Rattle.ad_genuine.specs.declared.found.Found.{Found}
use Rattle.ad_genuine.proofs.FoundLemmas.{found_rows}
use Rattle.ad_genuine.proofs.found.find.Goals as goal

pub returns : goal.returns
returns g c =
    let u = c.args.universe.now in
    let found : Found = record { bottom = c.in_ok-bottom.bottom; top = c.in_ok-top.top; star = c.in_ok-star.star; tally = c.star_rows.new.tally } in
    record {
      rows = found_rows (g.U.Universe.symbols_of u) (g.U.Universe.is_local u) (g.U.Universe.is_live u) (g.U.Universe.slot_count u) c.args.slots.now found
          c.in_ok-bottom.ensures.found c.in_ok-top.ensures.found c.in_ok-star.ensures.found;
      runs = omega (arith, c.new-tally.ensures.runs, c.in_ok-bottom.ensures.runs, c.in_ok-top.ensures.runs, c.in_ok-star.ensures.runs);
    }
