-- The line names a payload that is longer than it may be.
use Rattle.std.proofs.Common.{◌<◌, ◌++◌, ◌∷◌, [], inr, refl, arith}
use Rattle.ad_request.specs.Requests.{payload_size}
use Rattle.ad_items.proofs.item.read_behind.Goals as goal

pub returns-in-Some-2-clause-next : goal.returns-in-Some-2-clause-next
returns-in-Some-2-clause-next g c before lost =
    let above : c.args.limits.payload < payload_size c.in-Some.request = omega (arith, c.if-payload_size-limits.true, c.payload_size.ensures) in
    record {
      taken = c.args.line.now ++ 10 ∷ [];
      closes = inr (record { line = c.args.line.now; request = c.in-Some.request; short = c.requires; asks = c.in-Some.ensures; above = above; whole = refl });
      lost = lost;
    }
