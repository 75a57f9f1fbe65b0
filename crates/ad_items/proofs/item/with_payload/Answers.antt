-- The input ended, or the source failed, behind a part of the payload.
use Rattle.std.proofs.Common.{◌++◌, ◌∷◌, inr, subst}
use Rattle.ad_items.specs.Items.{bounds_of}
use Rattle.ad_items.specs.Reading.{LosesFewer}
use Rattle.ad_items.proofs.ReadingLemmas.{line_and_more, cut_payload}
use Rattle.ad_items.proofs.item.with_payload.Goals as goal

pub returns-in-Cut-clause-next : goal.returns-in-Cut-clause-next
returns-in-Cut-clause-next g c before first =
    let cut = c.in-Cut.ensures.bytes in
    let few = subst (λ n. LosesFewer (g.S.Source.left c.args.source.now) (g.S.Source.left c.read_payload.new.source) n) c.payload_size.ensures cut.1 in
    record {
      taken = c.args.line.now ++ 10 ∷ few.bytes;
      closes = (cut.0, inr (cut_payload (bounds_of c.args.limits) c.args.line.now c.args.request few.bytes c.requires.short c.requires.asks c.requires.within few.fewer));
      lost = line_and_more before _ _ c.args.line.now few.bytes first few.lost;
    }

pub returns-in-Failed-clause-next : goal.returns-in-Failed-clause-next
returns-in-Failed-clause-next g c before first =
    let few = subst (λ n. LosesFewer (g.S.Source.left c.args.source.now) (g.S.Source.left c.read_payload.new.source) n) c.payload_size.ensures c.in-Failed.ensures.bytes in
    record {
      taken = c.args.line.now ++ 10 ∷ few.bytes;
      part = inr (cut_payload (bounds_of c.args.limits) c.args.line.now c.args.request few.bytes c.requires.short c.requires.asks c.requires.within few.fewer);
      lost = line_and_more before _ _ c.args.line.now few.bytes first few.lost;
    }
