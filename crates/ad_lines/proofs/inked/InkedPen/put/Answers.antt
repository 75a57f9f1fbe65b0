-- What waits is written first, and then the piece begins anew.
use Rattle.std.proofs.Common.{[], ◌∙◌}
use Rattle.ad_lines.specs.PenLaws.{goes_joins, counts_joins}
use Rattle.ad_lines.proofs.inked.InkedPen.put.Goals as goal

pub returns-else-has_room : goal.returns-else-has_room
returns-else-has_room g c =
    let first = c.write_out.ensures.written in
    let then_ = c.begin_with.ensures in (
      then_.0 ∙ first.0,
      goes_joins _ _ _ _ _ _ _ _ _ [] c.args.piece.now first.1 then_.1,
      counts_joins _ _ _ _ _ _ first.2 then_.2,
    )
