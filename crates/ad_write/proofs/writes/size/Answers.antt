-- The count of bytes begins with 0.
use Rattle.std.proofs.Common.{subst}
use Rattle.ad_lines.specs.Pen.{Weighs}
use Rattle.ad_write.specs.Canonical.{canon}
use Rattle.ad_write.proofs.writes.size.Goals as goal

pub returns : goal.returns
returns c =
    let text = canon c.args.noted.now in
    c.bytes.ensures text (subst (λ n. Weighs n c.write_noted.new.pen.bytes text) c.new-scale.ensures c.write_noted.ensures)
