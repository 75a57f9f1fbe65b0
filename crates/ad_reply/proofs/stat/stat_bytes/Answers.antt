-- The text was counted, and isn't long.
use Rattle.std.proofs.Common.{length, subst, ◌∙◌, arith}
use Rattle.ad_lines.specs.Pen.{Weighs}
use Rattle.ad_reply.specs.Stats.{stat_lines}
use Rattle.ad_reply.proofs.StatLemmas.{FitsTypes, stat_long, short_min}
use Rattle.ad_reply.proofs.stat.stat_bytes.Goals as goal

pub returns : goal.returns
returns c =
    let stat = c.args.stat in
    let text = stat_lines stat in
    let fits : FitsTypes stat = record {
      axioms = omega (arith, c.well_formed);
      carried = omega (arith, c.well_formed);
      entities = omega (arith, c.well_formed);
      bytes = omega (arith, c.well_formed);
      tautologies = omega (arith, c.well_formed);
      bottom = omega (arith, c.well_formed);
      top = omega (arith, c.well_formed);
      star = omega (arith, c.well_formed);
    } in
    c.bytes.ensures text (subst (λ n. Weighs n c.put_text.new.pen.bytes text) c.new-scale.ensures c.put_text.ensures)
    ∙ short_min (length text) (stat_long stat fits)
