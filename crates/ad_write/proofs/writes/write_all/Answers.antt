-- The head, the lines and the foot.
use Rattle.std.proofs.Common.{◌≡◌, ap, take, map, ◌++◌, append_assoc, ◌∙◌}
use Rattle.std.specs.List.{flat_map}
use Rattle.std.proofs.lemmas.List.{take_all}
use Rattle.ad_write.specs.Canonical.{canon_line, document_foot, document_head}
use Rattle.ad_lines.proofs.Joining.{three}
use Rattle.ad_write.proofs.writes.write_all.Goals as goal

pub returns : goal.returns
returns g c =
    let axioms = c.args.axioms.now in
    let all : take c.loop-each.each-index axioms ≡ axioms = take_all c.loop-each.each-index axioms c.loop-each-test.false in
    three g.P.Pen.writes g.met.P.Pen.joins c.put_head.ensures c.loop-each.invariant c.put_foot.ensures
    (ap (λ (xs : _). (document_head ++ flat_map canon_line (map g.A.Lent.lent xs)) ++ document_foot) all ∙ append_assoc document_head (flat_map canon_line (map g.A.Lent.lent axioms)) document_foot)
