-- The keyword, the parenthesis and the annotations.
use Rattle.std.proofs.Common.{true, [], ◌∷◌, map, append_assoc, ◌∙◌}
use Rattle.ad_write.specs.Canonical.{canon_annotation}
use Rattle.ad_write.specs.Arguments.{behind}
use Rattle.ad_lines.proofs.Joining.{two}
use Rattle.ad_write.proofs.Texts.{empty_if}
use Rattle.ad_write.proofs.shapes.begin.Goals as goal

pub returns-clause-written : goal.returns-clause-written
returns-clause-written g c = two g.P.Pen.writes g.met.P.Pen.joins c.open.ensures c.write_annotations.ensures (append_assoc c.args.word.now (40 ∷ []) (behind true (map canon_annotation c.args.notes.now)))

pub returns-clause-first : goal.returns-clause-first
returns-clause-first g c = c.is_empty.ensures ∙ empty_if canon_annotation c.args.notes.now
