-- One argument behind the annotations.
use Rattle.std.proofs.Common.{[], ◌∷◌, map}
use Rattle.ad_write.specs.Canonical.{canon_annotation}
use Rattle.ad_lines.proofs.Joining.{three}
use Rattle.ad_write.proofs.Texts.{closed}
use Rattle.ad_write.proofs.shapes.one.Goals as goal

pub returns : goal.returns
returns g c = three g.P.Pen.writes g.met.P.Pen.joins c.begin-first.ensures.written c.argument.ensures c.put.ensures (closed c.args.word.now (map canon_annotation c.args.notes.now) (g.A.Spelled.spelling c.args.a.now ∷ []) c.begin-first.result c.begin-first.ensures.first)
