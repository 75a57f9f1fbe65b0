-- Three arguments behind the annotations.
use Rattle.std.proofs.Common.{[], ◌∷◌, map}
use Rattle.ad_write.specs.Canonical.{canon_annotation}
use Rattle.ad_lines.proofs.Joining.{five}
use Rattle.ad_write.proofs.Texts.{closed_three}
use Rattle.ad_write.proofs.shapes.three.Goals as goal

pub returns : goal.returns
returns g c = five g.P.Pen.writes g.met.P.Pen.joins c.begin-first.ensures.written c.argument.ensures c.argument-2.ensures c.argument-3.ensures c.put.ensures (closed_three c.args.word.now (map canon_annotation c.args.notes.now) (g.A.Spelled.spelling c.args.a.now) (g.B.Spelled.spelling c.args.b.now) (g.C.Spelled.spelling c.args.c.now ∷ []) c.begin-first.result c.begin-first.ensures.first)
