-- An argument and the list behind the annotations.
use Rattle.std.proofs.Common.{[], ◌∷◌, map}
use Rattle.ad_write.specs.Canonical.{canon_annotation}
use Rattle.ad_lines.proofs.Joining.{four}
use Rattle.ad_write.proofs.Texts.{closed_two}
use Rattle.ad_write.proofs.shapes.one_and_list.Goals as goal

pub returns : goal.returns
returns g c = four g.P.Pen.writes g.met.P.Pen.joins c.begin-first.ensures.written c.argument.ensures (rw c.as_slice.ensures at c.arguments.ensures) c.put.ensures (closed_two c.args.word.now (map canon_annotation c.args.notes.now) (g.A.Spelled.spelling c.args.a.now) (map g.B.Spelled.spelling c.args.items.now) c.begin-first.result c.begin-first.ensures.first)
