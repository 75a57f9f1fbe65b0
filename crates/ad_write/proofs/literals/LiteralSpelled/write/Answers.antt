-- The quoted text, and the tag or the datatype behind it.
use Rattle.std.proofs.Common.{[], ◌∷◌, append_assoc}
use Rattle.ad_write.specs.Canonical.{canon_iri, quoted}
use Rattle.ad_lines.proofs.Joining.{three}
use Rattle.ad_write.proofs.literals.LiteralSpelled.write.Goals as goal

pub returns-in-Lang : goal.returns-in-Lang
returns-in-Lang g c = three g.P.Pen.writes g.met.P.Pen.joins c.write_quoted-in-Lang.ensures c.put.ensures c.put-in-Lang.ensures (rw (c.in-Lang.is, c.as_bytes-in-Lang.ensures, c.as_bytes-in-Lang-2.ensures) (append_assoc (quoted c.in-Lang.text) (64 ∷ []) c.in-Lang.tag))

pub returns-in-Typed : goal.returns-in-Typed
returns-in-Typed g c = three g.P.Pen.writes g.met.P.Pen.joins c.write_quoted-in-Typed.ensures c.put-in-Typed.ensures c.write.ensures (rw (c.in-Typed.is, c.as_bytes-in-Typed.ensures) (append_assoc (quoted c.in-Typed.text) (94 ∷ 94 ∷ []) (canon_iri c.in-Typed.datatype)))
