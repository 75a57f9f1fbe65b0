-- The IRI, a space and the value.
use Rattle.std.proofs.Common.{[], ◌∷◌, append_assoc}
use Rattle.ad_write.specs.Canonical.{canon_iri, canon_literal}
use Rattle.ad_lines.proofs.Joining.{three}
use Rattle.ad_write.proofs.literals.FacetSpelled.write.Goals as goal

pub returns : goal.returns
returns g c = three g.P.Pen.writes g.met.P.Pen.joins c.write.ensures c.put.ensures c.write-2.ensures (append_assoc (canon_iri c.args.self.now.facet) (32 ∷ []) (canon_literal c.args.self.now.value))
