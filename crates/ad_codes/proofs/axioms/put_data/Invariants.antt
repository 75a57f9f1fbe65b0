-- The cells of the properties so far were put.
use Rattle.std.proofs.Common.{take, map}
use Rattle.ad_entity.specs.declared.entities.EntityKind.TheVariants as kinds
use Rattle.ad_codes.specs.Encoded.{name_cell}
use Rattle.ad_codes.specs.Encoding.{Adds}
use Rattle.ad_codes.proofs.axioms.put_data.Given as goal

abbrev pub invariant-properties : goal.invariant-properties
invariant-properties g l = Adds l.fn.out l.out (map (name_cell (g.N.Naming.number_of l.names) kinds.DataProperty) (take l.property-index l.properties))
