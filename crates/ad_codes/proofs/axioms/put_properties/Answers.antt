use Rattle.ad_codes.specs.Encoded.{property_cell}
use Rattle.ad_codes.proofs.Putting.{adds_nothing, adds_cell_more, adds_all_cells}
use Rattle.ad_codes.proofs.axioms.put_properties.Goals as goal

pub properties-init : goal.properties-init
properties-init g c = adds_nothing c.args.out.now

pub properties-preserved : goal.properties-preserved
properties-preserved g c = adds_cell_more (property_cell (g.N.Naming.number_of c.args.names.now)) c.args.properties.now c.properties.property-index c.property-item.result c.properties-test.true c.property-item.is c.properties.invariant c.put_property.ensures

pub returns : goal.returns
returns g c = adds_all_cells (property_cell (g.N.Naming.number_of c.args.names.now)) c.args.properties.now c.properties.property-index c.properties-test.false c.properties.invariant
