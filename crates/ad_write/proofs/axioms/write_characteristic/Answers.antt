-- Each characteristic is written as the compound of its row.
use Rattle.ad_write.proofs.axioms.write_characteristic.Goals as goal

pub returns-in-FunctionalObjectProperty : goal.returns-in-FunctionalObjectProperty
returns-in-FunctionalObjectProperty g c = rw c.in-FunctionalObjectProperty.is c.one.ensures

pub returns-in-InverseFunctionalObjectProperty : goal.returns-in-InverseFunctionalObjectProperty
returns-in-InverseFunctionalObjectProperty g c = rw c.in-InverseFunctionalObjectProperty.is c.one-in-InverseFunctionalObjectProperty.ensures

pub returns-in-ReflexiveObjectProperty : goal.returns-in-ReflexiveObjectProperty
returns-in-ReflexiveObjectProperty g c = rw c.in-ReflexiveObjectProperty.is c.one-in-ReflexiveObjectProperty.ensures

pub returns-in-IrreflexiveObjectProperty : goal.returns-in-IrreflexiveObjectProperty
returns-in-IrreflexiveObjectProperty g c = rw c.in-IrreflexiveObjectProperty.is c.one-in-IrreflexiveObjectProperty.ensures

pub returns-in-SymmetricObjectProperty : goal.returns-in-SymmetricObjectProperty
returns-in-SymmetricObjectProperty g c = rw c.in-SymmetricObjectProperty.is c.one-in-SymmetricObjectProperty.ensures

pub returns-in-AsymmetricObjectProperty : goal.returns-in-AsymmetricObjectProperty
returns-in-AsymmetricObjectProperty g c = rw c.in-AsymmetricObjectProperty.is c.one-in-AsymmetricObjectProperty.ensures

pub returns-in-TransitiveObjectProperty : goal.returns-in-TransitiveObjectProperty
returns-in-TransitiveObjectProperty g c = rw c.in-TransitiveObjectProperty.is c.one-in-TransitiveObjectProperty.ensures
