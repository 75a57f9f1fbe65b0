-- The groups of axioms that are written by functions of their own. What is in none of them is an assertion, a
-- declaration or an annotation axiom.
use Rattle.std.specs.Prelude.{Bool, true, false}
use Rattle.ad_tree.specs.declared.axioms.Axiom.{Axiom}
use Rattle.ad_tree.specs.declared.axioms.Axiom.TheVariants as axioms

-- between classes, between object properties, and from object properties to classes
abbrev pub is_relation : Axiom → Bool
is_relation (axioms.SubClassOf sub super) = true
is_relation (axioms.EquivalentClasses classes) = true
is_relation (axioms.DisjointClasses classes) = true
is_relation (axioms.DisjointUnion class parts) = true
is_relation (axioms.SubObjectPropertyOf sub super) = true
is_relation (axioms.SubObjectPropertyChainOf chain super) = true
is_relation (axioms.EquivalentObjectProperties properties) = true
is_relation (axioms.DisjointObjectProperties properties) = true
is_relation (axioms.InverseObjectProperties first second) = true
is_relation (axioms.ObjectPropertyDomain property class) = true
is_relation (axioms.ObjectPropertyRange property class) = true
is_relation _ = false

-- characteristics of object properties
abbrev pub is_characteristic : Axiom → Bool
is_characteristic (axioms.FunctionalObjectProperty property) = true
is_characteristic (axioms.InverseFunctionalObjectProperty property) = true
is_characteristic (axioms.ReflexiveObjectProperty property) = true
is_characteristic (axioms.IrreflexiveObjectProperty property) = true
is_characteristic (axioms.SymmetricObjectProperty property) = true
is_characteristic (axioms.AsymmetricObjectProperty property) = true
is_characteristic (axioms.TransitiveObjectProperty property) = true
is_characteristic _ = false

-- on data properties, datatypes and keys
abbrev pub is_on_data : Axiom → Bool
is_on_data (axioms.SubDataPropertyOf sub super) = true
is_on_data (axioms.EquivalentDataProperties properties) = true
is_on_data (axioms.DisjointDataProperties properties) = true
is_on_data (axioms.DataPropertyDomain property class) = true
is_on_data (axioms.DataPropertyRange property range) = true
is_on_data (axioms.FunctionalDataProperty property) = true
is_on_data (axioms.DatatypeDefinition datatype range) = true
is_on_data (axioms.HasKey class objects values) = true
is_on_data _ = false
