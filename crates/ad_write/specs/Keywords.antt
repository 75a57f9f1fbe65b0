-- The keywords of the functional-style syntax (OWL 2 Structural Specification, Second Edition), as their ASCII bytes.
use Rattle.std.specs.Prelude.{ℕ, List, codes}

-- a document
abbrev pub Ontology : List ℕ
Ontology = codes "Ontology"

-- annotations
abbrev pub Annotation : List ℕ
Annotation = codes "Annotation"

-- entities
abbrev pub Class : List ℕ
Class = codes "Class"

abbrev pub Datatype : List ℕ
Datatype = codes "Datatype"

abbrev pub ObjectProperty : List ℕ
ObjectProperty = codes "ObjectProperty"

abbrev pub DataProperty : List ℕ
DataProperty = codes "DataProperty"

abbrev pub AnnotationProperty : List ℕ
AnnotationProperty = codes "AnnotationProperty"

abbrev pub NamedIndividual : List ℕ
NamedIndividual = codes "NamedIndividual"

-- object property expressions and chains
abbrev pub ObjectInverseOf : List ℕ
ObjectInverseOf = codes "ObjectInverseOf"

abbrev pub ObjectPropertyChain : List ℕ
ObjectPropertyChain = codes "ObjectPropertyChain"

-- data ranges
abbrev pub DataIntersectionOf : List ℕ
DataIntersectionOf = codes "DataIntersectionOf"

abbrev pub DataUnionOf : List ℕ
DataUnionOf = codes "DataUnionOf"

abbrev pub DataComplementOf : List ℕ
DataComplementOf = codes "DataComplementOf"

abbrev pub DataOneOf : List ℕ
DataOneOf = codes "DataOneOf"

abbrev pub DatatypeRestriction : List ℕ
DatatypeRestriction = codes "DatatypeRestriction"

-- class expressions on objects
abbrev pub ObjectIntersectionOf : List ℕ
ObjectIntersectionOf = codes "ObjectIntersectionOf"

abbrev pub ObjectUnionOf : List ℕ
ObjectUnionOf = codes "ObjectUnionOf"

abbrev pub ObjectComplementOf : List ℕ
ObjectComplementOf = codes "ObjectComplementOf"

abbrev pub ObjectOneOf : List ℕ
ObjectOneOf = codes "ObjectOneOf"

abbrev pub ObjectSomeValuesFrom : List ℕ
ObjectSomeValuesFrom = codes "ObjectSomeValuesFrom"

abbrev pub ObjectAllValuesFrom : List ℕ
ObjectAllValuesFrom = codes "ObjectAllValuesFrom"

abbrev pub ObjectHasValue : List ℕ
ObjectHasValue = codes "ObjectHasValue"

abbrev pub ObjectHasSelf : List ℕ
ObjectHasSelf = codes "ObjectHasSelf"

abbrev pub ObjectMinCardinality : List ℕ
ObjectMinCardinality = codes "ObjectMinCardinality"

abbrev pub ObjectMaxCardinality : List ℕ
ObjectMaxCardinality = codes "ObjectMaxCardinality"

abbrev pub ObjectExactCardinality : List ℕ
ObjectExactCardinality = codes "ObjectExactCardinality"

-- class expressions on data
abbrev pub DataSomeValuesFrom : List ℕ
DataSomeValuesFrom = codes "DataSomeValuesFrom"

abbrev pub DataAllValuesFrom : List ℕ
DataAllValuesFrom = codes "DataAllValuesFrom"

abbrev pub DataHasValue : List ℕ
DataHasValue = codes "DataHasValue"

abbrev pub DataMinCardinality : List ℕ
DataMinCardinality = codes "DataMinCardinality"

abbrev pub DataMaxCardinality : List ℕ
DataMaxCardinality = codes "DataMaxCardinality"

abbrev pub DataExactCardinality : List ℕ
DataExactCardinality = codes "DataExactCardinality"

-- class axioms
abbrev pub SubClassOf : List ℕ
SubClassOf = codes "SubClassOf"

abbrev pub EquivalentClasses : List ℕ
EquivalentClasses = codes "EquivalentClasses"

abbrev pub DisjointClasses : List ℕ
DisjointClasses = codes "DisjointClasses"

abbrev pub DisjointUnion : List ℕ
DisjointUnion = codes "DisjointUnion"

-- object property axioms
abbrev pub SubObjectPropertyOf : List ℕ
SubObjectPropertyOf = codes "SubObjectPropertyOf"

abbrev pub EquivalentObjectProperties : List ℕ
EquivalentObjectProperties = codes "EquivalentObjectProperties"

abbrev pub DisjointObjectProperties : List ℕ
DisjointObjectProperties = codes "DisjointObjectProperties"

abbrev pub InverseObjectProperties : List ℕ
InverseObjectProperties = codes "InverseObjectProperties"

abbrev pub ObjectPropertyDomain : List ℕ
ObjectPropertyDomain = codes "ObjectPropertyDomain"

abbrev pub ObjectPropertyRange : List ℕ
ObjectPropertyRange = codes "ObjectPropertyRange"

abbrev pub FunctionalObjectProperty : List ℕ
FunctionalObjectProperty = codes "FunctionalObjectProperty"

abbrev pub InverseFunctionalObjectProperty : List ℕ
InverseFunctionalObjectProperty = codes "InverseFunctionalObjectProperty"

abbrev pub ReflexiveObjectProperty : List ℕ
ReflexiveObjectProperty = codes "ReflexiveObjectProperty"

abbrev pub IrreflexiveObjectProperty : List ℕ
IrreflexiveObjectProperty = codes "IrreflexiveObjectProperty"

abbrev pub SymmetricObjectProperty : List ℕ
SymmetricObjectProperty = codes "SymmetricObjectProperty"

abbrev pub AsymmetricObjectProperty : List ℕ
AsymmetricObjectProperty = codes "AsymmetricObjectProperty"

abbrev pub TransitiveObjectProperty : List ℕ
TransitiveObjectProperty = codes "TransitiveObjectProperty"

-- data property axioms
abbrev pub SubDataPropertyOf : List ℕ
SubDataPropertyOf = codes "SubDataPropertyOf"

abbrev pub EquivalentDataProperties : List ℕ
EquivalentDataProperties = codes "EquivalentDataProperties"

abbrev pub DisjointDataProperties : List ℕ
DisjointDataProperties = codes "DisjointDataProperties"

abbrev pub DataPropertyDomain : List ℕ
DataPropertyDomain = codes "DataPropertyDomain"

abbrev pub DataPropertyRange : List ℕ
DataPropertyRange = codes "DataPropertyRange"

abbrev pub FunctionalDataProperty : List ℕ
FunctionalDataProperty = codes "FunctionalDataProperty"

-- datatype definitions and keys
abbrev pub DatatypeDefinition : List ℕ
DatatypeDefinition = codes "DatatypeDefinition"

abbrev pub HasKey : List ℕ
HasKey = codes "HasKey"

-- assertions
abbrev pub SameIndividual : List ℕ
SameIndividual = codes "SameIndividual"

abbrev pub DifferentIndividuals : List ℕ
DifferentIndividuals = codes "DifferentIndividuals"

abbrev pub ClassAssertion : List ℕ
ClassAssertion = codes "ClassAssertion"

abbrev pub ObjectPropertyAssertion : List ℕ
ObjectPropertyAssertion = codes "ObjectPropertyAssertion"

abbrev pub NegativeObjectPropertyAssertion : List ℕ
NegativeObjectPropertyAssertion = codes "NegativeObjectPropertyAssertion"

abbrev pub DataPropertyAssertion : List ℕ
DataPropertyAssertion = codes "DataPropertyAssertion"

abbrev pub NegativeDataPropertyAssertion : List ℕ
NegativeDataPropertyAssertion = codes "NegativeDataPropertyAssertion"

-- declarations and annotation axioms
abbrev pub Declaration : List ℕ
Declaration = codes "Declaration"

abbrev pub AnnotationAssertion : List ℕ
AnnotationAssertion = codes "AnnotationAssertion"

abbrev pub SubAnnotationPropertyOf : List ℕ
SubAnnotationPropertyOf = codes "SubAnnotationPropertyOf"

abbrev pub AnnotationPropertyDomain : List ℕ
AnnotationPropertyDomain = codes "AnnotationPropertyDomain"

abbrev pub AnnotationPropertyRange : List ℕ
AnnotationPropertyRange = codes "AnnotationPropertyRange"

-- a prefix, before a document
abbrev pub Prefix : List ℕ
Prefix = codes "Prefix"

-- what the standard has, and no document here
abbrev pub Import : List ℕ
Import = codes "Import"

abbrev pub DLSafeRule : List ℕ
DLSafeRule = codes "DLSafeRule"
