-- How deep data ranges, class expressions, annotations and axioms nest, however their names are spelled.
use Rattle.std.proofs.Common.{false, Option, None, Some, IfSome}
use Rattle.ad_write.specs.Keywords as kw
use Rattle.ad_tree.specs.declared.ranges.Range.{Range}
use Rattle.ad_tree.specs.declared.classes.Class.{Class}
use Rattle.ad_tree.specs.declared.notes.Annotation.{Annotation}
use Rattle.ad_tree.specs.declared.axioms.Axiom.{Axiom}
use Rattle.ad_tree.specs.declared.axioms.Axiom.TheVariants as axioms
use Rattle.ad_tree.specs.declared.axioms.Noted.{Noted}
use Rattle.ad_tree.proofs.Induction.{RangeCases, range_induction, ClassCases, class_induction, annotation_induction}
use Rattle.ad_grammar.specs.Names.{IsName, SpellsProperty, SpellsIndividual, SpellsLiteral, SpellsFacet}
use Rattle.ad_grammar.specs.Phrases.{SpellsRange, SpellsClass, SpellsAnnotation}
use Rattle.ad_grammar.specs.Axioms.{SpellsAxiom, SpellsNoted}
use Rattle.ad_grammar.proofs.Equations.{spells_range-named, spells_range-and, spells_range-or, spells_range-not, spells_range-one_of, spells_range-restriction, spells_class-named, spells_class-and, spells_class-or, spells_class-not, spells_class-one_of, spells_class-obj_some, spells_class-obj_all, spells_class-obj_value, spells_class-obj_self, spells_class-obj_min, spells_class-obj_max, spells_class-obj_exact, spells_class-data_some, spells_class-data_all, spells_class-data_value, spells_class-data_min, spells_class-data_max, spells_class-data_exact, spells_annotation}
use Rattle.ad_canonical.proofs.Ranges.{every}
use Rattle.ad_canonical.proofs.Written.{Phrase}
use Rattle.ad_canonical.proofs.Depths.{Deep, two, inside, within, any, some, maybe, empty, as_tree, number, name, literal, property, individual, facet, subject, value, entity}

every_some : {X : Type 0} {A : X → Type 0} → ((x : X) → A x) → (o : Option X) → IfSome o A
every_some h None = tt
every_some h (Some x) = h x

range_cases : RangeCases (λ x. Deep (λ words. SpellsRange words x))
range_cases = record {
  named = λ datatype. as_tree (λ words. spells_range-named words datatype) (name datatype);
  intersection = λ operands each. as_tree (λ words. spells_range-and words operands) (inside kw.DataIntersectionOf (some SpellsRange operands each));
  union = λ operands each. as_tree (λ words. spells_range-or words operands) (inside kw.DataUnionOf (some SpellsRange operands each));
  complement = λ operand is. as_tree (λ words. spells_range-not words operand) (inside kw.DataComplementOf is);
  one_of = λ values. as_tree (λ words. spells_range-one_of words values) (inside kw.DataOneOf (some SpellsLiteral values (every literal values)));
  restriction = λ datatype facets. as_tree (λ words. spells_range-restriction words datatype facets) (inside kw.DatatypeRestriction (two (name datatype) (some SpellsFacet facets (every facet facets))));
}

pub range : (x : Range) → Deep (λ words. SpellsRange words x)
range = range_induction (λ x. Deep (λ words. SpellsRange words x)) range_cases

pub note : (x : Annotation) → Deep (λ words. SpellsAnnotation words x)
note = annotation_induction (λ x. Deep (λ words. SpellsAnnotation words x)) (record {
  annotation = λ notes p v each. as_tree (λ words. spells_annotation words notes p v)
      (inside kw.Annotation (two (any SpellsAnnotation notes each) (two (name p) (value v))));
})

class_cases : ClassCases (λ x. Deep (λ words. SpellsClass false words x))
class_cases = record {
  named = λ class. as_tree (λ words. spells_class-named false words class) (name class);
  intersection = λ operands each. as_tree (λ words. spells_class-and false words operands) (inside kw.ObjectIntersectionOf (some (SpellsClass false) operands each));
  union = λ operands each. as_tree (λ words. spells_class-or false words operands) (inside kw.ObjectUnionOf (some (SpellsClass false) operands each));
  complement = λ operand is. as_tree (λ words. spells_class-not false words operand) (inside kw.ObjectComplementOf is);
  one_of = λ members. as_tree (λ words. spells_class-one_of false words members) (inside kw.ObjectOneOf (some SpellsIndividual members (every individual members)));
  obj_some = λ p filler is. as_tree (λ words. spells_class-obj_some false words p filler) (inside kw.ObjectSomeValuesFrom (two (property p) is));
  obj_all = λ p filler is. as_tree (λ words. spells_class-obj_all false words p filler) (inside kw.ObjectAllValuesFrom (two (property p) is));
  obj_value = λ p i. as_tree (λ words. spells_class-obj_value false words p i) (inside kw.ObjectHasValue (two (property p) (individual i)));
  obj_self = λ p. as_tree (λ words. spells_class-obj_self false words p) (inside kw.ObjectHasSelf (property p));
  obj_min = λ n p filler is. as_tree (λ words. spells_class-obj_min false words n p filler) (inside kw.ObjectMinCardinality (two (number n) (two (property p) (maybe (SpellsClass false) filler is))));
  obj_max = λ n p filler is. as_tree (λ words. spells_class-obj_max false words n p filler) (inside kw.ObjectMaxCardinality (two (number n) (two (property p) (maybe (SpellsClass false) filler is))));
  obj_exact = λ n p filler is. as_tree (λ words. spells_class-obj_exact false words n p filler) (inside kw.ObjectExactCardinality (two (number n) (two (property p) (maybe (SpellsClass false) filler is))));
  data_some = λ p filler. as_tree (λ words. spells_class-data_some false words p filler) (inside kw.DataSomeValuesFrom (two (name p) (two empty (range filler))));
  data_all = λ p filler. as_tree (λ words. spells_class-data_all false words p filler) (inside kw.DataAllValuesFrom (two (name p) (two empty (range filler))));
  data_value = λ p v. as_tree (λ words. spells_class-data_value false words p v) (inside kw.DataHasValue (two (name p) (literal v)));
  data_min = λ n p filler. as_tree (λ words. spells_class-data_min false words n p filler) (inside kw.DataMinCardinality (two (number n) (two (name p) (maybe SpellsRange filler (every_some range filler)))));
  data_max = λ n p filler. as_tree (λ words. spells_class-data_max false words n p filler) (inside kw.DataMaxCardinality (two (number n) (two (name p) (maybe SpellsRange filler (every_some range filler)))));
  data_exact = λ n p filler. as_tree (λ words. spells_class-data_exact false words n p filler) (inside kw.DataExactCardinality (two (number n) (two (name p) (maybe SpellsRange filler (every_some range filler)))));
}

pub class : (x : Class) → Deep (λ words. SpellsClass false words x)
class = class_induction (λ x. Deep (λ words. SpellsClass false words x)) class_cases

axiom_of : {N : Phrase} → Deep N → (a : Axiom) → Deep (λ words. SpellsAxiom false words (N words) a)
axiom_of n (axioms.SubClassOf sub super) = inside kw.SubClassOf (two n (two (class sub) (class super)))
axiom_of n (axioms.EquivalentClasses xs) = inside kw.EquivalentClasses (two n (some (SpellsClass false) xs (every class xs)))
axiom_of n (axioms.DisjointClasses xs) = inside kw.DisjointClasses (two n (some (SpellsClass false) xs (every class xs)))
axiom_of n (axioms.DisjointUnion c xs) = inside kw.DisjointUnion (two n (two (name c) (some (SpellsClass false) xs (every class xs))))
axiom_of n (axioms.SubObjectPropertyOf sub super) = inside kw.SubObjectPropertyOf (two n (two (property sub) (property super)))
axiom_of n (axioms.SubObjectPropertyChainOf xs super) = inside kw.SubObjectPropertyOf (two n (two (inside kw.ObjectPropertyChain (some SpellsProperty xs (every property xs))) (property super)))
axiom_of n (axioms.EquivalentObjectProperties xs) = inside kw.EquivalentObjectProperties (two n (some SpellsProperty xs (every property xs)))
axiom_of n (axioms.DisjointObjectProperties xs) = inside kw.DisjointObjectProperties (two n (some SpellsProperty xs (every property xs)))
axiom_of n (axioms.InverseObjectProperties p q) = inside kw.InverseObjectProperties (two n (two (property p) (property q)))
axiom_of n (axioms.ObjectPropertyDomain p c) = inside kw.ObjectPropertyDomain (two n (two (property p) (class c)))
axiom_of n (axioms.ObjectPropertyRange p c) = inside kw.ObjectPropertyRange (two n (two (property p) (class c)))
axiom_of n (axioms.FunctionalObjectProperty p) = inside kw.FunctionalObjectProperty (two n (property p))
axiom_of n (axioms.InverseFunctionalObjectProperty p) = inside kw.InverseFunctionalObjectProperty (two n (property p))
axiom_of n (axioms.ReflexiveObjectProperty p) = inside kw.ReflexiveObjectProperty (two n (property p))
axiom_of n (axioms.IrreflexiveObjectProperty p) = inside kw.IrreflexiveObjectProperty (two n (property p))
axiom_of n (axioms.SymmetricObjectProperty p) = inside kw.SymmetricObjectProperty (two n (property p))
axiom_of n (axioms.AsymmetricObjectProperty p) = inside kw.AsymmetricObjectProperty (two n (property p))
axiom_of n (axioms.TransitiveObjectProperty p) = inside kw.TransitiveObjectProperty (two n (property p))
axiom_of n (axioms.SubDataPropertyOf p q) = inside kw.SubDataPropertyOf (two n (two (name p) (name q)))
axiom_of n (axioms.EquivalentDataProperties xs) = inside kw.EquivalentDataProperties (two n (some IsName xs (every name xs)))
axiom_of n (axioms.DisjointDataProperties xs) = inside kw.DisjointDataProperties (two n (some IsName xs (every name xs)))
axiom_of n (axioms.DataPropertyDomain p c) = inside kw.DataPropertyDomain (two n (two (name p) (class c)))
axiom_of n (axioms.DataPropertyRange p r) = inside kw.DataPropertyRange (two n (two (name p) (range r)))
axiom_of n (axioms.FunctionalDataProperty p) = inside kw.FunctionalDataProperty (two n (name p))
axiom_of n (axioms.DatatypeDefinition d r) = inside kw.DatatypeDefinition (two n (two (name d) (range r)))
axiom_of n (axioms.HasKey c ps vs) = inside kw.HasKey (two n (two (class c) (two (within (any SpellsProperty ps (every property ps))) (within (any IsName vs (every name vs))))))
axiom_of n (axioms.SameIndividual xs) = inside kw.SameIndividual (two n (some SpellsIndividual xs (every individual xs)))
axiom_of n (axioms.DifferentIndividuals xs) = inside kw.DifferentIndividuals (two n (some SpellsIndividual xs (every individual xs)))
axiom_of n (axioms.ClassAssertion c i) = inside kw.ClassAssertion (two n (two (class c) (individual i)))
axiom_of n (axioms.ObjectPropertyAssertion p i j) = inside kw.ObjectPropertyAssertion (two n (two (property p) (two (individual i) (individual j))))
axiom_of n (axioms.NegativeObjectPropertyAssertion p i j) = inside kw.NegativeObjectPropertyAssertion (two n (two (property p) (two (individual i) (individual j))))
axiom_of n (axioms.DataPropertyAssertion p i l) = inside kw.DataPropertyAssertion (two n (two (name p) (two (individual i) (literal l))))
axiom_of n (axioms.NegativeDataPropertyAssertion p i l) = inside kw.NegativeDataPropertyAssertion (two n (two (name p) (two (individual i) (literal l))))
axiom_of n (axioms.Declaration e) = inside kw.Declaration (two n (entity e))
axiom_of n (axioms.AnnotationAssertion p s v) = inside kw.AnnotationAssertion (two n (two (name p) (two (subject s) (value v))))
axiom_of n (axioms.SubAnnotationPropertyOf p q) = inside kw.SubAnnotationPropertyOf (two n (two (name p) (name q)))
axiom_of n (axioms.AnnotationPropertyDomain p d) = inside kw.AnnotationPropertyDomain (two n (two (name p) (name d)))
axiom_of n (axioms.AnnotationPropertyRange p d) = inside kw.AnnotationPropertyRange (two n (two (name p) (name d)))

pub noted : (a : Noted) → Deep (λ words. SpellsNoted false words a)
noted a = axiom_of (any SpellsAnnotation a.notes (every note a.notes)) a.«axiom»
