-- What is spelled can be written: data ranges, class expressions, annotations and axioms.
use Rattle.std.proofs.Common.{Bool, Option, None, Some, IfSome}
use Rattle.ad_write.specs.Keywords as kw
use Rattle.ad_tree.specs.declared.ranges.Range.{Range}
use Rattle.ad_tree.specs.declared.classes.Class.{Class}
use Rattle.ad_tree.specs.declared.notes.Annotation.{Annotation}
use Rattle.ad_tree.specs.declared.axioms.Axiom.{Axiom}
use Rattle.ad_tree.specs.declared.axioms.Axiom.TheVariants as axioms
use Rattle.ad_tree.specs.declared.axioms.Noted.{Noted}
use Rattle.ad_tree.proofs.Induction.{RangeCases, range_induction, ClassCases, class_induction, annotation_induction}
use Rattle.ad_grammar.specs.Shapes.{Text, Then, Many0}
use Rattle.ad_grammar.specs.Names.{Words, IsName, SpellsProperty, SpellsIndividual, SpellsLiteral, SpellsFacet}
use Rattle.ad_grammar.specs.Phrases.{SpellsRange, SpellsClass, SpellsAnnotation}
use Rattle.ad_grammar.specs.Axioms.{SpellsAxiom, SpellsNoted}
use Rattle.ad_grammar.proofs.Equations.{spells_range-named, spells_range-and, spells_range-or, spells_range-not, spells_range-one_of, spells_range-restriction, spells_class-named, spells_class-and, spells_class-or, spells_class-not, spells_class-one_of, spells_class-obj_some, spells_class-obj_all, spells_class-obj_value, spells_class-obj_self, spells_class-obj_min, spells_class-obj_max, spells_class-obj_exact, spells_class-data_some, spells_class-data_all, spells_class-data_value, spells_class-data_min, spells_class-data_max, spells_class-data_exact, spells_annotation}
use Rattle.ad_canonical.specs.Spellable.{SpellableIri, SpellableLiteral, SpellableProperty, SpellableIndividual, SpellableFacet, SpellableRange, SpellableClass, SpellableAnnotation, SpellableAxiom, IsSpellable}
use Rattle.ad_canonical.proofs.Equations.{spellable_range-named, spellable_range-and, spellable_range-or, spellable_range-not, spellable_range-one_of, spellable_range-restriction, spellable_class-named, spellable_class-and, spellable_class-or, spellable_class-not, spellable_class-one_of, spellable_class-obj_some, spellable_class-obj_all, spellable_class-obj_value, spellable_class-obj_self, spellable_class-obj_min, spellable_class-obj_max, spellable_class-obj_exact, spellable_class-data_some, spellable_class-data_all, spellable_class-data_value, spellable_class-data_min, spellable_class-data_max, spellable_class-data_exact, spellable_annotation}
use Rattle.ad_canonical.proofs.Ranges.{every}
use Rattle.ad_canonical.proofs.Sound.{AreSound, AreSoundWords}
use Rattle.ad_canonical.proofs.Shapes.{Gives, two, three, inside, within, any, some, maybe, as_tree, number, name, literal, property, individual, facet, subject, value, entity}

every_some : {X : Type 0} {A : X → Type 0} → ((x : X) → A x) → (o : Option X) → IfSome o A
every_some h None = tt
every_some h (Some x) = h x

-- whatever stands between
first_and_last : {P Q R : Text → Type 0} {A B : Type 0} → Gives P A → Gives R B → Gives (Then P (Then Q R)) (A × B)
first_and_last {P} {Q} {R} f g ts s h = let all = three f (λ (us : Text) (t : AreSound us) (q : Q us). let nothing : Unit {0} = tt in nothing) g ts s h in (all.0, all.2)

module _ (words : Words) (sound : AreSoundWords words) where
  range_cases : RangeCases (λ x. Gives (SpellsRange words x) (SpellableRange x))
  range_cases = record {
    named = λ datatype. as_tree (spells_range-named words datatype) (spellable_range-named datatype) (name words sound datatype);
    intersection = λ operands each. as_tree (spells_range-and words operands) (spellable_range-and operands) (inside kw.DataIntersectionOf (some (SpellsRange words) SpellableRange operands each));
    union = λ operands each. as_tree (spells_range-or words operands) (spellable_range-or operands) (inside kw.DataUnionOf (some (SpellsRange words) SpellableRange operands each));
    complement = λ operand is. as_tree (spells_range-not words operand) (spellable_range-not operand) (inside kw.DataComplementOf (is));
    one_of = λ values. as_tree (spells_range-one_of words values) (spellable_range-one_of values) (inside kw.DataOneOf (some (SpellsLiteral words) SpellableLiteral values (every (literal words sound) values)));
    restriction = λ datatype facets. as_tree (spells_range-restriction words datatype facets) (spellable_range-restriction datatype facets) (inside kw.DatatypeRestriction (two (name words sound datatype) (some (SpellsFacet words) SpellableFacet facets (every (facet words sound) facets))));
  }

  pub range : (x : Range) → Gives (SpellsRange words x) (SpellableRange x)
  range = range_induction (λ x. Gives (SpellsRange words x) (SpellableRange x)) range_cases

  pub note : (x : Annotation) → Gives (SpellsAnnotation words x) (SpellableAnnotation x)
  note = annotation_induction (λ x. Gives (SpellsAnnotation words x) (SpellableAnnotation x)) (record {
    annotation = λ notes p v each. as_tree (spells_annotation words notes p v) (spellable_annotation notes p v)
        (inside kw.Annotation (three (any (SpellsAnnotation words) SpellableAnnotation notes each) (name words sound p) (value words sound v)));
  })

module _ (w : Bool) (words : Words) (sound : AreSoundWords words) where
  class_cases : ClassCases (λ x. Gives (SpellsClass w words x) (SpellableClass x))
  class_cases = record {
    named = λ class. as_tree (spells_class-named w words class) (spellable_class-named class) (name words sound class);
    intersection = λ operands each. as_tree (spells_class-and w words operands) (spellable_class-and operands) (inside kw.ObjectIntersectionOf (some (SpellsClass w words) SpellableClass operands each));
    union = λ operands each. as_tree (spells_class-or w words operands) (spellable_class-or operands) (inside kw.ObjectUnionOf (some (SpellsClass w words) SpellableClass operands each));
    complement = λ operand is. as_tree (spells_class-not w words operand) (spellable_class-not operand) (inside kw.ObjectComplementOf (is));
    one_of = λ members. as_tree (spells_class-one_of w words members) (spellable_class-one_of members) (inside kw.ObjectOneOf (some (SpellsIndividual words) SpellableIndividual members (every (individual words sound) members)));
    obj_some = λ p filler is. as_tree (spells_class-obj_some w words p filler) (spellable_class-obj_some p filler) (inside kw.ObjectSomeValuesFrom (two (property words sound p) is));
    obj_all = λ p filler is. as_tree (spells_class-obj_all w words p filler) (spellable_class-obj_all p filler) (inside kw.ObjectAllValuesFrom (two (property words sound p) is));
    obj_value = λ p i. as_tree (spells_class-obj_value w words p i) (spellable_class-obj_value p i) (inside kw.ObjectHasValue (two (property words sound p) (individual words sound i)));
    obj_self = λ p. as_tree (spells_class-obj_self w words p) (spellable_class-obj_self p) (inside kw.ObjectHasSelf (property words sound p));
    obj_min = λ n p filler is. as_tree (spells_class-obj_min w words n p filler) (spellable_class-obj_min n p filler) (inside kw.ObjectMinCardinality (three (number n) (property words sound p) (maybe (SpellsClass w words) SpellableClass filler is)));
    obj_max = λ n p filler is. as_tree (spells_class-obj_max w words n p filler) (spellable_class-obj_max n p filler) (inside kw.ObjectMaxCardinality (three (number n) (property words sound p) (maybe (SpellsClass w words) SpellableClass filler is)));
    obj_exact = λ n p filler is. as_tree (spells_class-obj_exact w words n p filler) (spellable_class-obj_exact n p filler) (inside kw.ObjectExactCardinality (three (number n) (property words sound p) (maybe (SpellsClass w words) SpellableClass filler is)));
    data_some = λ p filler. as_tree (spells_class-data_some w words p filler) (spellable_class-data_some p filler) (inside kw.DataSomeValuesFrom (first_and_last (name words sound p) (range words sound filler)));
    data_all = λ p filler. as_tree (spells_class-data_all w words p filler) (spellable_class-data_all p filler) (inside kw.DataAllValuesFrom (first_and_last (name words sound p) (range words sound filler)));
    data_value = λ p v. as_tree (spells_class-data_value w words p v) (spellable_class-data_value p v) (inside kw.DataHasValue (two (name words sound p) (literal words sound v)));
    data_min = λ n p filler. as_tree (spells_class-data_min w words n p filler) (spellable_class-data_min n p filler) (inside kw.DataMinCardinality (three (number n) (name words sound p) (maybe (SpellsRange words) SpellableRange filler (every_some (range words sound) filler))));
    data_max = λ n p filler. as_tree (spells_class-data_max w words n p filler) (spellable_class-data_max n p filler) (inside kw.DataMaxCardinality (three (number n) (name words sound p) (maybe (SpellsRange words) SpellableRange filler (every_some (range words sound) filler))));
    data_exact = λ n p filler. as_tree (spells_class-data_exact w words n p filler) (spellable_class-data_exact n p filler) (inside kw.DataExactCardinality (three (number n) (name words sound p) (maybe (SpellsRange words) SpellableRange filler (every_some (range words sound) filler))));
  }

  pub class : (x : Class) → Gives (SpellsClass w words x) (SpellableClass x)
  class = class_induction (λ x. Gives (SpellsClass w words x) (SpellableClass x)) class_cases

  axiom_of : {N : Type 0} (notes : Text → Type 0) → Gives notes N → (a : Axiom) → Gives (SpellsAxiom w words notes a) (N × SpellableAxiom a)
  axiom_of notes n (axioms.SubClassOf sub super) = inside kw.SubClassOf (two n (two (class sub) (class super)))
  axiom_of notes n (axioms.EquivalentClasses xs) = inside kw.EquivalentClasses (two n (some (SpellsClass w words) SpellableClass xs (every class xs)))
  axiom_of notes n (axioms.DisjointClasses xs) = inside kw.DisjointClasses (two n (some (SpellsClass w words) SpellableClass xs (every class xs)))
  axiom_of notes n (axioms.DisjointUnion c xs) = inside kw.DisjointUnion (two n (two (name words sound c) (some (SpellsClass w words) SpellableClass xs (every class xs))))
  axiom_of notes n (axioms.SubObjectPropertyOf sub super) = inside kw.SubObjectPropertyOf (two n (two (property words sound sub) (property words sound super)))
  axiom_of notes n (axioms.SubObjectPropertyChainOf xs super) = inside kw.SubObjectPropertyOf (two n (two (inside kw.ObjectPropertyChain (some (SpellsProperty words) SpellableProperty xs (every (property words sound) xs))) (property words sound super)))
  axiom_of notes n (axioms.EquivalentObjectProperties xs) = inside kw.EquivalentObjectProperties (two n (some (SpellsProperty words) SpellableProperty xs (every (property words sound) xs)))
  axiom_of notes n (axioms.DisjointObjectProperties xs) = inside kw.DisjointObjectProperties (two n (some (SpellsProperty words) SpellableProperty xs (every (property words sound) xs)))
  axiom_of notes n (axioms.InverseObjectProperties p q) = inside kw.InverseObjectProperties (two n (two (property words sound p) (property words sound q)))
  axiom_of notes n (axioms.ObjectPropertyDomain p c) = inside kw.ObjectPropertyDomain (two n (two (property words sound p) (class c)))
  axiom_of notes n (axioms.ObjectPropertyRange p c) = inside kw.ObjectPropertyRange (two n (two (property words sound p) (class c)))
  axiom_of notes n (axioms.FunctionalObjectProperty p) = inside kw.FunctionalObjectProperty (two n (property words sound p))
  axiom_of notes n (axioms.InverseFunctionalObjectProperty p) = inside kw.InverseFunctionalObjectProperty (two n (property words sound p))
  axiom_of notes n (axioms.ReflexiveObjectProperty p) = inside kw.ReflexiveObjectProperty (two n (property words sound p))
  axiom_of notes n (axioms.IrreflexiveObjectProperty p) = inside kw.IrreflexiveObjectProperty (two n (property words sound p))
  axiom_of notes n (axioms.SymmetricObjectProperty p) = inside kw.SymmetricObjectProperty (two n (property words sound p))
  axiom_of notes n (axioms.AsymmetricObjectProperty p) = inside kw.AsymmetricObjectProperty (two n (property words sound p))
  axiom_of notes n (axioms.TransitiveObjectProperty p) = inside kw.TransitiveObjectProperty (two n (property words sound p))
  axiom_of notes n (axioms.SubDataPropertyOf p q) = inside kw.SubDataPropertyOf (two n (two (name words sound p) (name words sound q)))
  axiom_of notes n (axioms.EquivalentDataProperties xs) = inside kw.EquivalentDataProperties (two n (some (IsName words) SpellableIri xs (every (name words sound) xs)))
  axiom_of notes n (axioms.DisjointDataProperties xs) = inside kw.DisjointDataProperties (two n (some (IsName words) SpellableIri xs (every (name words sound) xs)))
  axiom_of notes n (axioms.DataPropertyDomain p c) = inside kw.DataPropertyDomain (two n (two (name words sound p) (class c)))
  axiom_of notes n (axioms.DataPropertyRange p r) = inside kw.DataPropertyRange (two n (two (name words sound p) (range words sound r)))
  axiom_of notes n (axioms.FunctionalDataProperty p) = inside kw.FunctionalDataProperty (two n (name words sound p))
  axiom_of notes n (axioms.DatatypeDefinition d r) = inside kw.DatatypeDefinition (two n (two (name words sound d) (range words sound r)))
  axiom_of notes n (axioms.HasKey c ps vs) = inside kw.HasKey (two n (three (class c) (within (any (SpellsProperty words) SpellableProperty ps (every (property words sound) ps))) (within (any (IsName words) SpellableIri vs (every (name words sound) vs)))))
  axiom_of notes n (axioms.SameIndividual xs) = inside kw.SameIndividual (two n (some (SpellsIndividual words) SpellableIndividual xs (every (individual words sound) xs)))
  axiom_of notes n (axioms.DifferentIndividuals xs) = inside kw.DifferentIndividuals (two n (some (SpellsIndividual words) SpellableIndividual xs (every (individual words sound) xs)))
  axiom_of notes n (axioms.ClassAssertion c i) = inside kw.ClassAssertion (two n (two (class c) (individual words sound i)))
  axiom_of notes n (axioms.ObjectPropertyAssertion p i j) = inside kw.ObjectPropertyAssertion (two n (three (property words sound p) (individual words sound i) (individual words sound j)))
  axiom_of notes n (axioms.NegativeObjectPropertyAssertion p i j) = inside kw.NegativeObjectPropertyAssertion (two n (three (property words sound p) (individual words sound i) (individual words sound j)))
  axiom_of notes n (axioms.DataPropertyAssertion p i l) = inside kw.DataPropertyAssertion (two n (three (name words sound p) (individual words sound i) (literal words sound l)))
  axiom_of notes n (axioms.NegativeDataPropertyAssertion p i l) = inside kw.NegativeDataPropertyAssertion (two n (three (name words sound p) (individual words sound i) (literal words sound l)))
  axiom_of notes n (axioms.Declaration e) = inside kw.Declaration (two n (entity words sound e))
  axiom_of notes n (axioms.AnnotationAssertion p s v) = inside kw.AnnotationAssertion (two n (three (name words sound p) (subject words sound s) (value words sound v)))
  axiom_of notes n (axioms.SubAnnotationPropertyOf p q) = inside kw.SubAnnotationPropertyOf (two n (two (name words sound p) (name words sound q)))
  axiom_of notes n (axioms.AnnotationPropertyDomain p d) = inside kw.AnnotationPropertyDomain (two n (two (name words sound p) (name words sound d)))
  axiom_of notes n (axioms.AnnotationPropertyRange p d) = inside kw.AnnotationPropertyRange (two n (two (name words sound p) (name words sound d)))

  pub noted : (a : Noted) → Gives (SpellsNoted w words a) (IsSpellable a)
  noted a = axiom_of (Many0 (SpellsAnnotation words) a.notes) (any (SpellsAnnotation words) SpellableAnnotation a.notes (every (note words sound) a.notes)) a.«axiom»
