-- How the keywords are spelled, and the keyword that a word is.
use Rattle.std.specs.Prelude.{ℕ, List, [], ◌∷◌, Option, None, Some, if◌then◌else◌}
use Rattle.std.specs.Str.{bytes_eq}
use Rattle.ad_entity.specs.declared.entities.EntityKind.TheVariants as kinds
use Rattle.ad_write.specs.Keywords as kw
use Rattle.ad_terms.specs.declared.keyword.Keyword.{Keyword}
use Rattle.ad_terms.specs.declared.keyword.Keyword.TheVariants as keyword
use Rattle.ad_terms.specs.declared.keyword.AxiomWord.TheVariants as axiomword
use Rattle.ad_terms.specs.declared.keyword.ClassWord.TheVariants as classword
use Rattle.ad_terms.specs.declared.keyword.RangeWord.TheVariants as rangeword
use Rattle.ad_terms.specs.declared.keyword.JoinWord.TheVariants as joinword
use Rattle.ad_terms.specs.declared.keyword.FillerWord.TheVariants as fillerword
use Rattle.ad_terms.specs.declared.keyword.CountWord.TheVariants as countword
use Rattle.ad_terms.specs.declared.keyword.SetWord.TheVariants as setword
use Rattle.ad_terms.specs.declared.keyword.EndWord.TheVariants as endword
use Rattle.ad_terms.specs.declared.keyword.TraitWord.TheVariants as traitword
use Rattle.ad_terms.specs.declared.keyword.NamesWord.TheVariants as namesword
use Rattle.ad_terms.specs.declared.keyword.FactWord.TheVariants as factword

abbrev pub keywords : List (List ℕ × Keyword)
keywords =
    (kw.Annotation, keyword.Annotation)
    ∷ (kw.ObjectInverseOf, keyword.Inverse)
    ∷ (kw.ObjectPropertyChain, keyword.Chain)
    ∷ (kw.Class, keyword.Entity kinds.Class)
    ∷ (kw.Datatype, keyword.Entity kinds.Datatype)
    ∷ (kw.ObjectProperty, keyword.Entity kinds.ObjectProperty)
    ∷ (kw.DataProperty, keyword.Entity kinds.DataProperty)
    ∷ (kw.AnnotationProperty, keyword.Entity kinds.AnnotationProperty)
    ∷ (kw.NamedIndividual, keyword.Entity kinds.NamedIndividual)
    ∷ (kw.DataIntersectionOf, keyword.Range (rangeword.Join joinword.Intersection))
    ∷ (kw.DataUnionOf, keyword.Range (rangeword.Join joinword.Union))
    ∷ (kw.DataComplementOf, keyword.Range rangeword.Complement)
    ∷ (kw.DataOneOf, keyword.Range rangeword.OneOf)
    ∷ (kw.DatatypeRestriction, keyword.Range rangeword.Restriction)
    ∷ (kw.ObjectIntersectionOf, keyword.Class (classword.Join joinword.Intersection))
    ∷ (kw.ObjectUnionOf, keyword.Class (classword.Join joinword.Union))
    ∷ (kw.ObjectComplementOf, keyword.Class classword.Complement)
    ∷ (kw.ObjectOneOf, keyword.Class classword.OneOf)
    ∷ (kw.ObjectSomeValuesFrom, keyword.Class (classword.ObjectFiller fillerword.Some))
    ∷ (kw.ObjectAllValuesFrom, keyword.Class (classword.ObjectFiller fillerword.All))
    ∷ (kw.ObjectHasValue, keyword.Class classword.ObjectValue)
    ∷ (kw.ObjectHasSelf, keyword.Class classword.ObjectSelf)
    ∷ (kw.ObjectMinCardinality, keyword.Class (classword.ObjectCount countword.Min))
    ∷ (kw.ObjectMaxCardinality, keyword.Class (classword.ObjectCount countword.Max))
    ∷ (kw.ObjectExactCardinality, keyword.Class (classword.ObjectCount countword.Exact))
    ∷ (kw.DataSomeValuesFrom, keyword.Class (classword.DataFiller fillerword.Some))
    ∷ (kw.DataAllValuesFrom, keyword.Class (classword.DataFiller fillerword.All))
    ∷ (kw.DataHasValue, keyword.Class classword.DataValue)
    ∷ (kw.DataMinCardinality, keyword.Class (classword.DataCount countword.Min))
    ∷ (kw.DataMaxCardinality, keyword.Class (classword.DataCount countword.Max))
    ∷ (kw.DataExactCardinality, keyword.Class (classword.DataCount countword.Exact))
    ∷ (kw.SubClassOf, keyword.Axiom axiomword.SubClassOf)
    ∷ (kw.EquivalentClasses, keyword.Axiom (axiomword.Classes setword.Same))
    ∷ (kw.DisjointClasses, keyword.Axiom (axiomword.Classes setword.Different))
    ∷ (kw.DisjointUnion, keyword.Axiom axiomword.DisjointUnion)
    ∷ (kw.SubObjectPropertyOf, keyword.Axiom axiomword.SubObjectPropertyOf)
    ∷ (kw.EquivalentObjectProperties, keyword.Axiom (axiomword.Properties setword.Same))
    ∷ (kw.DisjointObjectProperties, keyword.Axiom (axiomword.Properties setword.Different))
    ∷ (kw.InverseObjectProperties, keyword.Axiom axiomword.Inverse)
    ∷ (kw.ObjectPropertyDomain, keyword.Axiom (axiomword.PropertyEnd endword.Domain))
    ∷ (kw.ObjectPropertyRange, keyword.Axiom (axiomword.PropertyEnd endword.Range))
    ∷ (kw.FunctionalObjectProperty, keyword.Axiom (axiomword.Trait traitword.Functional))
    ∷ (kw.InverseFunctionalObjectProperty, keyword.Axiom (axiomword.Trait traitword.InverseFunctional))
    ∷ (kw.ReflexiveObjectProperty, keyword.Axiom (axiomword.Trait traitword.Reflexive))
    ∷ (kw.IrreflexiveObjectProperty, keyword.Axiom (axiomword.Trait traitword.Irreflexive))
    ∷ (kw.SymmetricObjectProperty, keyword.Axiom (axiomword.Trait traitword.Symmetric))
    ∷ (kw.AsymmetricObjectProperty, keyword.Axiom (axiomword.Trait traitword.Asymmetric))
    ∷ (kw.TransitiveObjectProperty, keyword.Axiom (axiomword.Trait traitword.Transitive))
    ∷ (kw.SubDataPropertyOf, keyword.Axiom (axiomword.Names namesword.SubDataPropertyOf))
    ∷ (kw.EquivalentDataProperties, keyword.Axiom (axiomword.DataProperties setword.Same))
    ∷ (kw.DisjointDataProperties, keyword.Axiom (axiomword.DataProperties setword.Different))
    ∷ (kw.DataPropertyDomain, keyword.Axiom axiomword.DataPropertyDomain)
    ∷ (kw.DataPropertyRange, keyword.Axiom axiomword.DataPropertyRange)
    ∷ (kw.FunctionalDataProperty, keyword.Axiom axiomword.FunctionalDataProperty)
    ∷ (kw.DatatypeDefinition, keyword.Axiom axiomword.DatatypeDefinition)
    ∷ (kw.HasKey, keyword.Axiom axiomword.HasKey)
    ∷ (kw.SameIndividual, keyword.Axiom (axiomword.Individuals setword.Same))
    ∷ (kw.DifferentIndividuals, keyword.Axiom (axiomword.Individuals setword.Different))
    ∷ (kw.ClassAssertion, keyword.Axiom axiomword.ClassAssertion)
    ∷ (kw.ObjectPropertyAssertion, keyword.Axiom (axiomword.PropertyFact factword.Holds))
    ∷ (kw.NegativeObjectPropertyAssertion, keyword.Axiom (axiomword.PropertyFact factword.Fails))
    ∷ (kw.DataPropertyAssertion, keyword.Axiom (axiomword.DataFact factword.Holds))
    ∷ (kw.NegativeDataPropertyAssertion, keyword.Axiom (axiomword.DataFact factword.Fails))
    ∷ (kw.Declaration, keyword.Axiom axiomword.Declaration)
    ∷ (kw.AnnotationAssertion, keyword.Axiom axiomword.AnnotationAssertion)
    ∷ (kw.SubAnnotationPropertyOf, keyword.Axiom (axiomword.Names namesword.SubAnnotationPropertyOf))
    ∷ (kw.AnnotationPropertyDomain, keyword.Axiom (axiomword.Names namesword.AnnotationPropertyDomain))
    ∷ (kw.AnnotationPropertyRange, keyword.Axiom (axiomword.Names namesword.AnnotationPropertyRange))
    ∷ []

-- the first of these keywords that is spelled so
abbrev pub keyword_among : List (List ℕ × Keyword) → List ℕ → Option Keyword
keyword_among [] word = None
keyword_among (k ∷ ks) word = if bytes_eq k.0 word then Some k.1 else keyword_among ks word

abbrev pub keyword_of : List ℕ → Option Keyword
keyword_of word = keyword_among keywords word
