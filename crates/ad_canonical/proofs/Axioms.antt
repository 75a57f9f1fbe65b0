-- Axioms as they are written.
use Rattle.std.proofs.Common.{◌≡◌, ℕ, true, false, List, [], ◌∷◌, ◌++◌, map, refl}
use Rattle.std.specs.List.{AllByRecursion}
use Rattle.ad_write.specs.Keywords as kw
use Rattle.ad_write.specs.Canonical.{compound, group, canon_iri, canon_literal, canon_property, canon_individual, canon_range, canon_class, canon_subject, canon_value, canon_annotation, canon_entity, canon_axiom, canon}
use Rattle.ad_tree.specs.declared.notes.Annotation.{Annotation}
use Rattle.ad_tree.specs.declared.axioms.Axiom.{Axiom}
use Rattle.ad_tree.specs.declared.axioms.Axiom.TheVariants as axioms
use Rattle.ad_tree.specs.declared.axioms.Noted.{Noted}
use Rattle.ad_grammar.specs.Shapes.{Then, Compound, Many0}
use Rattle.ad_grammar.specs.Names.{IsName, SpellsProperty, SpellsIndividual}
use Rattle.ad_grammar.specs.Phrases.{SpellsClass, SpellsAnnotation}
use Rattle.ad_grammar.specs.Axioms.{SpellsAxiom, SpellsNoted}
use Rattle.ad_canonical.specs.Spellable.{SpellableIri, SpellableProperty, SpellableIndividual, SpellableClass, SpellableAnnotation, SpellableAxiom, IsSpellable}
use Rattle.ad_canonical.proofs.Keywords.{is_word}
use Rattle.ad_canonical.proofs.Leaves.{name, literal, property, individual, subject, value, entity}
use Rattle.ad_canonical.proofs.Ranges.{some_of, any_of, before, every, range}
use Rattle.ad_canonical.proofs.Classes.{class, note}
use Rattle.ad_canonical.proofs.Written.{Phrase, Arguments, Closed, next, grouped, closed, phrase}

-- a keyword with annotations and its arguments
statement_of : {Q : Phrase} (ns : List Annotation) → AllByRecursion SpellableAnnotation ns → (word : List ℕ) → is_word word ≡ true → (texts : List (List ℕ)) → Arguments texts Q
    → Closed (compound word (map canon_annotation ns ++ texts)) (λ words. Compound word (Then (Many0 (SpellsAnnotation words) ns) (Q words)))
statement_of ns n word h texts t = closed word h (map canon_annotation ns ++ texts) (before SpellableAnnotation SpellsAnnotation canon_annotation ns (every note ns) n texts t)

statement : (ns : List Annotation) → AllByRecursion SpellableAnnotation ns → (a : Axiom) → SpellableAxiom a → Closed (canon_axiom (map canon_annotation ns) a) (λ words. SpellsAxiom false words (Many0 (SpellsAnnotation words) ns) a)
statement ns n (axioms.SubClassOf sub super) h = statement_of ns n kw.SubClassOf refl (canon_class sub ∷ canon_class super ∷ []) (next (canon_class sub) (class sub h.0) (canon_class super ∷ []) (class super h.1))
statement ns n (axioms.EquivalentClasses xs) h = statement_of ns n kw.EquivalentClasses refl (map canon_class xs) (some_of SpellableClass (SpellsClass false) canon_class xs (every class xs) h)
statement ns n (axioms.DisjointClasses xs) h = statement_of ns n kw.DisjointClasses refl (map canon_class xs) (some_of SpellableClass (SpellsClass false) canon_class xs (every class xs) h)
statement ns n (axioms.DisjointUnion c xs) h = statement_of ns n kw.DisjointUnion refl (canon_iri c ∷ map canon_class xs) (next (canon_iri c) (name c h.0) (map canon_class xs) (some_of SpellableClass (SpellsClass false) canon_class xs (every class xs) h.1))
statement ns n (axioms.SubObjectPropertyOf sub super) h = statement_of ns n kw.SubObjectPropertyOf refl (canon_property sub ∷ canon_property super ∷ []) (next (canon_property sub) (property sub h.0) (canon_property super ∷ []) (property super h.1))
statement ns n (axioms.SubObjectPropertyChainOf xs super) h = statement_of ns n kw.SubObjectPropertyOf refl (compound kw.ObjectPropertyChain (map canon_property xs) ∷ canon_property super ∷ []) (next (compound kw.ObjectPropertyChain (map canon_property xs)) (phrase kw.ObjectPropertyChain refl (map canon_property xs) (some_of SpellableProperty SpellsProperty canon_property xs (every property xs) h.0)) (canon_property super ∷ []) (property super h.1))
statement ns n (axioms.EquivalentObjectProperties xs) h = statement_of ns n kw.EquivalentObjectProperties refl (map canon_property xs) (some_of SpellableProperty SpellsProperty canon_property xs (every property xs) h)
statement ns n (axioms.DisjointObjectProperties xs) h = statement_of ns n kw.DisjointObjectProperties refl (map canon_property xs) (some_of SpellableProperty SpellsProperty canon_property xs (every property xs) h)
statement ns n (axioms.InverseObjectProperties p q) h = statement_of ns n kw.InverseObjectProperties refl (canon_property p ∷ canon_property q ∷ []) (next (canon_property p) (property p h.0) (canon_property q ∷ []) (property q h.1))
statement ns n (axioms.ObjectPropertyDomain p c) h = statement_of ns n kw.ObjectPropertyDomain refl (canon_property p ∷ canon_class c ∷ []) (next (canon_property p) (property p h.0) (canon_class c ∷ []) (class c h.1))
statement ns n (axioms.ObjectPropertyRange p c) h = statement_of ns n kw.ObjectPropertyRange refl (canon_property p ∷ canon_class c ∷ []) (next (canon_property p) (property p h.0) (canon_class c ∷ []) (class c h.1))
statement ns n (axioms.FunctionalObjectProperty p) h = statement_of ns n kw.FunctionalObjectProperty refl (canon_property p ∷ []) (property p h)
statement ns n (axioms.InverseFunctionalObjectProperty p) h = statement_of ns n kw.InverseFunctionalObjectProperty refl (canon_property p ∷ []) (property p h)
statement ns n (axioms.ReflexiveObjectProperty p) h = statement_of ns n kw.ReflexiveObjectProperty refl (canon_property p ∷ []) (property p h)
statement ns n (axioms.IrreflexiveObjectProperty p) h = statement_of ns n kw.IrreflexiveObjectProperty refl (canon_property p ∷ []) (property p h)
statement ns n (axioms.SymmetricObjectProperty p) h = statement_of ns n kw.SymmetricObjectProperty refl (canon_property p ∷ []) (property p h)
statement ns n (axioms.AsymmetricObjectProperty p) h = statement_of ns n kw.AsymmetricObjectProperty refl (canon_property p ∷ []) (property p h)
statement ns n (axioms.TransitiveObjectProperty p) h = statement_of ns n kw.TransitiveObjectProperty refl (canon_property p ∷ []) (property p h)
statement ns n (axioms.SubDataPropertyOf p q) h = statement_of ns n kw.SubDataPropertyOf refl (canon_iri p ∷ canon_iri q ∷ []) (next (canon_iri p) (name p h.0) (canon_iri q ∷ []) (name q h.1))
statement ns n (axioms.EquivalentDataProperties xs) h = statement_of ns n kw.EquivalentDataProperties refl (map canon_iri xs) (some_of SpellableIri IsName canon_iri xs (every name xs) h)
statement ns n (axioms.DisjointDataProperties xs) h = statement_of ns n kw.DisjointDataProperties refl (map canon_iri xs) (some_of SpellableIri IsName canon_iri xs (every name xs) h)
statement ns n (axioms.DataPropertyDomain p c) h = statement_of ns n kw.DataPropertyDomain refl (canon_iri p ∷ canon_class c ∷ []) (next (canon_iri p) (name p h.0) (canon_class c ∷ []) (class c h.1))
statement ns n (axioms.DataPropertyRange p r) h = statement_of ns n kw.DataPropertyRange refl (canon_iri p ∷ canon_range r ∷ []) (next (canon_iri p) (name p h.0) (canon_range r ∷ []) (range r h.1))
statement ns n (axioms.FunctionalDataProperty p) h = statement_of ns n kw.FunctionalDataProperty refl (canon_iri p ∷ []) (name p h)
statement ns n (axioms.DatatypeDefinition d r) h = statement_of ns n kw.DatatypeDefinition refl (canon_iri d ∷ canon_range r ∷ []) (next (canon_iri d) (name d h.0) (canon_range r ∷ []) (range r h.1))
statement ns n (axioms.HasKey c ps vs) h = statement_of ns n kw.HasKey refl (canon_class c ∷ group (map canon_property ps) ∷ group (map canon_iri vs) ∷ []) (next (canon_class c) (class c h.0) (group (map canon_property ps) ∷ group (map canon_iri vs) ∷ []) (next (group (map canon_property ps)) (grouped (map canon_property ps) (any_of SpellableProperty SpellsProperty canon_property ps (every property ps) h.1)) (group (map canon_iri vs) ∷ []) (grouped (map canon_iri vs) (any_of SpellableIri IsName canon_iri vs (every name vs) h.2))))
statement ns n (axioms.SameIndividual xs) h = statement_of ns n kw.SameIndividual refl (map canon_individual xs) (some_of SpellableIndividual SpellsIndividual canon_individual xs (every individual xs) h)
statement ns n (axioms.DifferentIndividuals xs) h = statement_of ns n kw.DifferentIndividuals refl (map canon_individual xs) (some_of SpellableIndividual SpellsIndividual canon_individual xs (every individual xs) h)
statement ns n (axioms.ClassAssertion c i) h = statement_of ns n kw.ClassAssertion refl (canon_class c ∷ canon_individual i ∷ []) (next (canon_class c) (class c h.0) (canon_individual i ∷ []) (individual i h.1))
statement ns n (axioms.ObjectPropertyAssertion p i j) h = statement_of ns n kw.ObjectPropertyAssertion refl (canon_property p ∷ canon_individual i ∷ canon_individual j ∷ []) (next (canon_property p) (property p h.0) (canon_individual i ∷ canon_individual j ∷ []) (next (canon_individual i) (individual i h.1) (canon_individual j ∷ []) (individual j h.2)))
statement ns n (axioms.NegativeObjectPropertyAssertion p i j) h = statement_of ns n kw.NegativeObjectPropertyAssertion refl (canon_property p ∷ canon_individual i ∷ canon_individual j ∷ []) (next (canon_property p) (property p h.0) (canon_individual i ∷ canon_individual j ∷ []) (next (canon_individual i) (individual i h.1) (canon_individual j ∷ []) (individual j h.2)))
statement ns n (axioms.DataPropertyAssertion p i l) h = statement_of ns n kw.DataPropertyAssertion refl (canon_iri p ∷ canon_individual i ∷ canon_literal l ∷ []) (next (canon_iri p) (name p h.0) (canon_individual i ∷ canon_literal l ∷ []) (next (canon_individual i) (individual i h.1) (canon_literal l ∷ []) (literal l h.2)))
statement ns n (axioms.NegativeDataPropertyAssertion p i l) h = statement_of ns n kw.NegativeDataPropertyAssertion refl (canon_iri p ∷ canon_individual i ∷ canon_literal l ∷ []) (next (canon_iri p) (name p h.0) (canon_individual i ∷ canon_literal l ∷ []) (next (canon_individual i) (individual i h.1) (canon_literal l ∷ []) (literal l h.2)))
statement ns n (axioms.Declaration e) h = statement_of ns n kw.Declaration refl (canon_entity e ∷ []) (entity e h)
statement ns n (axioms.AnnotationAssertion p s v) h = statement_of ns n kw.AnnotationAssertion refl (canon_iri p ∷ canon_subject s ∷ canon_value v ∷ []) (next (canon_iri p) (name p h.0) (canon_subject s ∷ canon_value v ∷ []) (next (canon_subject s) (subject s h.1) (canon_value v ∷ []) (value v h.2)))
statement ns n (axioms.SubAnnotationPropertyOf p q) h = statement_of ns n kw.SubAnnotationPropertyOf refl (canon_iri p ∷ canon_iri q ∷ []) (next (canon_iri p) (name p h.0) (canon_iri q ∷ []) (name q h.1))
statement ns n (axioms.AnnotationPropertyDomain p d) h = statement_of ns n kw.AnnotationPropertyDomain refl (canon_iri p ∷ canon_iri d ∷ []) (next (canon_iri p) (name p h.0) (canon_iri d ∷ []) (name d h.1))
statement ns n (axioms.AnnotationPropertyRange p d) h = statement_of ns n kw.AnnotationPropertyRange refl (canon_iri p ∷ canon_iri d ∷ []) (next (canon_iri p) (name p h.0) (canon_iri d ∷ []) (name d h.1))

pub noted : (a : Noted) → IsSpellable a → Closed (canon a) (λ words. SpellsNoted false words a)
unfolding canon
noted a h = statement a.notes h.0 a.«axiom» h.1
