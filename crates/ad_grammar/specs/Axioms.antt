-- The axioms, as tokens spell them: keyword, annotations, arguments.
use Rattle.std.specs.Prelude.{Bool}
use Rattle.ad_write.specs.Keywords as kw
use Rattle.ad_tree.specs.declared.axioms.Axiom.{Axiom}
use Rattle.ad_tree.specs.declared.axioms.Axiom.TheVariants as axioms
use Rattle.ad_tree.specs.declared.axioms.Noted.{Noted}
use Rattle.ad_grammar.specs.Shapes.{Text, Then, Group, Compound, Many0, Many1}
use Rattle.ad_grammar.specs.Names.{Words, IsName, SpellsProperty, SpellsIndividual, SpellsLiteral, SpellsSubject, SpellsValue, SpellsEntity}
use Rattle.ad_grammar.specs.Phrases.{SpellsRange, SpellsClass, SpellsAnnotation}

-- an axiom whose annotations are spelled so
abbrev pub SpellsAxiom : Bool → Words → (Text → Type 0) → Axiom → Text → Type 0
SpellsAxiom w words notes (axioms.SubClassOf sub super) ts = Compound kw.SubClassOf (Then notes (Then (SpellsClass w words sub) (SpellsClass w words super))) ts
SpellsAxiom w words notes (axioms.EquivalentClasses classes) ts = Compound kw.EquivalentClasses (Then notes (Many1 (SpellsClass w words) classes)) ts
SpellsAxiom w words notes (axioms.DisjointClasses classes) ts = Compound kw.DisjointClasses (Then notes (Many1 (SpellsClass w words) classes)) ts
SpellsAxiom w words notes (axioms.DisjointUnion class parts) ts = Compound kw.DisjointUnion (Then notes (Then (IsName words class) (Many1 (SpellsClass w words) parts))) ts
SpellsAxiom w words notes (axioms.SubObjectPropertyOf sub super) ts = Compound kw.SubObjectPropertyOf (Then notes (Then (SpellsProperty words sub) (SpellsProperty words super))) ts
SpellsAxiom w words notes (axioms.SubObjectPropertyChainOf chain super) ts = Compound kw.SubObjectPropertyOf (Then notes (Then (Compound kw.ObjectPropertyChain (Many1 (SpellsProperty words) chain)) (SpellsProperty words super))) ts
SpellsAxiom w words notes (axioms.EquivalentObjectProperties properties) ts = Compound kw.EquivalentObjectProperties (Then notes (Many1 (SpellsProperty words) properties)) ts
SpellsAxiom w words notes (axioms.DisjointObjectProperties properties) ts = Compound kw.DisjointObjectProperties (Then notes (Many1 (SpellsProperty words) properties)) ts
SpellsAxiom w words notes (axioms.InverseObjectProperties first second) ts = Compound kw.InverseObjectProperties (Then notes (Then (SpellsProperty words first) (SpellsProperty words second))) ts
SpellsAxiom w words notes (axioms.ObjectPropertyDomain property class) ts = Compound kw.ObjectPropertyDomain (Then notes (Then (SpellsProperty words property) (SpellsClass w words class))) ts
SpellsAxiom w words notes (axioms.ObjectPropertyRange property class) ts = Compound kw.ObjectPropertyRange (Then notes (Then (SpellsProperty words property) (SpellsClass w words class))) ts
SpellsAxiom w words notes (axioms.FunctionalObjectProperty property) ts = Compound kw.FunctionalObjectProperty (Then notes (SpellsProperty words property)) ts
SpellsAxiom w words notes (axioms.InverseFunctionalObjectProperty property) ts = Compound kw.InverseFunctionalObjectProperty (Then notes (SpellsProperty words property)) ts
SpellsAxiom w words notes (axioms.ReflexiveObjectProperty property) ts = Compound kw.ReflexiveObjectProperty (Then notes (SpellsProperty words property)) ts
SpellsAxiom w words notes (axioms.IrreflexiveObjectProperty property) ts = Compound kw.IrreflexiveObjectProperty (Then notes (SpellsProperty words property)) ts
SpellsAxiom w words notes (axioms.SymmetricObjectProperty property) ts = Compound kw.SymmetricObjectProperty (Then notes (SpellsProperty words property)) ts
SpellsAxiom w words notes (axioms.AsymmetricObjectProperty property) ts = Compound kw.AsymmetricObjectProperty (Then notes (SpellsProperty words property)) ts
SpellsAxiom w words notes (axioms.TransitiveObjectProperty property) ts = Compound kw.TransitiveObjectProperty (Then notes (SpellsProperty words property)) ts
SpellsAxiom w words notes (axioms.SubDataPropertyOf sub super) ts = Compound kw.SubDataPropertyOf (Then notes (Then (IsName words sub) (IsName words super))) ts
SpellsAxiom w words notes (axioms.EquivalentDataProperties properties) ts = Compound kw.EquivalentDataProperties (Then notes (Many1 (IsName words) properties)) ts
SpellsAxiom w words notes (axioms.DisjointDataProperties properties) ts = Compound kw.DisjointDataProperties (Then notes (Many1 (IsName words) properties)) ts
SpellsAxiom w words notes (axioms.DataPropertyDomain property class) ts = Compound kw.DataPropertyDomain (Then notes (Then (IsName words property) (SpellsClass w words class))) ts
SpellsAxiom w words notes (axioms.DataPropertyRange property range) ts = Compound kw.DataPropertyRange (Then notes (Then (IsName words property) (SpellsRange words range))) ts
SpellsAxiom w words notes (axioms.FunctionalDataProperty property) ts = Compound kw.FunctionalDataProperty (Then notes (IsName words property)) ts
SpellsAxiom w words notes (axioms.DatatypeDefinition datatype range) ts = Compound kw.DatatypeDefinition (Then notes (Then (IsName words datatype) (SpellsRange words range))) ts
SpellsAxiom w words notes (axioms.HasKey class objects values) ts = Compound kw.HasKey (Then notes (Then (SpellsClass w words class) (Then (Group (Many0 (SpellsProperty words) objects)) (Group (Many0 (IsName words) values))))) ts
SpellsAxiom w words notes (axioms.SameIndividual individuals) ts = Compound kw.SameIndividual (Then notes (Many1 (SpellsIndividual words) individuals)) ts
SpellsAxiom w words notes (axioms.DifferentIndividuals individuals) ts = Compound kw.DifferentIndividuals (Then notes (Many1 (SpellsIndividual words) individuals)) ts
SpellsAxiom w words notes (axioms.ClassAssertion class individual) ts = Compound kw.ClassAssertion (Then notes (Then (SpellsClass w words class) (SpellsIndividual words individual))) ts
SpellsAxiom w words notes (axioms.ObjectPropertyAssertion property source target) ts = Compound kw.ObjectPropertyAssertion (Then notes (Then (SpellsProperty words property) (Then (SpellsIndividual words source) (SpellsIndividual words target)))) ts
SpellsAxiom w words notes (axioms.NegativeObjectPropertyAssertion property source target) ts = Compound kw.NegativeObjectPropertyAssertion (Then notes (Then (SpellsProperty words property) (Then (SpellsIndividual words source) (SpellsIndividual words target)))) ts
SpellsAxiom w words notes (axioms.DataPropertyAssertion property source target) ts = Compound kw.DataPropertyAssertion (Then notes (Then (IsName words property) (Then (SpellsIndividual words source) (SpellsLiteral words target)))) ts
SpellsAxiom w words notes (axioms.NegativeDataPropertyAssertion property source target) ts = Compound kw.NegativeDataPropertyAssertion (Then notes (Then (IsName words property) (Then (SpellsIndividual words source) (SpellsLiteral words target)))) ts
SpellsAxiom w words notes (axioms.Declaration declared) ts = Compound kw.Declaration (Then notes (SpellsEntity words declared)) ts
SpellsAxiom w words notes (axioms.AnnotationAssertion property subject value) ts = Compound kw.AnnotationAssertion (Then notes (Then (IsName words property) (Then (SpellsSubject words subject) (SpellsValue words value)))) ts
SpellsAxiom w words notes (axioms.SubAnnotationPropertyOf sub super) ts = Compound kw.SubAnnotationPropertyOf (Then notes (Then (IsName words sub) (IsName words super))) ts
SpellsAxiom w words notes (axioms.AnnotationPropertyDomain property domain) ts = Compound kw.AnnotationPropertyDomain (Then notes (Then (IsName words property) (IsName words domain))) ts
SpellsAxiom w words notes (axioms.AnnotationPropertyRange property range) ts = Compound kw.AnnotationPropertyRange (Then notes (Then (IsName words property) (IsName words range))) ts

-- an axiom with its annotations
abbrev pub SpellsNoted : Bool → Words → Noted → Text → Type 0
SpellsNoted w words noted ts = SpellsAxiom w words (Many0 (SpellsAnnotation words) noted.notes) noted.axiom ts
