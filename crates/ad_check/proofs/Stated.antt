-- Each axiom is taken off.
use Rattle.std.proofs.Common.{◌≡◌, ℕ, Bool, true, false, List, [], ◌∷◌, Some, refl, sym}
use Rattle.std.proofs.lemmas.Bool.{true≢false}
use Rattle.ad_lex.specs.Lexemes as says
use Rattle.ad_write.specs.Keywords as kw
use Rattle.ad_tree.specs.Logical.{is_logical}
use Rattle.ad_tree.specs.declared.classes.Class.{Class}
use Rattle.ad_tree.specs.declared.ranges.Range.{Range}
use Rattle.ad_tree.specs.declared.names.ObjProp.{ObjProp}
use Rattle.ad_tree.specs.declared.names.Individual.{Individual}
use Rattle.ad_tree.specs.declared.literals.Literal.{Literal}
use Rattle.ad_entity.specs.declared.entities.Entity.{Entity}
use Rattle.ad_tree.specs.declared.notes.Subject.{Subject}
use Rattle.ad_tree.specs.declared.notes.Value.{Value}
use Rattle.ad_tree.specs.declared.notes.Annotation.{Annotation}
use Rattle.ad_tree.specs.declared.axioms.Axiom.{Axiom}
use Rattle.ad_tree.specs.declared.axioms.Axiom.TheVariants as axioms
use Rattle.ad_grammar.specs.Shapes.{Text, Then, Group, Compound, Many0, Many1}
use Rattle.ad_grammar.specs.Names.{Words, IsName, SpellsProperty, SpellsIndividual, SpellsLiteral, SpellsSubject, SpellsValue, SpellsEntity}
use Rattle.ad_grammar.specs.Phrases.{SpellsRange, SpellsClass, SpellsAnnotation}
use Rattle.ad_grammar.specs.Axioms.{SpellsAxiom}
use Rattle.ad_check.specs.declared.items.Symbol.{Symbol}
use Rattle.ad_check.specs.declared.items.Symbol.TheVariants as it
use Rattle.ad_check.specs.declared.items.Nonterminal.{Nonterminal}
use Rattle.ad_check.specs.declared.items.Nonterminal.TheVariants as kind
use Rattle.ad_check.specs.Machine.{row, lookup, logical_rows, named, quoted}
use Rattle.ad_check.proofs.Taken.{Takes, compound, c_last, c_one, c_some, c_notes}
use Rattle.ad_check.proofs.Phrased as p
use Rattle.ad_check.proofs.Phrased.{all_each, c_group, c_group_last}

module _ (w : Bool) (words : Words) where
  takes_name : (k : Nonterminal) → named k ≡ Some [] → (name : List ℕ) (ts : Text) → IsName words name ts → Takes w k ts
  takes_name = p.takes_name w words

  takes_literal : (k : Nonterminal) → quoted k ≡ Some (it.Tail ∷ []) → (x : Literal) (ts : Text) → SpellsLiteral words x ts → Takes w k ts
  takes_literal = p.takes_literal w words

  takes_individual : (x : Individual) (ts : Text) → SpellsIndividual words x ts → Takes w kind.Individual ts
  takes_individual = p.takes_individual w words

  takes_subject : (x : Subject) (ts : Text) → SpellsSubject words x ts → Takes w kind.Subject ts
  takes_subject = p.takes_subject w words

  takes_value : (x : Value) (ts : Text) → SpellsValue words x ts → Takes w kind.Value ts
  takes_value = p.takes_value w words

  takes_property : (x : ObjProp) (ts : Text) → SpellsProperty words x ts → Takes w kind.Property ts
  takes_property = p.takes_property w words

  takes_link : (x : ObjProp) (ts : Text) → SpellsProperty words x ts → Takes w kind.Link ts
  takes_link = p.takes_link w words

  takes_chain : (xs : List ObjProp) (ts : Text) → Compound kw.ObjectPropertyChain (Many1 (SpellsProperty words) xs) ts → Takes w kind.Link ts
  takes_chain = p.takes_chain w words

  takes_entity : (e : Entity) (ts : Text) → SpellsEntity words e ts → Takes w kind.Entity ts
  takes_entity = p.takes_entity w words

  takes_range : (x : Range) (ts : Text) → SpellsRange words x ts → Takes w kind.Range ts
  takes_range = p.takes_range w words

  takes_class : (x : Class) (ts : Text) → SpellsClass w words x ts → Takes w kind.Class ts
  takes_class = p.takes_class w words

  takes_note : (x : Annotation) (ts : Text) → SpellsAnnotation words x ts → Takes w kind.Note ts
  takes_note = p.takes_note w words

  module _ (notes : List Annotation) (k : Nonterminal) (rows : (word : List ℕ) (r : List Symbol) → lookup logical_rows word ≡ Some r → row w k (says.Plain word) ≡ Some r) where
    pub takes_logical : (x : Axiom) → is_logical x ≡ true → (ts : Text) → SpellsAxiom w words (Many0 (SpellsAnnotation words) notes) x ts → Takes w k ts
    takes_logical (axioms.SubClassOf sub super) logical ts h = compound w k kw.SubClassOf (it.Star kind.Note ∷ it.One kind.Class ∷ it.One kind.Class ∷ it.Right ∷ []) (Then (Many0 (SpellsAnnotation words) notes) (Then (SpellsClass w words sub) (SpellsClass w words super))) (rows kw.SubClassOf _ refl) (c_notes w (SpellsAnnotation words) notes (it.One kind.Class ∷ it.One kind.Class ∷ it.Right ∷ []) (Then (SpellsClass w words sub) (SpellsClass w words super)) refl (λ items. refl) (all_each _ takes_note notes) (c_one w kind.Class (it.One kind.Class ∷ it.Right ∷ []) (SpellsClass w words sub) (SpellsClass w words super) refl (takes_class sub) (c_last w kind.Class (SpellsClass w words super) (takes_class super)))) ts h
    takes_logical (axioms.EquivalentClasses classes) logical ts h = compound w k kw.EquivalentClasses (it.Star kind.Note ∷ it.One kind.Class ∷ it.Until kind.Class ∷ []) (Then (Many0 (SpellsAnnotation words) notes) (Many1 (SpellsClass w words) classes)) (rows kw.EquivalentClasses _ refl) (c_notes w (SpellsAnnotation words) notes (it.One kind.Class ∷ it.Until kind.Class ∷ []) (Many1 (SpellsClass w words) classes) refl (λ items. refl) (all_each _ takes_note notes) (c_some w kind.Class (SpellsClass w words) classes (all_each _ takes_class classes))) ts h
    takes_logical (axioms.DisjointClasses classes) logical ts h = compound w k kw.DisjointClasses (it.Star kind.Note ∷ it.One kind.Class ∷ it.Until kind.Class ∷ []) (Then (Many0 (SpellsAnnotation words) notes) (Many1 (SpellsClass w words) classes)) (rows kw.DisjointClasses _ refl) (c_notes w (SpellsAnnotation words) notes (it.One kind.Class ∷ it.Until kind.Class ∷ []) (Many1 (SpellsClass w words) classes) refl (λ items. refl) (all_each _ takes_note notes) (c_some w kind.Class (SpellsClass w words) classes (all_each _ takes_class classes))) ts h
    takes_logical (axioms.DisjointUnion class parts) logical ts h = compound w k kw.DisjointUnion (it.Star kind.Note ∷ it.One kind.Name ∷ it.One kind.Class ∷ it.Until kind.Class ∷ []) (Then (Many0 (SpellsAnnotation words) notes) (Then (IsName words class) (Many1 (SpellsClass w words) parts))) (rows kw.DisjointUnion _ refl) (c_notes w (SpellsAnnotation words) notes (it.One kind.Name ∷ it.One kind.Class ∷ it.Until kind.Class ∷ []) (Then (IsName words class) (Many1 (SpellsClass w words) parts)) refl (λ items. refl) (all_each _ takes_note notes) (c_one w kind.Name (it.One kind.Class ∷ it.Until kind.Class ∷ []) (IsName words class) (Many1 (SpellsClass w words) parts) refl (takes_name kind.Name refl class) (c_some w kind.Class (SpellsClass w words) parts (all_each _ takes_class parts)))) ts h
    takes_logical (axioms.SubObjectPropertyOf sub super) logical ts h = compound w k kw.SubObjectPropertyOf (it.Star kind.Note ∷ it.One kind.Link ∷ it.One kind.Property ∷ it.Right ∷ []) (Then (Many0 (SpellsAnnotation words) notes) (Then (SpellsProperty words sub) (SpellsProperty words super))) (rows kw.SubObjectPropertyOf _ refl) (c_notes w (SpellsAnnotation words) notes (it.One kind.Link ∷ it.One kind.Property ∷ it.Right ∷ []) (Then (SpellsProperty words sub) (SpellsProperty words super)) refl (λ items. refl) (all_each _ takes_note notes) (c_one w kind.Link (it.One kind.Property ∷ it.Right ∷ []) (SpellsProperty words sub) (SpellsProperty words super) refl (takes_link sub) (c_last w kind.Property (SpellsProperty words super) (takes_property super)))) ts h
    takes_logical (axioms.SubObjectPropertyChainOf chain super) logical ts h = compound w k kw.SubObjectPropertyOf (it.Star kind.Note ∷ it.One kind.Link ∷ it.One kind.Property ∷ it.Right ∷ []) (Then (Many0 (SpellsAnnotation words) notes) (Then (Compound kw.ObjectPropertyChain (Many1 (SpellsProperty words) chain)) (SpellsProperty words super))) (rows kw.SubObjectPropertyOf _ refl) (c_notes w (SpellsAnnotation words) notes (it.One kind.Link ∷ it.One kind.Property ∷ it.Right ∷ []) (Then (Compound kw.ObjectPropertyChain (Many1 (SpellsProperty words) chain)) (SpellsProperty words super)) refl (λ items. refl) (all_each _ takes_note notes) (c_one w kind.Link (it.One kind.Property ∷ it.Right ∷ []) (Compound kw.ObjectPropertyChain (Many1 (SpellsProperty words) chain)) (SpellsProperty words super) refl (takes_chain chain) (c_last w kind.Property (SpellsProperty words super) (takes_property super)))) ts h
    takes_logical (axioms.EquivalentObjectProperties properties) logical ts h = compound w k kw.EquivalentObjectProperties (it.Star kind.Note ∷ it.One kind.Property ∷ it.Until kind.Property ∷ []) (Then (Many0 (SpellsAnnotation words) notes) (Many1 (SpellsProperty words) properties)) (rows kw.EquivalentObjectProperties _ refl) (c_notes w (SpellsAnnotation words) notes (it.One kind.Property ∷ it.Until kind.Property ∷ []) (Many1 (SpellsProperty words) properties) refl (λ items. refl) (all_each _ takes_note notes) (c_some w kind.Property (SpellsProperty words) properties (all_each _ takes_property properties))) ts h
    takes_logical (axioms.DisjointObjectProperties properties) logical ts h = compound w k kw.DisjointObjectProperties (it.Star kind.Note ∷ it.One kind.Property ∷ it.Until kind.Property ∷ []) (Then (Many0 (SpellsAnnotation words) notes) (Many1 (SpellsProperty words) properties)) (rows kw.DisjointObjectProperties _ refl) (c_notes w (SpellsAnnotation words) notes (it.One kind.Property ∷ it.Until kind.Property ∷ []) (Many1 (SpellsProperty words) properties) refl (λ items. refl) (all_each _ takes_note notes) (c_some w kind.Property (SpellsProperty words) properties (all_each _ takes_property properties))) ts h
    takes_logical (axioms.InverseObjectProperties first second) logical ts h = compound w k kw.InverseObjectProperties (it.Star kind.Note ∷ it.One kind.Property ∷ it.One kind.Property ∷ it.Right ∷ []) (Then (Many0 (SpellsAnnotation words) notes) (Then (SpellsProperty words first) (SpellsProperty words second))) (rows kw.InverseObjectProperties _ refl) (c_notes w (SpellsAnnotation words) notes (it.One kind.Property ∷ it.One kind.Property ∷ it.Right ∷ []) (Then (SpellsProperty words first) (SpellsProperty words second)) refl (λ items. refl) (all_each _ takes_note notes) (c_one w kind.Property (it.One kind.Property ∷ it.Right ∷ []) (SpellsProperty words first) (SpellsProperty words second) refl (takes_property first) (c_last w kind.Property (SpellsProperty words second) (takes_property second)))) ts h
    takes_logical (axioms.ObjectPropertyDomain property class) logical ts h = compound w k kw.ObjectPropertyDomain (it.Star kind.Note ∷ it.One kind.Property ∷ it.One kind.Class ∷ it.Right ∷ []) (Then (Many0 (SpellsAnnotation words) notes) (Then (SpellsProperty words property) (SpellsClass w words class))) (rows kw.ObjectPropertyDomain _ refl) (c_notes w (SpellsAnnotation words) notes (it.One kind.Property ∷ it.One kind.Class ∷ it.Right ∷ []) (Then (SpellsProperty words property) (SpellsClass w words class)) refl (λ items. refl) (all_each _ takes_note notes) (c_one w kind.Property (it.One kind.Class ∷ it.Right ∷ []) (SpellsProperty words property) (SpellsClass w words class) refl (takes_property property) (c_last w kind.Class (SpellsClass w words class) (takes_class class)))) ts h
    takes_logical (axioms.ObjectPropertyRange property class) logical ts h = compound w k kw.ObjectPropertyRange (it.Star kind.Note ∷ it.One kind.Property ∷ it.One kind.Class ∷ it.Right ∷ []) (Then (Many0 (SpellsAnnotation words) notes) (Then (SpellsProperty words property) (SpellsClass w words class))) (rows kw.ObjectPropertyRange _ refl) (c_notes w (SpellsAnnotation words) notes (it.One kind.Property ∷ it.One kind.Class ∷ it.Right ∷ []) (Then (SpellsProperty words property) (SpellsClass w words class)) refl (λ items. refl) (all_each _ takes_note notes) (c_one w kind.Property (it.One kind.Class ∷ it.Right ∷ []) (SpellsProperty words property) (SpellsClass w words class) refl (takes_property property) (c_last w kind.Class (SpellsClass w words class) (takes_class class)))) ts h
    takes_logical (axioms.FunctionalObjectProperty property) logical ts h = compound w k kw.FunctionalObjectProperty (it.Star kind.Note ∷ it.One kind.Property ∷ it.Right ∷ []) (Then (Many0 (SpellsAnnotation words) notes) (SpellsProperty words property)) (rows kw.FunctionalObjectProperty _ refl) (c_notes w (SpellsAnnotation words) notes (it.One kind.Property ∷ it.Right ∷ []) (SpellsProperty words property) refl (λ items. refl) (all_each _ takes_note notes) (c_last w kind.Property (SpellsProperty words property) (takes_property property))) ts h
    takes_logical (axioms.InverseFunctionalObjectProperty property) logical ts h = compound w k kw.InverseFunctionalObjectProperty (it.Star kind.Note ∷ it.One kind.Property ∷ it.Right ∷ []) (Then (Many0 (SpellsAnnotation words) notes) (SpellsProperty words property)) (rows kw.InverseFunctionalObjectProperty _ refl) (c_notes w (SpellsAnnotation words) notes (it.One kind.Property ∷ it.Right ∷ []) (SpellsProperty words property) refl (λ items. refl) (all_each _ takes_note notes) (c_last w kind.Property (SpellsProperty words property) (takes_property property))) ts h
    takes_logical (axioms.ReflexiveObjectProperty property) logical ts h = compound w k kw.ReflexiveObjectProperty (it.Star kind.Note ∷ it.One kind.Property ∷ it.Right ∷ []) (Then (Many0 (SpellsAnnotation words) notes) (SpellsProperty words property)) (rows kw.ReflexiveObjectProperty _ refl) (c_notes w (SpellsAnnotation words) notes (it.One kind.Property ∷ it.Right ∷ []) (SpellsProperty words property) refl (λ items. refl) (all_each _ takes_note notes) (c_last w kind.Property (SpellsProperty words property) (takes_property property))) ts h
    takes_logical (axioms.IrreflexiveObjectProperty property) logical ts h = compound w k kw.IrreflexiveObjectProperty (it.Star kind.Note ∷ it.One kind.Property ∷ it.Right ∷ []) (Then (Many0 (SpellsAnnotation words) notes) (SpellsProperty words property)) (rows kw.IrreflexiveObjectProperty _ refl) (c_notes w (SpellsAnnotation words) notes (it.One kind.Property ∷ it.Right ∷ []) (SpellsProperty words property) refl (λ items. refl) (all_each _ takes_note notes) (c_last w kind.Property (SpellsProperty words property) (takes_property property))) ts h
    takes_logical (axioms.SymmetricObjectProperty property) logical ts h = compound w k kw.SymmetricObjectProperty (it.Star kind.Note ∷ it.One kind.Property ∷ it.Right ∷ []) (Then (Many0 (SpellsAnnotation words) notes) (SpellsProperty words property)) (rows kw.SymmetricObjectProperty _ refl) (c_notes w (SpellsAnnotation words) notes (it.One kind.Property ∷ it.Right ∷ []) (SpellsProperty words property) refl (λ items. refl) (all_each _ takes_note notes) (c_last w kind.Property (SpellsProperty words property) (takes_property property))) ts h
    takes_logical (axioms.AsymmetricObjectProperty property) logical ts h = compound w k kw.AsymmetricObjectProperty (it.Star kind.Note ∷ it.One kind.Property ∷ it.Right ∷ []) (Then (Many0 (SpellsAnnotation words) notes) (SpellsProperty words property)) (rows kw.AsymmetricObjectProperty _ refl) (c_notes w (SpellsAnnotation words) notes (it.One kind.Property ∷ it.Right ∷ []) (SpellsProperty words property) refl (λ items. refl) (all_each _ takes_note notes) (c_last w kind.Property (SpellsProperty words property) (takes_property property))) ts h
    takes_logical (axioms.TransitiveObjectProperty property) logical ts h = compound w k kw.TransitiveObjectProperty (it.Star kind.Note ∷ it.One kind.Property ∷ it.Right ∷ []) (Then (Many0 (SpellsAnnotation words) notes) (SpellsProperty words property)) (rows kw.TransitiveObjectProperty _ refl) (c_notes w (SpellsAnnotation words) notes (it.One kind.Property ∷ it.Right ∷ []) (SpellsProperty words property) refl (λ items. refl) (all_each _ takes_note notes) (c_last w kind.Property (SpellsProperty words property) (takes_property property))) ts h
    takes_logical (axioms.SubDataPropertyOf sub super) logical ts h = compound w k kw.SubDataPropertyOf (it.Star kind.Note ∷ it.One kind.Name ∷ it.One kind.Name ∷ it.Right ∷ []) (Then (Many0 (SpellsAnnotation words) notes) (Then (IsName words sub) (IsName words super))) (rows kw.SubDataPropertyOf _ refl) (c_notes w (SpellsAnnotation words) notes (it.One kind.Name ∷ it.One kind.Name ∷ it.Right ∷ []) (Then (IsName words sub) (IsName words super)) refl (λ items. refl) (all_each _ takes_note notes) (c_one w kind.Name (it.One kind.Name ∷ it.Right ∷ []) (IsName words sub) (IsName words super) refl (takes_name kind.Name refl sub) (c_last w kind.Name (IsName words super) (takes_name kind.Name refl super)))) ts h
    takes_logical (axioms.EquivalentDataProperties properties) logical ts h = compound w k kw.EquivalentDataProperties (it.Star kind.Note ∷ it.One kind.Name ∷ it.Until kind.Name ∷ []) (Then (Many0 (SpellsAnnotation words) notes) (Many1 (IsName words) properties)) (rows kw.EquivalentDataProperties _ refl) (c_notes w (SpellsAnnotation words) notes (it.One kind.Name ∷ it.Until kind.Name ∷ []) (Many1 (IsName words) properties) refl (λ items. refl) (all_each _ takes_note notes) (c_some w kind.Name (IsName words) properties (all_each _ (takes_name kind.Name refl) properties))) ts h
    takes_logical (axioms.DisjointDataProperties properties) logical ts h = compound w k kw.DisjointDataProperties (it.Star kind.Note ∷ it.One kind.Name ∷ it.Until kind.Name ∷ []) (Then (Many0 (SpellsAnnotation words) notes) (Many1 (IsName words) properties)) (rows kw.DisjointDataProperties _ refl) (c_notes w (SpellsAnnotation words) notes (it.One kind.Name ∷ it.Until kind.Name ∷ []) (Many1 (IsName words) properties) refl (λ items. refl) (all_each _ takes_note notes) (c_some w kind.Name (IsName words) properties (all_each _ (takes_name kind.Name refl) properties))) ts h
    takes_logical (axioms.DataPropertyDomain property class) logical ts h = compound w k kw.DataPropertyDomain (it.Star kind.Note ∷ it.One kind.Name ∷ it.One kind.Class ∷ it.Right ∷ []) (Then (Many0 (SpellsAnnotation words) notes) (Then (IsName words property) (SpellsClass w words class))) (rows kw.DataPropertyDomain _ refl) (c_notes w (SpellsAnnotation words) notes (it.One kind.Name ∷ it.One kind.Class ∷ it.Right ∷ []) (Then (IsName words property) (SpellsClass w words class)) refl (λ items. refl) (all_each _ takes_note notes) (c_one w kind.Name (it.One kind.Class ∷ it.Right ∷ []) (IsName words property) (SpellsClass w words class) refl (takes_name kind.Name refl property) (c_last w kind.Class (SpellsClass w words class) (takes_class class)))) ts h
    takes_logical (axioms.DataPropertyRange property range) logical ts h = compound w k kw.DataPropertyRange (it.Star kind.Note ∷ it.One kind.Name ∷ it.One kind.Range ∷ it.Right ∷ []) (Then (Many0 (SpellsAnnotation words) notes) (Then (IsName words property) (SpellsRange words range))) (rows kw.DataPropertyRange _ refl) (c_notes w (SpellsAnnotation words) notes (it.One kind.Name ∷ it.One kind.Range ∷ it.Right ∷ []) (Then (IsName words property) (SpellsRange words range)) refl (λ items. refl) (all_each _ takes_note notes) (c_one w kind.Name (it.One kind.Range ∷ it.Right ∷ []) (IsName words property) (SpellsRange words range) refl (takes_name kind.Name refl property) (c_last w kind.Range (SpellsRange words range) (takes_range range)))) ts h
    takes_logical (axioms.FunctionalDataProperty property) logical ts h = compound w k kw.FunctionalDataProperty (it.Star kind.Note ∷ it.One kind.Name ∷ it.Right ∷ []) (Then (Many0 (SpellsAnnotation words) notes) (IsName words property)) (rows kw.FunctionalDataProperty _ refl) (c_notes w (SpellsAnnotation words) notes (it.One kind.Name ∷ it.Right ∷ []) (IsName words property) refl (λ items. refl) (all_each _ takes_note notes) (c_last w kind.Name (IsName words property) (takes_name kind.Name refl property))) ts h
    takes_logical (axioms.DatatypeDefinition datatype range) logical ts h = compound w k kw.DatatypeDefinition (it.Star kind.Note ∷ it.One kind.Name ∷ it.One kind.Range ∷ it.Right ∷ []) (Then (Many0 (SpellsAnnotation words) notes) (Then (IsName words datatype) (SpellsRange words range))) (rows kw.DatatypeDefinition _ refl) (c_notes w (SpellsAnnotation words) notes (it.One kind.Name ∷ it.One kind.Range ∷ it.Right ∷ []) (Then (IsName words datatype) (SpellsRange words range)) refl (λ items. refl) (all_each _ takes_note notes) (c_one w kind.Name (it.One kind.Range ∷ it.Right ∷ []) (IsName words datatype) (SpellsRange words range) refl (takes_name kind.Name refl datatype) (c_last w kind.Range (SpellsRange words range) (takes_range range)))) ts h
    takes_logical (axioms.HasKey class objects values) logical ts h = compound w k kw.HasKey (it.Star kind.Note ∷ it.One kind.Class ∷ it.Left ∷ it.Until kind.Property ∷ it.Left ∷ it.Until kind.Name ∷ it.Right ∷ []) (Then (Many0 (SpellsAnnotation words) notes) (Then (SpellsClass w words class) (Then (Group (Many0 (SpellsProperty words) objects)) (Group (Many0 (IsName words) values))))) (rows kw.HasKey _ refl) (c_notes w (SpellsAnnotation words) notes (it.One kind.Class ∷ it.Left ∷ it.Until kind.Property ∷ it.Left ∷ it.Until kind.Name ∷ it.Right ∷ []) (Then (SpellsClass w words class) (Then (Group (Many0 (SpellsProperty words) objects)) (Group (Many0 (IsName words) values)))) refl (λ items. refl) (all_each _ takes_note notes) (c_one w kind.Class (it.Left ∷ it.Until kind.Property ∷ it.Left ∷ it.Until kind.Name ∷ it.Right ∷ []) (SpellsClass w words class) (Then (Group (Many0 (SpellsProperty words) objects)) (Group (Many0 (IsName words) values))) refl (takes_class class) (c_group w kind.Property (it.Left ∷ it.Until kind.Name ∷ it.Right ∷ []) (SpellsProperty words) objects (Group (Many0 (IsName words) values)) (all_each _ takes_property objects) (c_group_last w kind.Name (IsName words) values (all_each _ (takes_name kind.Name refl) values))))) ts h
    takes_logical (axioms.SameIndividual individuals) logical ts h = compound w k kw.SameIndividual (it.Star kind.Note ∷ it.One kind.Individual ∷ it.Until kind.Individual ∷ []) (Then (Many0 (SpellsAnnotation words) notes) (Many1 (SpellsIndividual words) individuals)) (rows kw.SameIndividual _ refl) (c_notes w (SpellsAnnotation words) notes (it.One kind.Individual ∷ it.Until kind.Individual ∷ []) (Many1 (SpellsIndividual words) individuals) refl (λ items. refl) (all_each _ takes_note notes) (c_some w kind.Individual (SpellsIndividual words) individuals (all_each _ takes_individual individuals))) ts h
    takes_logical (axioms.DifferentIndividuals individuals) logical ts h = compound w k kw.DifferentIndividuals (it.Star kind.Note ∷ it.One kind.Individual ∷ it.Until kind.Individual ∷ []) (Then (Many0 (SpellsAnnotation words) notes) (Many1 (SpellsIndividual words) individuals)) (rows kw.DifferentIndividuals _ refl) (c_notes w (SpellsAnnotation words) notes (it.One kind.Individual ∷ it.Until kind.Individual ∷ []) (Many1 (SpellsIndividual words) individuals) refl (λ items. refl) (all_each _ takes_note notes) (c_some w kind.Individual (SpellsIndividual words) individuals (all_each _ takes_individual individuals))) ts h
    takes_logical (axioms.ClassAssertion class individual) logical ts h = compound w k kw.ClassAssertion (it.Star kind.Note ∷ it.One kind.Class ∷ it.One kind.Individual ∷ it.Right ∷ []) (Then (Many0 (SpellsAnnotation words) notes) (Then (SpellsClass w words class) (SpellsIndividual words individual))) (rows kw.ClassAssertion _ refl) (c_notes w (SpellsAnnotation words) notes (it.One kind.Class ∷ it.One kind.Individual ∷ it.Right ∷ []) (Then (SpellsClass w words class) (SpellsIndividual words individual)) refl (λ items. refl) (all_each _ takes_note notes) (c_one w kind.Class (it.One kind.Individual ∷ it.Right ∷ []) (SpellsClass w words class) (SpellsIndividual words individual) refl (takes_class class) (c_last w kind.Individual (SpellsIndividual words individual) (takes_individual individual)))) ts h
    takes_logical (axioms.ObjectPropertyAssertion property source target) logical ts h = compound w k kw.ObjectPropertyAssertion (it.Star kind.Note ∷ it.One kind.Property ∷ it.One kind.Individual ∷ it.One kind.Individual ∷ it.Right ∷ []) (Then (Many0 (SpellsAnnotation words) notes) (Then (SpellsProperty words property) (Then (SpellsIndividual words source) (SpellsIndividual words target)))) (rows kw.ObjectPropertyAssertion _ refl) (c_notes w (SpellsAnnotation words) notes (it.One kind.Property ∷ it.One kind.Individual ∷ it.One kind.Individual ∷ it.Right ∷ []) (Then (SpellsProperty words property) (Then (SpellsIndividual words source) (SpellsIndividual words target))) refl (λ items. refl) (all_each _ takes_note notes) (c_one w kind.Property (it.One kind.Individual ∷ it.One kind.Individual ∷ it.Right ∷ []) (SpellsProperty words property) (Then (SpellsIndividual words source) (SpellsIndividual words target)) refl (takes_property property) (c_one w kind.Individual (it.One kind.Individual ∷ it.Right ∷ []) (SpellsIndividual words source) (SpellsIndividual words target) refl (takes_individual source) (c_last w kind.Individual (SpellsIndividual words target) (takes_individual target))))) ts h
    takes_logical (axioms.NegativeObjectPropertyAssertion property source target) logical ts h = compound w k kw.NegativeObjectPropertyAssertion (it.Star kind.Note ∷ it.One kind.Property ∷ it.One kind.Individual ∷ it.One kind.Individual ∷ it.Right ∷ []) (Then (Many0 (SpellsAnnotation words) notes) (Then (SpellsProperty words property) (Then (SpellsIndividual words source) (SpellsIndividual words target)))) (rows kw.NegativeObjectPropertyAssertion _ refl) (c_notes w (SpellsAnnotation words) notes (it.One kind.Property ∷ it.One kind.Individual ∷ it.One kind.Individual ∷ it.Right ∷ []) (Then (SpellsProperty words property) (Then (SpellsIndividual words source) (SpellsIndividual words target))) refl (λ items. refl) (all_each _ takes_note notes) (c_one w kind.Property (it.One kind.Individual ∷ it.One kind.Individual ∷ it.Right ∷ []) (SpellsProperty words property) (Then (SpellsIndividual words source) (SpellsIndividual words target)) refl (takes_property property) (c_one w kind.Individual (it.One kind.Individual ∷ it.Right ∷ []) (SpellsIndividual words source) (SpellsIndividual words target) refl (takes_individual source) (c_last w kind.Individual (SpellsIndividual words target) (takes_individual target))))) ts h
    takes_logical (axioms.DataPropertyAssertion property source target) logical ts h = compound w k kw.DataPropertyAssertion (it.Star kind.Note ∷ it.One kind.Name ∷ it.One kind.Individual ∷ it.One kind.Literal ∷ it.Right ∷ []) (Then (Many0 (SpellsAnnotation words) notes) (Then (IsName words property) (Then (SpellsIndividual words source) (SpellsLiteral words target)))) (rows kw.DataPropertyAssertion _ refl) (c_notes w (SpellsAnnotation words) notes (it.One kind.Name ∷ it.One kind.Individual ∷ it.One kind.Literal ∷ it.Right ∷ []) (Then (IsName words property) (Then (SpellsIndividual words source) (SpellsLiteral words target))) refl (λ items. refl) (all_each _ takes_note notes) (c_one w kind.Name (it.One kind.Individual ∷ it.One kind.Literal ∷ it.Right ∷ []) (IsName words property) (Then (SpellsIndividual words source) (SpellsLiteral words target)) refl (takes_name kind.Name refl property) (c_one w kind.Individual (it.One kind.Literal ∷ it.Right ∷ []) (SpellsIndividual words source) (SpellsLiteral words target) refl (takes_individual source) (c_last w kind.Literal (SpellsLiteral words target) (takes_literal kind.Literal refl target))))) ts h
    takes_logical (axioms.NegativeDataPropertyAssertion property source target) logical ts h = compound w k kw.NegativeDataPropertyAssertion (it.Star kind.Note ∷ it.One kind.Name ∷ it.One kind.Individual ∷ it.One kind.Literal ∷ it.Right ∷ []) (Then (Many0 (SpellsAnnotation words) notes) (Then (IsName words property) (Then (SpellsIndividual words source) (SpellsLiteral words target)))) (rows kw.NegativeDataPropertyAssertion _ refl) (c_notes w (SpellsAnnotation words) notes (it.One kind.Name ∷ it.One kind.Individual ∷ it.One kind.Literal ∷ it.Right ∷ []) (Then (IsName words property) (Then (SpellsIndividual words source) (SpellsLiteral words target))) refl (λ items. refl) (all_each _ takes_note notes) (c_one w kind.Name (it.One kind.Individual ∷ it.One kind.Literal ∷ it.Right ∷ []) (IsName words property) (Then (SpellsIndividual words source) (SpellsLiteral words target)) refl (takes_name kind.Name refl property) (c_one w kind.Individual (it.One kind.Literal ∷ it.Right ∷ []) (SpellsIndividual words source) (SpellsLiteral words target) refl (takes_individual source) (c_last w kind.Literal (SpellsLiteral words target) (takes_literal kind.Literal refl target))))) ts h
    takes_logical (axioms.Declaration declared) logical ts h = absurd (true≢false (sym logical))
    takes_logical (axioms.AnnotationAssertion property subject value) logical ts h = absurd (true≢false (sym logical))
    takes_logical (axioms.SubAnnotationPropertyOf sub super) logical ts h = absurd (true≢false (sym logical))
    takes_logical (axioms.AnnotationPropertyDomain property domain) logical ts h = absurd (true≢false (sym logical))
    takes_logical (axioms.AnnotationPropertyRange property range) logical ts h = absurd (true≢false (sym logical))

  module _ (notes : List Annotation) where
    pub takes_carried : (x : Axiom) → is_logical x ≡ false → (ts : Text) → SpellsAxiom w words (Many0 (SpellsAnnotation words) notes) x ts → Takes w kind.Axiom ts
    takes_carried (axioms.Declaration declared) carried ts h = compound w kind.Axiom kw.Declaration (it.Star kind.Note ∷ it.One kind.Entity ∷ it.Right ∷ []) (Then (Many0 (SpellsAnnotation words) notes) (SpellsEntity words declared)) refl (c_notes w (SpellsAnnotation words) notes (it.One kind.Entity ∷ it.Right ∷ []) (SpellsEntity words declared) refl (λ items. refl) (all_each _ takes_note notes) (c_last w kind.Entity (SpellsEntity words declared) (takes_entity declared))) ts h
    takes_carried (axioms.AnnotationAssertion property subject value) carried ts h = compound w kind.Axiom kw.AnnotationAssertion (it.Star kind.Note ∷ it.One kind.Name ∷ it.One kind.Subject ∷ it.One kind.Value ∷ it.Right ∷ []) (Then (Many0 (SpellsAnnotation words) notes) (Then (IsName words property) (Then (SpellsSubject words subject) (SpellsValue words value)))) refl (c_notes w (SpellsAnnotation words) notes (it.One kind.Name ∷ it.One kind.Subject ∷ it.One kind.Value ∷ it.Right ∷ []) (Then (IsName words property) (Then (SpellsSubject words subject) (SpellsValue words value))) refl (λ items. refl) (all_each _ takes_note notes) (c_one w kind.Name (it.One kind.Subject ∷ it.One kind.Value ∷ it.Right ∷ []) (IsName words property) (Then (SpellsSubject words subject) (SpellsValue words value)) refl (takes_name kind.Name refl property) (c_one w kind.Subject (it.One kind.Value ∷ it.Right ∷ []) (SpellsSubject words subject) (SpellsValue words value) refl (takes_subject subject) (c_last w kind.Value (SpellsValue words value) (takes_value value))))) ts h
    takes_carried (axioms.SubAnnotationPropertyOf sub super) carried ts h = compound w kind.Axiom kw.SubAnnotationPropertyOf (it.Star kind.Note ∷ it.One kind.Name ∷ it.One kind.Name ∷ it.Right ∷ []) (Then (Many0 (SpellsAnnotation words) notes) (Then (IsName words sub) (IsName words super))) refl (c_notes w (SpellsAnnotation words) notes (it.One kind.Name ∷ it.One kind.Name ∷ it.Right ∷ []) (Then (IsName words sub) (IsName words super)) refl (λ items. refl) (all_each _ takes_note notes) (c_one w kind.Name (it.One kind.Name ∷ it.Right ∷ []) (IsName words sub) (IsName words super) refl (takes_name kind.Name refl sub) (c_last w kind.Name (IsName words super) (takes_name kind.Name refl super)))) ts h
    takes_carried (axioms.AnnotationPropertyDomain property domain) carried ts h = compound w kind.Axiom kw.AnnotationPropertyDomain (it.Star kind.Note ∷ it.One kind.Name ∷ it.One kind.Name ∷ it.Right ∷ []) (Then (Many0 (SpellsAnnotation words) notes) (Then (IsName words property) (IsName words domain))) refl (c_notes w (SpellsAnnotation words) notes (it.One kind.Name ∷ it.One kind.Name ∷ it.Right ∷ []) (Then (IsName words property) (IsName words domain)) refl (λ items. refl) (all_each _ takes_note notes) (c_one w kind.Name (it.One kind.Name ∷ it.Right ∷ []) (IsName words property) (IsName words domain) refl (takes_name kind.Name refl property) (c_last w kind.Name (IsName words domain) (takes_name kind.Name refl domain)))) ts h
    takes_carried (axioms.AnnotationPropertyRange property range) carried ts h = compound w kind.Axiom kw.AnnotationPropertyRange (it.Star kind.Note ∷ it.One kind.Name ∷ it.One kind.Name ∷ it.Right ∷ []) (Then (Many0 (SpellsAnnotation words) notes) (Then (IsName words property) (IsName words range))) refl (c_notes w (SpellsAnnotation words) notes (it.One kind.Name ∷ it.One kind.Name ∷ it.Right ∷ []) (Then (IsName words property) (IsName words range)) refl (λ items. refl) (all_each _ takes_note notes) (c_one w kind.Name (it.One kind.Name ∷ it.Right ∷ []) (IsName words property) (IsName words range) refl (takes_name kind.Name refl property) (c_last w kind.Name (IsName words range) (takes_name kind.Name refl range)))) ts h
    takes_carried (axioms.SubClassOf sub super) carried ts h = absurd (true≢false carried)
    takes_carried (axioms.EquivalentClasses classes) carried ts h = absurd (true≢false carried)
    takes_carried (axioms.DisjointClasses classes) carried ts h = absurd (true≢false carried)
    takes_carried (axioms.DisjointUnion class parts) carried ts h = absurd (true≢false carried)
    takes_carried (axioms.SubObjectPropertyOf sub super) carried ts h = absurd (true≢false carried)
    takes_carried (axioms.SubObjectPropertyChainOf chain super) carried ts h = absurd (true≢false carried)
    takes_carried (axioms.EquivalentObjectProperties properties) carried ts h = absurd (true≢false carried)
    takes_carried (axioms.DisjointObjectProperties properties) carried ts h = absurd (true≢false carried)
    takes_carried (axioms.InverseObjectProperties first second) carried ts h = absurd (true≢false carried)
    takes_carried (axioms.ObjectPropertyDomain property class) carried ts h = absurd (true≢false carried)
    takes_carried (axioms.ObjectPropertyRange property class) carried ts h = absurd (true≢false carried)
    takes_carried (axioms.FunctionalObjectProperty property) carried ts h = absurd (true≢false carried)
    takes_carried (axioms.InverseFunctionalObjectProperty property) carried ts h = absurd (true≢false carried)
    takes_carried (axioms.ReflexiveObjectProperty property) carried ts h = absurd (true≢false carried)
    takes_carried (axioms.IrreflexiveObjectProperty property) carried ts h = absurd (true≢false carried)
    takes_carried (axioms.SymmetricObjectProperty property) carried ts h = absurd (true≢false carried)
    takes_carried (axioms.AsymmetricObjectProperty property) carried ts h = absurd (true≢false carried)
    takes_carried (axioms.TransitiveObjectProperty property) carried ts h = absurd (true≢false carried)
    takes_carried (axioms.SubDataPropertyOf sub super) carried ts h = absurd (true≢false carried)
    takes_carried (axioms.EquivalentDataProperties properties) carried ts h = absurd (true≢false carried)
    takes_carried (axioms.DisjointDataProperties properties) carried ts h = absurd (true≢false carried)
    takes_carried (axioms.DataPropertyDomain property class) carried ts h = absurd (true≢false carried)
    takes_carried (axioms.DataPropertyRange property range) carried ts h = absurd (true≢false carried)
    takes_carried (axioms.FunctionalDataProperty property) carried ts h = absurd (true≢false carried)
    takes_carried (axioms.DatatypeDefinition datatype range) carried ts h = absurd (true≢false carried)
    takes_carried (axioms.HasKey class objects values) carried ts h = absurd (true≢false carried)
    takes_carried (axioms.SameIndividual individuals) carried ts h = absurd (true≢false carried)
    takes_carried (axioms.DifferentIndividuals individuals) carried ts h = absurd (true≢false carried)
    takes_carried (axioms.ClassAssertion class individual) carried ts h = absurd (true≢false carried)
    takes_carried (axioms.ObjectPropertyAssertion property source target) carried ts h = absurd (true≢false carried)
    takes_carried (axioms.NegativeObjectPropertyAssertion property source target) carried ts h = absurd (true≢false carried)
    takes_carried (axioms.DataPropertyAssertion property source target) carried ts h = absurd (true≢false carried)
    takes_carried (axioms.NegativeDataPropertyAssertion property source target) carried ts h = absurd (true≢false carried)
