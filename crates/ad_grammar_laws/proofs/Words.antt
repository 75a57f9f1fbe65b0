-- The meaning of the prefixes doesn't matter for the form: what is spelled under one meaning spells something under
-- each other that knows its prefixes. And the prefixes of what is spelled are known.
use Rattle.std.proofs.Common.{◌≡◌, ℕ, false, List, [], ◌∷◌, ◌++◌, Option, None, Some, IfSome, refl, sym, ◌∙◌, ap, subst}
use Rattle.std.specs.List.{AllByRecursion}
use Rattle.std.specs.Option.{is_some}
use Rattle.std.proofs.lemmas.Bool.{true≢false}
use Rattle.ad_lex.specs.Lexemes.{Lexeme}
use Rattle.ad_lex.specs.Lexemes as says
use Rattle.ad_write.specs.Keywords as kw
use Rattle.ad_write.specs.Canonical.{entity_kind_word}
use Rattle.ad_tree.specs.Logical.{is_logical}
use Rattle.ad_tree.specs.declared.names.ObjProp.{ObjProp}
use Rattle.ad_tree.specs.declared.names.ObjProp.TheVariants as props
use Rattle.ad_tree.specs.declared.names.Individual.{Individual}
use Rattle.ad_tree.specs.declared.names.Individual.TheVariants as individuals
use Rattle.ad_tree.specs.declared.literals.Literal.{Literal}
use Rattle.ad_tree.specs.declared.literals.Literal.TheVariants as literals
use Rattle.ad_tree.specs.declared.literals.Facet.{Facet}
use Rattle.ad_entity.specs.declared.entities.EntityKind.{EntityKind}
use Rattle.ad_entity.specs.declared.entities.Entity.{Entity}
use Rattle.ad_tree.specs.declared.notes.Subject.{Subject}
use Rattle.ad_tree.specs.declared.notes.Subject.TheVariants as subjects
use Rattle.ad_tree.specs.declared.notes.Value.{Value}
use Rattle.ad_tree.specs.declared.notes.Value.TheVariants as values
use Rattle.ad_tree.specs.declared.notes.Annotation.{Annotation}
use Rattle.ad_tree.specs.declared.notes.Annotation.TheViews.{roll-Annotation}
use Rattle.ad_tree.specs.declared.ranges.Range.{Range}
use Rattle.ad_tree.specs.declared.ranges.Range.TheVariants as r
use Rattle.ad_tree.specs.declared.classes.Class.{Class}
use Rattle.ad_tree.specs.declared.classes.Class.TheVariants as c
use Rattle.ad_tree.specs.declared.axioms.Axiom.{Axiom}
use Rattle.ad_tree.specs.declared.axioms.Axiom.TheVariants as axioms
use Rattle.ad_tree.specs.declared.axioms.Noted.{Noted}
use Rattle.ad_tree.proofs.Induction.{range_induction, class_induction, annotation_induction}
use Rattle.ad_grammar.specs.Shapes.{Text, Then, Group, Compound, Many0, Many1, Optional}
use Rattle.ad_grammar.specs.Names.{Words, followed_by, names, IsName, IsNumber, IsAnonymous, SpellsProperty, SpellsIndividual, SpellsLiteral, SpellsFacet, SpellsSubject, SpellsValue, SpellsEntity}
use Rattle.ad_grammar.specs.Phrases.{Extra, SpellsRange, SpellsClass, SpellsAnnotation}
use Rattle.ad_grammar.specs.Axioms.{SpellsAxiom, SpellsNoted}
use Rattle.ad_grammar_laws.specs.Known.{IsKnown, AreKnown, Moved}
use Rattle.ad_grammar.proofs.Equations as eq
use Rattle.ad_grammar.proofs.Equations.{as_spelled}

pub known_both : (words : Words) (a b : Text) → AreKnown words a → AreKnown words b → AreKnown words (a ++ b)
known_both words [] b f g = g
known_both words (t ∷ a) b f g = (f.0, known_both words a b f.1 g)

pub known_first : (words : Words) (a b : Text) → AreKnown words (a ++ b) → AreKnown words a
known_first words [] b h = tt
known_first words (t ∷ a) b h = (h.0, known_first words a b h.1)

pub known_second : (words : Words) (a b : Text) → AreKnown words (a ++ b) → AreKnown words b
known_second words [] b h = h
known_second words (t ∷ a) b h = known_second words a b h.1

none_not_some : {X : Type 0} (x : X) → None ≡ Some x → ⊥
none_not_some x h = absurd (true≢false (sym (ap is_some h)))

-- what is spelled, by the meaning of the prefixes
abbrev pub Family : Type 0 → Type 1
Family X = Words → X → Text → Type 0

abbrev pub then : {X Y : Type 0} → Family X → Family Y → Family (X × Y)
then F G words p = Then (F words p.0) (G words p.1)

abbrev pub compound : {X : Type 0} → List ℕ → Family X → Family X
compound word F words x = Compound word (F words x)

abbrev group : {X : Type 0} → Family X → Family X
group F words x = Group (F words x)

abbrev pub many0 : {X : Type 0} → Family X → Family (List X)
many0 F words = Many0 (F words)

abbrev many1 : {X : Type 0} → Family X → Family (List X)
many1 F words = Many1 (F words)

abbrev optional : {X : Type 0} → Family X → Family (Option X)
optional F words = Optional (F words)

abbrev number : Family ℕ
number words = IsNumber

abbrev anonymous : Family (List ℕ)
anonymous words = IsAnonymous

abbrev class : Family Class
class = SpellsClass false

-- no further property
abbrev filler : Family Range
filler words x = Then (Extra false words) (SpellsRange words x)

pub record Moves {X : Type 0} (F : Family X) (x : X) : Type 0 where
  pub moved : (words words' : Words) (ts : Text) → F words x ts → AreKnown words ts × (AreKnown words' ts → (y : X) × F words' y ts)

pub m_as : {X Y : Type 0} (f : X → Y) (F : Family X) (G : Family Y) → ((words : Words) (x : X) → G words (f x) ≡ F words x) → (x : X) → Moves F x → Moves G (f x)
m_as f F G same x m = record {
  moved = λ words words' ts h.
      let d = m.moved words words' ts (as_spelled ts (same words x) h) in
      (d.0, λ known. let d' = d.1 known in (f d'.0, as_spelled ts (sym (same words' d'.0)) d'.1));
}

pub m_then : {X Y : Type 0} (F : Family X) (G : Family Y) (x : X) (y : Y) → Moves F x → Moves G y → Moves (then F G) (x, y)
m_then F G x y f g = record { moved = λ words words' ts h. moves_then words words' ts h }
  where
    moves_then : (words words' : Words) (ts : Text) → Then (F words x) (G words y) ts → AreKnown words ts × (AreKnown words' ts → (p : _ × _) × then F G words' p ts)
    moves_then words words' ts (a, b, e, s, t) =
        let d = f.moved words words' a s in
        let g' = g.moved words words' b t in (
          subst (AreKnown words) (sym e) (known_both words a b d.0 g'.0),
          λ known.
              let k : AreKnown words' (a ++ b) = subst (AreKnown words') e known in
              let u = d.1 (known_first words' a b k) in
              let v = g'.1 (known_second words' a b k) in
              ((u.0, v.0), (a, b, e, u.1, v.1)),
        )

pub m_compound : {X : Type 0} (word : List ℕ) (F : Family X) (x : X) → Moves F x → Moves (compound word F) x
m_compound {X} word F x f = record { moved = λ words words' ts h. moves_compound words words' ts h }
  where
    moves_compound : (words words' : Words) (ts : Text) → Compound word (F words x) ts → AreKnown words ts × (AreKnown words' ts → (y : X) × Compound word (F words' y) ts)
    moves_compound words words' ts (inner, e, s) =
        let d = f.moved words words' inner s in (
          subst (AreKnown words) (sym e) (tt, (tt, known_both words inner (says.Right ∷ []) d.0 (tt, tt))),
          λ known.
              let k : AreKnown words' (says.Plain word ∷ says.Left ∷ (inner ++ says.Right ∷ [])) = subst (AreKnown words') e known in
              let u = d.1 (known_first words' inner (says.Right ∷ []) k.1.1) in
              (u.0, (inner, e, u.1)),
        )

m_group : {X : Type 0} (F : Family X) (x : X) → Moves F x → Moves (group F) x
m_group {X} F x f = record { moved = λ words words' ts h. moves_group words words' ts h }
  where
    moves_group : (words words' : Words) (ts : Text) → Group (F words x) ts → AreKnown words ts × (AreKnown words' ts → (y : X) × Group (F words' y) ts)
    moves_group words words' ts (inner, e, s) =
        let d = f.moved words words' inner s in (
          subst (AreKnown words) (sym e) (tt, known_both words inner (says.Right ∷ []) d.0 (tt, tt)),
          λ known.
              let k : AreKnown words' (says.Left ∷ (inner ++ says.Right ∷ [])) = subst (AreKnown words') e known in
              let u = d.1 (known_first words' inner (says.Right ∷ []) k.1) in
              (u.0, (inner, e, u.1)),
        )

pub m_many0 : {X : Type 0} (F : Family X) (xs : List X) → AllByRecursion (Moves F) xs → Moves (many0 F) xs
m_many0 F [] each = record { moved = λ words words' ts h. (subst (AreKnown words) (sym h) tt, λ known. ([], h)) }
m_many0 F (x ∷ xs) each = record {
  moved = λ words words' ts h.
      let d = (m_then F (many0 F) x xs each.0 (m_many0 F xs each.1)).moved words words' ts h in
      (d.0, λ known. let u = d.1 known in (u.0.0 ∷ u.0.1, u.1));
}

m_many1 : {X : Type 0} (F : Family X) (xs : List X) → AllByRecursion (Moves F) xs → Moves (many1 F) xs
m_many1 F [] each = record { moved = λ words words' ts h. absurd h }
m_many1 F (x ∷ xs) each = record {
  moved = λ words words' ts h.
      let d = (m_then F (many0 F) x xs each.0 (m_many0 F xs each.1)).moved words words' ts h in
      (d.0, λ known. let u = d.1 known in (u.0.0 ∷ u.0.1, u.1));
}

m_optional : {X : Type 0} (F : Family X) (o : Option X) → IfSome o (Moves F) → Moves (optional F) o
m_optional F None each = record { moved = λ words words' ts h. (subst (AreKnown words) (sym h) tt, λ known. (None, h)) }
m_optional F (Some x) each = record {
  moved = λ words words' ts h.
      let d = each.moved words words' ts h in
      (d.0, λ known. let u = d.1 known in (Some u.0, u.1));
}

all_each : {X : Type 0} (P : X → Type 0) → ((x : X) → P x) → (xs : List X) → AllByRecursion P xs
all_each P f [] = tt
all_each P f (x ∷ xs) = (f x, all_each P f xs)

if_some : {X : Type 0} (P : X → Type 0) → ((x : X) → P x) → (o : Option X) → IfSome o P
if_some P f None = tt
if_some P f (Some x) = f x

pub m_all0 : {X : Type 0} (F : Family X) → ((x : X) → Moves F x) → (xs : List X) → Moves (many0 F) xs
m_all0 F f xs = m_many0 F xs (all_each (Moves F) f xs)

m_all1 : {X : Type 0} (F : Family X) → ((x : X) → Moves F x) → (xs : List X) → Moves (many1 F) xs
m_all1 F f xs = m_many1 F xs (all_each (Moves F) f xs)

-- a prefix with an IRI behind which a local part stands
known_prefix : (local : List ℕ) (o : Option (List ℕ)) (name : List ℕ) → followed_by local o ≡ Some name → (iri : List ℕ) × (o ≡ Some iri)
known_prefix local None name h = absurd (none_not_some name h)
known_prefix local (Some iri) name h = (iri, refl)

name_known : (words words' : Words) (l : Lexeme) (name : List ℕ) → names words l ≡ Some name → IsKnown words l × (IsKnown words' l → (n : List ℕ) × (names words' l ≡ Some n))
name_known words words' says.Left name h = absurd (none_not_some name h)
name_known words words' says.Right name h = absurd (none_not_some name h)
name_known words words' says.Equals name h = absurd (none_not_some name h)
name_known words words' says.Carets name h = absurd (none_not_some name h)
name_known words words' says.Plus name h = absurd (none_not_some name h)
name_known words words' says.Minus name h = absurd (none_not_some name h)
name_known words words' (says.Iri n) name h = (tt, λ known. (n, refl))
name_known words words' (says.Text value) name h = absurd (none_not_some name h)
name_known words words' (says.Plain word) name h = absurd (none_not_some name h)
name_known words words' (says.Short prefix local) name h = (known_prefix local (words prefix) name h, λ known. (known.0 ++ local, ap (followed_by local) known.1))
name_known words words' (says.Node label) name h = absurd (none_not_some name h)
name_known words words' (says.Lang tag) name h = absurd (none_not_some name h)

pub m_name : (name : List ℕ) → Moves IsName name
m_name name = record { moved = λ words words' ts h. moves_name words words' ts h }
  where
    moves_name : (words words' : Words) (ts : Text) → IsName words name ts → AreKnown words ts × (AreKnown words' ts → (n : List ℕ) × IsName words' n ts)
    moves_name words words' ts (l, e, is) =
        let d = name_known words words' l name is in (
          subst (AreKnown words) (sym e) (d.0, tt),
          λ known.
              let k : AreKnown words' (l ∷ []) = subst (AreKnown words') e known in
              let u = d.1 k.0 in
              (u.0, (l, e, u.1)),
        )

m_number : (n : ℕ) → Moves number n
m_number n = record { moved = λ words words' ts h. (subst (AreKnown words) (sym h.1) (tt, tt), λ known. (n, h)) }

m_anonymous : (label : List ℕ) → Moves anonymous label
m_anonymous label = record { moved = λ words words' ts h. (subst (AreKnown words) (sym h.0) (tt, tt), λ known. (label, h)) }

m_literal : (x : Literal) → Moves SpellsLiteral x
m_literal (literals.Plain text) = record { moved = λ words words' ts h. (subst (AreKnown words) (sym h) (tt, tt), λ known. (literals.Plain text, h)) }
m_literal (literals.Lang text tag) = record { moved = λ words words' ts h. (subst (AreKnown words) (sym h) (tt, (tt, tt)), λ known. (literals.Lang text tag, h)) }
m_literal (literals.Typed text datatype) = record { moved = λ words words' ts h. moves_typed words words' ts h }
  where
    moves_typed : (words words' : Words) (ts : Text) → SpellsLiteral words (literals.Typed text datatype) ts → AreKnown words ts × (AreKnown words' ts → (y : Literal) × SpellsLiteral words' y ts)
    moves_typed words words' ts (name, e, is) =
        let d = (m_name datatype).moved words words' name is in (
          subst (AreKnown words) (sym e) (tt, (tt, d.0)),
          λ known.
              let k : AreKnown words' (says.Text text ∷ says.Carets ∷ name) = subst (AreKnown words') e known in
              let u = d.1 k.1.1 in
              (literals.Typed text u.0, (name, e, u.1)),
        )

m_property : (x : ObjProp) → Moves SpellsProperty x
m_property (props.Named name) = m_as props.Named IsName SpellsProperty (λ words p. refl) name (m_name name)
m_property (props.Inverse name) = m_as props.Inverse (compound kw.ObjectInverseOf IsName) SpellsProperty (λ words p. refl) name (m_compound kw.ObjectInverseOf IsName name (m_name name))

m_individual : (x : Individual) → Moves SpellsIndividual x
m_individual (individuals.Named name) = m_as individuals.Named IsName SpellsIndividual (λ words p. refl) name (m_name name)
m_individual (individuals.Anonymous label) = m_as individuals.Anonymous anonymous SpellsIndividual (λ words p. refl) label (m_anonymous label)

abbrev facet_of : List ℕ → Literal → Facet
facet_of facet value = record { facet = facet; value = value }

abbrev entity_of : EntityKind → List ℕ → Entity
entity_of kind name = record { kind = kind; name = name }

m_facet : (x : Facet) → Moves SpellsFacet x
m_facet x = m_as (λ p. facet_of p.0 p.1) (then IsName SpellsLiteral) SpellsFacet (λ words p. refl) (x.facet, x.value) (m_then IsName SpellsLiteral x.facet x.value (m_name x.facet) (m_literal x.value))

m_subject : (x : Subject) → Moves SpellsSubject x
m_subject (subjects.Iri name) = m_as subjects.Iri IsName SpellsSubject (λ words p. refl) name (m_name name)
m_subject (subjects.Anonymous label) = m_as subjects.Anonymous anonymous SpellsSubject (λ words p. refl) label (m_anonymous label)

m_value : (x : Value) → Moves SpellsValue x
m_value (values.Iri name) = m_as values.Iri IsName SpellsValue (λ words p. refl) name (m_name name)
m_value (values.Anonymous label) = m_as values.Anonymous anonymous SpellsValue (λ words p. refl) label (m_anonymous label)
m_value (values.Literal literal) = m_as values.Literal SpellsLiteral SpellsValue (λ words p. refl) literal (m_literal literal)

pub m_entity : (x : Entity) → Moves SpellsEntity x
m_entity x = m_as (λ name. entity_of x.kind name) (compound (entity_kind_word x.kind) IsName) SpellsEntity (λ words p. refl) x.name (m_compound (entity_kind_word x.kind) IsName x.name (m_name x.name))

-- no further property stands before the filler
m_filler : (x : Range) → Moves SpellsRange x → Moves filler x
m_filler x f = record { moved = λ words words' ts h. moves_filler words words' ts h }
  where
    moves_filler : (words words' : Words) (ts : Text) → Then (Extra false words) (SpellsRange words x) ts → AreKnown words ts × (AreKnown words' ts → (y : Range) × Then (Extra false words') (SpellsRange words' y) ts)
    moves_filler words words' ts (a, b, e, none, s) =
        let e' : ts ≡ b = e ∙ ap (λ us. us ++ b) none in
        let d = f.moved words words' b s in (
          subst (AreKnown words) (sym e') d.0,
          λ known.
              let u = d.1 (subst (AreKnown words') e' known) in
              (u.0, ([], b, e', refl, u.1)),
        )

m_range : (x : Range) → Moves SpellsRange x
m_range = range_induction (Moves SpellsRange) (record {
  named = λ datatype. m_as (λ p. r.Named p) IsName SpellsRange (λ words p. eq.spells_range-named words p) datatype (m_name datatype);
  intersection = λ operands each. m_as (λ p. r.And p) (compound kw.DataIntersectionOf (many1 SpellsRange)) SpellsRange (λ words p. eq.spells_range-and words p) operands (m_compound kw.DataIntersectionOf (many1 SpellsRange) operands (m_many1 SpellsRange operands each));
  union = λ operands each. m_as (λ p. r.Or p) (compound kw.DataUnionOf (many1 SpellsRange)) SpellsRange (λ words p. eq.spells_range-or words p) operands (m_compound kw.DataUnionOf (many1 SpellsRange) operands (m_many1 SpellsRange operands each));
  complement = λ operand hyp. m_as (λ p. r.Not p) (compound kw.DataComplementOf SpellsRange) SpellsRange (λ words p. eq.spells_range-not words p) operand (m_compound kw.DataComplementOf SpellsRange operand hyp);
  one_of = λ values. m_as (λ p. r.OneOf p) (compound kw.DataOneOf (many1 SpellsLiteral)) SpellsRange (λ words p. eq.spells_range-one_of words p) values (m_compound kw.DataOneOf (many1 SpellsLiteral) values (m_all1 SpellsLiteral m_literal values));
  restriction = λ datatype facets. m_as (λ p. r.Restriction p.0 p.1) (compound kw.DatatypeRestriction (then IsName (many1 SpellsFacet))) SpellsRange (λ words p. eq.spells_range-restriction words p.0 p.1) (datatype, facets) (m_compound kw.DatatypeRestriction (then IsName (many1 SpellsFacet)) (datatype, facets) (m_then IsName (many1 SpellsFacet) datatype facets (m_name datatype) (m_all1 SpellsFacet m_facet facets)));
})

m_class : (x : Class) → Moves class x
m_class = class_induction (Moves class) (record {
  named = λ name. m_as (λ p. c.Named p) IsName class (λ words p. eq.spells_class-named false words p) name (m_name name);
  intersection = λ operands each. m_as (λ p. c.And p) (compound kw.ObjectIntersectionOf (many1 class)) class (λ words p. eq.spells_class-and false words p) operands (m_compound kw.ObjectIntersectionOf (many1 class) operands (m_many1 class operands each));
  union = λ operands each. m_as (λ p. c.Or p) (compound kw.ObjectUnionOf (many1 class)) class (λ words p. eq.spells_class-or false words p) operands (m_compound kw.ObjectUnionOf (many1 class) operands (m_many1 class operands each));
  complement = λ operand hyp. m_as (λ p. c.Not p) (compound kw.ObjectComplementOf class) class (λ words p. eq.spells_class-not false words p) operand (m_compound kw.ObjectComplementOf class operand hyp);
  one_of = λ members. m_as (λ p. c.OneOf p) (compound kw.ObjectOneOf (many1 SpellsIndividual)) class (λ words p. eq.spells_class-one_of false words p) members (m_compound kw.ObjectOneOf (many1 SpellsIndividual) members (m_all1 SpellsIndividual m_individual members));
  obj_some = λ property operand hyp. m_as (λ p. c.ObjSome p.0 p.1) (compound kw.ObjectSomeValuesFrom (then SpellsProperty class)) class (λ words p. eq.spells_class-obj_some false words p.0 p.1) (property, operand) (m_compound kw.ObjectSomeValuesFrom (then SpellsProperty class) (property, operand) (m_then SpellsProperty class property operand (m_property property) hyp));
  obj_all = λ property operand hyp. m_as (λ p. c.ObjAll p.0 p.1) (compound kw.ObjectAllValuesFrom (then SpellsProperty class)) class (λ words p. eq.spells_class-obj_all false words p.0 p.1) (property, operand) (m_compound kw.ObjectAllValuesFrom (then SpellsProperty class) (property, operand) (m_then SpellsProperty class property operand (m_property property) hyp));
  obj_value = λ property individual. m_as (λ p. c.ObjValue p.0 p.1) (compound kw.ObjectHasValue (then SpellsProperty SpellsIndividual)) class (λ words p. eq.spells_class-obj_value false words p.0 p.1) (property, individual) (m_compound kw.ObjectHasValue (then SpellsProperty SpellsIndividual) (property, individual) (m_then SpellsProperty SpellsIndividual property individual (m_property property) (m_individual individual)));
  obj_self = λ property. m_as (λ p. c.ObjSelf p) (compound kw.ObjectHasSelf SpellsProperty) class (λ words p. eq.spells_class-obj_self false words p) property (m_compound kw.ObjectHasSelf SpellsProperty property (m_property property));
  obj_min = λ n property operand hyp. m_as (λ p. c.ObjMin p.0 p.1.0 p.1.1) (compound kw.ObjectMinCardinality (then number (then SpellsProperty (optional class)))) class (λ words p. eq.spells_class-obj_min false words p.0 p.1.0 p.1.1) (n, (property, operand)) (m_compound kw.ObjectMinCardinality (then number (then SpellsProperty (optional class))) (n, (property, operand)) (m_then number (then SpellsProperty (optional class)) n (property, operand) (m_number n) (m_then SpellsProperty (optional class) property operand (m_property property) (m_optional class operand hyp))));
  obj_max = λ n property operand hyp. m_as (λ p. c.ObjMax p.0 p.1.0 p.1.1) (compound kw.ObjectMaxCardinality (then number (then SpellsProperty (optional class)))) class (λ words p. eq.spells_class-obj_max false words p.0 p.1.0 p.1.1) (n, (property, operand)) (m_compound kw.ObjectMaxCardinality (then number (then SpellsProperty (optional class))) (n, (property, operand)) (m_then number (then SpellsProperty (optional class)) n (property, operand) (m_number n) (m_then SpellsProperty (optional class) property operand (m_property property) (m_optional class operand hyp))));
  obj_exact = λ n property operand hyp. m_as (λ p. c.ObjExact p.0 p.1.0 p.1.1) (compound kw.ObjectExactCardinality (then number (then SpellsProperty (optional class)))) class (λ words p. eq.spells_class-obj_exact false words p.0 p.1.0 p.1.1) (n, (property, operand)) (m_compound kw.ObjectExactCardinality (then number (then SpellsProperty (optional class))) (n, (property, operand)) (m_then number (then SpellsProperty (optional class)) n (property, operand) (m_number n) (m_then SpellsProperty (optional class) property operand (m_property property) (m_optional class operand hyp))));
  data_some = λ property range. m_as (λ p. c.DataSome p.0 p.1) (compound kw.DataSomeValuesFrom (then IsName filler)) class (λ words p. eq.spells_class-data_some false words p.0 p.1) (property, range) (m_compound kw.DataSomeValuesFrom (then IsName filler) (property, range) (m_then IsName filler property range (m_name property) (m_filler range (m_range range))));
  data_all = λ property range. m_as (λ p. c.DataAll p.0 p.1) (compound kw.DataAllValuesFrom (then IsName filler)) class (λ words p. eq.spells_class-data_all false words p.0 p.1) (property, range) (m_compound kw.DataAllValuesFrom (then IsName filler) (property, range) (m_then IsName filler property range (m_name property) (m_filler range (m_range range))));
  data_value = λ property value. m_as (λ p. c.DataValue p.0 p.1) (compound kw.DataHasValue (then IsName SpellsLiteral)) class (λ words p. eq.spells_class-data_value false words p.0 p.1) (property, value) (m_compound kw.DataHasValue (then IsName SpellsLiteral) (property, value) (m_then IsName SpellsLiteral property value (m_name property) (m_literal value)));
  data_min = λ n property range. m_as (λ p. c.DataMin p.0 p.1.0 p.1.1) (compound kw.DataMinCardinality (then number (then IsName (optional SpellsRange)))) class (λ words p. eq.spells_class-data_min false words p.0 p.1.0 p.1.1) (n, (property, range)) (m_compound kw.DataMinCardinality (then number (then IsName (optional SpellsRange))) (n, (property, range)) (m_then number (then IsName (optional SpellsRange)) n (property, range) (m_number n) (m_then IsName (optional SpellsRange) property range (m_name property) (m_optional SpellsRange range (if_some (Moves SpellsRange) m_range range)))));
  data_max = λ n property range. m_as (λ p. c.DataMax p.0 p.1.0 p.1.1) (compound kw.DataMaxCardinality (then number (then IsName (optional SpellsRange)))) class (λ words p. eq.spells_class-data_max false words p.0 p.1.0 p.1.1) (n, (property, range)) (m_compound kw.DataMaxCardinality (then number (then IsName (optional SpellsRange))) (n, (property, range)) (m_then number (then IsName (optional SpellsRange)) n (property, range) (m_number n) (m_then IsName (optional SpellsRange) property range (m_name property) (m_optional SpellsRange range (if_some (Moves SpellsRange) m_range range)))));
  data_exact = λ n property range. m_as (λ p. c.DataExact p.0 p.1.0 p.1.1) (compound kw.DataExactCardinality (then number (then IsName (optional SpellsRange)))) class (λ words p. eq.spells_class-data_exact false words p.0 p.1.0 p.1.1) (n, (property, range)) (m_compound kw.DataExactCardinality (then number (then IsName (optional SpellsRange))) (n, (property, range)) (m_then number (then IsName (optional SpellsRange)) n (property, range) (m_number n) (m_then IsName (optional SpellsRange) property range (m_name property) (m_optional SpellsRange range (if_some (Moves SpellsRange) m_range range)))));
})

pub m_annotation : (x : Annotation) → Moves SpellsAnnotation x
m_annotation = annotation_induction (Moves SpellsAnnotation) (record {
  annotation = λ notes property value each. m_as (λ p. roll-Annotation (record { notes = p.0; property = p.1.0; value = p.1.1 })) (compound kw.Annotation (then (many0 SpellsAnnotation) (then IsName SpellsValue))) SpellsAnnotation (λ words p. eq.spells_annotation words p.0 p.1.0 p.1.1) (notes, (property, value)) (m_compound kw.Annotation (then (many0 SpellsAnnotation) (then IsName SpellsValue)) (notes, (property, value)) (m_then (many0 SpellsAnnotation) (then IsName SpellsValue) notes (property, value) (m_many0 SpellsAnnotation notes each) (m_then IsName SpellsValue property value (m_name property) (m_value value))));
})

-- an axiom stays logical, or carried
record MovesNoted (x : Noted) : Type 0 where
  moved : (words words' : Words) (ts : Text) → SpellsNoted false words x ts → AreKnown words ts × (AreKnown words' ts → (y : Noted) × (is_logical y.axiom ≡ is_logical x.axiom) × SpellsNoted false words' y ts)

m_axiom : {X : Type 0} (word : List ℕ) (f : X → Axiom) (F : Family X) → ((words : Words) (notes : Text → Type 0) (x : X) → SpellsAxiom false words notes (f x) ≡ Compound word (Then notes (F words x))) → ((x y : X) → is_logical (f x) ≡ is_logical (f y)) → (notes : List Annotation) (x : X) → Moves F x → MovesNoted (record { notes = notes; «axiom» = f x })
m_axiom {X} word f F same sort notes x m = record {
  moved = λ words words' ts h.
      let d = (m_compound word (then (many0 SpellsAnnotation) F) (notes, x) (m_then (many0 SpellsAnnotation) F notes x (m_all0 SpellsAnnotation m_annotation notes) m)).moved words words' ts (as_spelled ts (same words (Many0 (SpellsAnnotation words) notes) x) h) in
      (d.0, λ known. let u = d.1 known in (record { notes = u.0.0; «axiom» = f u.0.1 }, sort u.0.1 x, as_spelled ts (sym (same words' (Many0 (SpellsAnnotation words') u.0.0) u.0.1)) u.1));
}

moves_axiom : (notes : List Annotation) (x : Axiom) → MovesNoted (record { notes = notes; «axiom» = x })
moves_axiom notes (axioms.SubClassOf first second) = m_axiom kw.SubClassOf (λ p. axioms.SubClassOf p.0 p.1) (then class class) (λ words n p. refl) (λ p q. refl) notes (first, second) (m_then class class first second (m_class first) (m_class second))
moves_axiom notes (axioms.EquivalentClasses operands) = m_axiom kw.EquivalentClasses (λ p. axioms.EquivalentClasses p) (many1 class) (λ words n p. refl) (λ p q. refl) notes operands (m_all1 class m_class operands)
moves_axiom notes (axioms.DisjointClasses operands) = m_axiom kw.DisjointClasses (λ p. axioms.DisjointClasses p) (many1 class) (λ words n p. refl) (λ p q. refl) notes operands (m_all1 class m_class operands)
moves_axiom notes (axioms.DisjointUnion union parts) = m_axiom kw.DisjointUnion (λ p. axioms.DisjointUnion p.0 p.1) (then IsName (many1 class)) (λ words n p. refl) (λ p q. refl) notes (union, parts) (m_then IsName (many1 class) union parts (m_name union) (m_all1 class m_class parts))
moves_axiom notes (axioms.SubObjectPropertyOf first second) = m_axiom kw.SubObjectPropertyOf (λ p. axioms.SubObjectPropertyOf p.0 p.1) (then SpellsProperty SpellsProperty) (λ words n p. refl) (λ p q. refl) notes (first, second) (m_then SpellsProperty SpellsProperty first second (m_property first) (m_property second))
moves_axiom notes (axioms.SubObjectPropertyChainOf chain super) = m_axiom kw.SubObjectPropertyOf (λ p. axioms.SubObjectPropertyChainOf p.0 p.1) (then (compound kw.ObjectPropertyChain (many1 SpellsProperty)) SpellsProperty) (λ words n p. refl) (λ p q. refl) notes (chain, super) (m_then (compound kw.ObjectPropertyChain (many1 SpellsProperty)) SpellsProperty chain super (m_compound kw.ObjectPropertyChain (many1 SpellsProperty) chain (m_all1 SpellsProperty m_property chain)) (m_property super))
moves_axiom notes (axioms.EquivalentObjectProperties operands) = m_axiom kw.EquivalentObjectProperties (λ p. axioms.EquivalentObjectProperties p) (many1 SpellsProperty) (λ words n p. refl) (λ p q. refl) notes operands (m_all1 SpellsProperty m_property operands)
moves_axiom notes (axioms.DisjointObjectProperties operands) = m_axiom kw.DisjointObjectProperties (λ p. axioms.DisjointObjectProperties p) (many1 SpellsProperty) (λ words n p. refl) (λ p q. refl) notes operands (m_all1 SpellsProperty m_property operands)
moves_axiom notes (axioms.InverseObjectProperties first second) = m_axiom kw.InverseObjectProperties (λ p. axioms.InverseObjectProperties p.0 p.1) (then SpellsProperty SpellsProperty) (λ words n p. refl) (λ p q. refl) notes (first, second) (m_then SpellsProperty SpellsProperty first second (m_property first) (m_property second))
moves_axiom notes (axioms.ObjectPropertyDomain first second) = m_axiom kw.ObjectPropertyDomain (λ p. axioms.ObjectPropertyDomain p.0 p.1) (then SpellsProperty class) (λ words n p. refl) (λ p q. refl) notes (first, second) (m_then SpellsProperty class first second (m_property first) (m_class second))
moves_axiom notes (axioms.ObjectPropertyRange first second) = m_axiom kw.ObjectPropertyRange (λ p. axioms.ObjectPropertyRange p.0 p.1) (then SpellsProperty class) (λ words n p. refl) (λ p q. refl) notes (first, second) (m_then SpellsProperty class first second (m_property first) (m_class second))
moves_axiom notes (axioms.FunctionalObjectProperty operand) = m_axiom kw.FunctionalObjectProperty (λ p. axioms.FunctionalObjectProperty p) SpellsProperty (λ words n p. refl) (λ p q. refl) notes operand (m_property operand)
moves_axiom notes (axioms.InverseFunctionalObjectProperty operand) = m_axiom kw.InverseFunctionalObjectProperty (λ p. axioms.InverseFunctionalObjectProperty p) SpellsProperty (λ words n p. refl) (λ p q. refl) notes operand (m_property operand)
moves_axiom notes (axioms.ReflexiveObjectProperty operand) = m_axiom kw.ReflexiveObjectProperty (λ p. axioms.ReflexiveObjectProperty p) SpellsProperty (λ words n p. refl) (λ p q. refl) notes operand (m_property operand)
moves_axiom notes (axioms.IrreflexiveObjectProperty operand) = m_axiom kw.IrreflexiveObjectProperty (λ p. axioms.IrreflexiveObjectProperty p) SpellsProperty (λ words n p. refl) (λ p q. refl) notes operand (m_property operand)
moves_axiom notes (axioms.SymmetricObjectProperty operand) = m_axiom kw.SymmetricObjectProperty (λ p. axioms.SymmetricObjectProperty p) SpellsProperty (λ words n p. refl) (λ p q. refl) notes operand (m_property operand)
moves_axiom notes (axioms.AsymmetricObjectProperty operand) = m_axiom kw.AsymmetricObjectProperty (λ p. axioms.AsymmetricObjectProperty p) SpellsProperty (λ words n p. refl) (λ p q. refl) notes operand (m_property operand)
moves_axiom notes (axioms.TransitiveObjectProperty operand) = m_axiom kw.TransitiveObjectProperty (λ p. axioms.TransitiveObjectProperty p) SpellsProperty (λ words n p. refl) (λ p q. refl) notes operand (m_property operand)
moves_axiom notes (axioms.SubDataPropertyOf first second) = m_axiom kw.SubDataPropertyOf (λ p. axioms.SubDataPropertyOf p.0 p.1) (then IsName IsName) (λ words n p. refl) (λ p q. refl) notes (first, second) (m_then IsName IsName first second (m_name first) (m_name second))
moves_axiom notes (axioms.EquivalentDataProperties operands) = m_axiom kw.EquivalentDataProperties (λ p. axioms.EquivalentDataProperties p) (many1 IsName) (λ words n p. refl) (λ p q. refl) notes operands (m_all1 IsName m_name operands)
moves_axiom notes (axioms.DisjointDataProperties operands) = m_axiom kw.DisjointDataProperties (λ p. axioms.DisjointDataProperties p) (many1 IsName) (λ words n p. refl) (λ p q. refl) notes operands (m_all1 IsName m_name operands)
moves_axiom notes (axioms.DataPropertyDomain first second) = m_axiom kw.DataPropertyDomain (λ p. axioms.DataPropertyDomain p.0 p.1) (then IsName class) (λ words n p. refl) (λ p q. refl) notes (first, second) (m_then IsName class first second (m_name first) (m_class second))
moves_axiom notes (axioms.DataPropertyRange first second) = m_axiom kw.DataPropertyRange (λ p. axioms.DataPropertyRange p.0 p.1) (then IsName SpellsRange) (λ words n p. refl) (λ p q. refl) notes (first, second) (m_then IsName SpellsRange first second (m_name first) (m_range second))
moves_axiom notes (axioms.FunctionalDataProperty operand) = m_axiom kw.FunctionalDataProperty (λ p. axioms.FunctionalDataProperty p) IsName (λ words n p. refl) (λ p q. refl) notes operand (m_name operand)
moves_axiom notes (axioms.DatatypeDefinition first second) = m_axiom kw.DatatypeDefinition (λ p. axioms.DatatypeDefinition p.0 p.1) (then IsName SpellsRange) (λ words n p. refl) (λ p q. refl) notes (first, second) (m_then IsName SpellsRange first second (m_name first) (m_range second))
moves_axiom notes (axioms.HasKey first objects values) = m_axiom kw.HasKey (λ p. axioms.HasKey p.0 p.1.0 p.1.1) (then class (then (group (many0 SpellsProperty)) (group (many0 IsName)))) (λ words n p. refl) (λ p q. refl) notes (first, (objects, values)) (m_then class (then (group (many0 SpellsProperty)) (group (many0 IsName))) first (objects, values) (m_class first) (m_then (group (many0 SpellsProperty)) (group (many0 IsName)) objects values (m_group (many0 SpellsProperty) objects (m_all0 SpellsProperty m_property objects)) (m_group (many0 IsName) values (m_all0 IsName m_name values))))
moves_axiom notes (axioms.SameIndividual operands) = m_axiom kw.SameIndividual (λ p. axioms.SameIndividual p) (many1 SpellsIndividual) (λ words n p. refl) (λ p q. refl) notes operands (m_all1 SpellsIndividual m_individual operands)
moves_axiom notes (axioms.DifferentIndividuals operands) = m_axiom kw.DifferentIndividuals (λ p. axioms.DifferentIndividuals p) (many1 SpellsIndividual) (λ words n p. refl) (λ p q. refl) notes operands (m_all1 SpellsIndividual m_individual operands)
moves_axiom notes (axioms.ClassAssertion first second) = m_axiom kw.ClassAssertion (λ p. axioms.ClassAssertion p.0 p.1) (then class SpellsIndividual) (λ words n p. refl) (λ p q. refl) notes (first, second) (m_then class SpellsIndividual first second (m_class first) (m_individual second))
moves_axiom notes (axioms.ObjectPropertyAssertion first second third) = m_axiom kw.ObjectPropertyAssertion (λ p. axioms.ObjectPropertyAssertion p.0 p.1.0 p.1.1) (then SpellsProperty (then SpellsIndividual SpellsIndividual)) (λ words n p. refl) (λ p q. refl) notes (first, (second, third)) (m_then SpellsProperty (then SpellsIndividual SpellsIndividual) first (second, third) (m_property first) (m_then SpellsIndividual SpellsIndividual second third (m_individual second) (m_individual third)))
moves_axiom notes (axioms.NegativeObjectPropertyAssertion first second third) = m_axiom kw.NegativeObjectPropertyAssertion (λ p. axioms.NegativeObjectPropertyAssertion p.0 p.1.0 p.1.1) (then SpellsProperty (then SpellsIndividual SpellsIndividual)) (λ words n p. refl) (λ p q. refl) notes (first, (second, third)) (m_then SpellsProperty (then SpellsIndividual SpellsIndividual) first (second, third) (m_property first) (m_then SpellsIndividual SpellsIndividual second third (m_individual second) (m_individual third)))
moves_axiom notes (axioms.DataPropertyAssertion first second third) = m_axiom kw.DataPropertyAssertion (λ p. axioms.DataPropertyAssertion p.0 p.1.0 p.1.1) (then IsName (then SpellsIndividual SpellsLiteral)) (λ words n p. refl) (λ p q. refl) notes (first, (second, third)) (m_then IsName (then SpellsIndividual SpellsLiteral) first (second, third) (m_name first) (m_then SpellsIndividual SpellsLiteral second third (m_individual second) (m_literal third)))
moves_axiom notes (axioms.NegativeDataPropertyAssertion first second third) = m_axiom kw.NegativeDataPropertyAssertion (λ p. axioms.NegativeDataPropertyAssertion p.0 p.1.0 p.1.1) (then IsName (then SpellsIndividual SpellsLiteral)) (λ words n p. refl) (λ p q. refl) notes (first, (second, third)) (m_then IsName (then SpellsIndividual SpellsLiteral) first (second, third) (m_name first) (m_then SpellsIndividual SpellsLiteral second third (m_individual second) (m_literal third)))
moves_axiom notes (axioms.Declaration operand) = m_axiom kw.Declaration (λ p. axioms.Declaration p) SpellsEntity (λ words n p. refl) (λ p q. refl) notes operand (m_entity operand)
moves_axiom notes (axioms.AnnotationAssertion first second third) = m_axiom kw.AnnotationAssertion (λ p. axioms.AnnotationAssertion p.0 p.1.0 p.1.1) (then IsName (then SpellsSubject SpellsValue)) (λ words n p. refl) (λ p q. refl) notes (first, (second, third)) (m_then IsName (then SpellsSubject SpellsValue) first (second, third) (m_name first) (m_then SpellsSubject SpellsValue second third (m_subject second) (m_value third)))
moves_axiom notes (axioms.SubAnnotationPropertyOf first second) = m_axiom kw.SubAnnotationPropertyOf (λ p. axioms.SubAnnotationPropertyOf p.0 p.1) (then IsName IsName) (λ words n p. refl) (λ p q. refl) notes (first, second) (m_then IsName IsName first second (m_name first) (m_name second))
moves_axiom notes (axioms.AnnotationPropertyDomain first second) = m_axiom kw.AnnotationPropertyDomain (λ p. axioms.AnnotationPropertyDomain p.0 p.1) (then IsName IsName) (λ words n p. refl) (λ p q. refl) notes (first, second) (m_then IsName IsName first second (m_name first) (m_name second))
moves_axiom notes (axioms.AnnotationPropertyRange first second) = m_axiom kw.AnnotationPropertyRange (λ p. axioms.AnnotationPropertyRange p.0 p.1) (then IsName IsName) (λ words n p. refl) (λ p q. refl) notes (first, second) (m_then IsName IsName first second (m_name first) (m_name second))

m_noted : (x : Noted) → MovesNoted x
m_noted x = moves_axiom x.notes x.axiom

move : {X : Type 0} (F : Family X) → ((x : X) → Moves F x) → (words words' : Words) (x : X) (ts : Text) → F words x ts → AreKnown words ts × (AreKnown words' ts → (y : X) × F words' y ts)
move F f words words' x ts h = (f x).moved words words' ts h

pub property_moves : (words words' : Words) (x : ObjProp) (ts : Text) → SpellsProperty words x ts → Moved words words' SpellsProperty ts
property_moves = move SpellsProperty m_property

pub individual_moves : (words words' : Words) (x : Individual) (ts : Text) → SpellsIndividual words x ts → Moved words words' SpellsIndividual ts
individual_moves = move SpellsIndividual m_individual

pub literal_moves : (words words' : Words) (x : Literal) (ts : Text) → SpellsLiteral words x ts → Moved words words' SpellsLiteral ts
literal_moves = move SpellsLiteral m_literal

pub range_moves : (words words' : Words) (x : Range) (ts : Text) → SpellsRange words x ts → Moved words words' SpellsRange ts
range_moves = move SpellsRange m_range

pub class_moves : (words words' : Words) (x : Class) (ts : Text) → SpellsClass false words x ts → Moved words words' (SpellsClass false) ts
class_moves = move class m_class

pub entity_moves : (words words' : Words) (x : Entity) (ts : Text) → SpellsEntity words x ts → Moved words words' SpellsEntity ts
entity_moves = move SpellsEntity m_entity

pub annotation_moves : (words words' : Words) (x : Annotation) (ts : Text) → SpellsAnnotation words x ts → Moved words words' SpellsAnnotation ts
annotation_moves = move SpellsAnnotation m_annotation

pub noted_moves : (words words' : Words) (x : Noted) (ts : Text) → SpellsNoted false words x ts → AreKnown words ts × (AreKnown words' ts → (y : Noted) × (is_logical y.axiom ≡ is_logical x.axiom) × SpellsNoted false words' y ts)
noted_moves words words' x ts h = (m_noted x).moved words words' ts h
