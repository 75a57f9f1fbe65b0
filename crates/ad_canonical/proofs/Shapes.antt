-- What is spelled can be written: the shapes of phrases, names, literals and individuals.
use Rattle.std.proofs.Common.{◌≡◌, ◌≢◌, ℕ, ◌<◌, List, [], ◌∷◌, ◌++◌, length, Option, None, Some, IfSome, refl, sym, subst, arith}
use Rattle.std.specs.List.{AllByRecursion}
use Rattle.ad_lex.specs.Lexemes as says
use Rattle.ad_write.specs.Keywords as kw
use Rattle.ad_write.specs.Canonical.{entity_kind_word}
use Rattle.ad_entity.specs.declared.entities.Entity.{Entity}
use Rattle.ad_tree.specs.declared.names.ObjProp.{ObjProp}
use Rattle.ad_tree.specs.declared.names.ObjProp.TheVariants as props
use Rattle.ad_tree.specs.declared.names.Individual.{Individual}
use Rattle.ad_tree.specs.declared.names.Individual.TheVariants as individuals
use Rattle.ad_tree.specs.declared.literals.Literal.{Literal}
use Rattle.ad_tree.specs.declared.literals.Literal.TheVariants as literals
use Rattle.ad_tree.specs.declared.literals.Facet.{Facet}
use Rattle.ad_tree.specs.declared.notes.Subject.{Subject}
use Rattle.ad_tree.specs.declared.notes.Subject.TheVariants as subjects
use Rattle.ad_tree.specs.declared.notes.Value.{Value}
use Rattle.ad_tree.specs.declared.notes.Value.TheVariants as values
use Rattle.ad_grammar.specs.Shapes.{Text, Then, Compound, Group, Many0, Many1, Optional}
use Rattle.ad_grammar.specs.Names.{Words, IsName, IsNumber, IsAnonymous, SpellsProperty, SpellsIndividual, SpellsLiteral, SpellsFacet, SpellsSubject, SpellsValue, SpellsEntity}
use Rattle.ad_grammar.proofs.Equations.{as_spelled}
use Rattle.ad_canonical.specs.Spellable.{SpellableIri, SpellableWord, SpellableNumber, EachOfSome, SpellableLiteral, SpellableProperty, SpellableIndividual, SpellableFacet, SpellableSubject, SpellableValue, SpellableEntity}
use Rattle.ad_canonical.proofs.Ranges.{read_as}
use Rattle.ad_canonical.proofs.Sound.{AreSound, AreSoundWords, name_sound}

-- where such a phrase is spelled by what a text may say, this holds
abbrev pub Gives : (Text → Type 0) → Type 0 → Type 0
Gives P A = (ts : Text) → AreSound ts → P ts → A

pub parts : (a b : Text) → AreSound (a ++ b) → AreSound a × AreSound b
parts [] b h = (tt, h)
parts (l ∷ a) b h = let others = parts a b h.1 in ((h.0, others.0), others.1)

pub two : {P Q : Text → Type 0} {A B : Type 0} → Gives P A → Gives Q B → Gives (Then P Q) (A × B)
two f g ts s (a, b, e, p, q) = let both = parts a b (subst AreSound e s) in (f a both.0 p, g b both.1 q)

pub three : {P Q R : Text → Type 0} {A B C : Type 0} → Gives P A → Gives Q B → Gives R C → Gives (Then P (Then Q R)) (A × B × C)
three f g h ts s (a, b, e, p, q) =
    let both = parts a b (subst AreSound e s) in
    let more = two g h b both.1 q in
    (f a both.0 p, more.0, more.1)

pub inside : {P : Text → Type 0} {A : Type 0} (word : List ℕ) → Gives P A → Gives (Compound word P) A
inside word f ts s (inner, e, p) =
    let here : AreSound (says.Plain word ∷ says.Left ∷ (inner ++ says.Right ∷ [])) = subst AreSound e s in
    f inner (parts inner (says.Right ∷ []) here.1.1).0 p

pub within : {P : Text → Type 0} {A : Type 0} → Gives P A → Gives (Group P) A
within f ts s (inner, e, p) =
    let here : AreSound (says.Left ∷ (inner ++ says.Right ∷ [])) = subst AreSound e s in
    f inner (parts inner (says.Right ∷ []) here.1).0 p

module _ {X : Type 0} (S : X → Text → Type 0) (A : X → Type 0) where
  pub any : (xs : List X) → AllByRecursion (λ x. Gives (S x) (A x)) xs → Gives (Many0 S xs) (AllByRecursion A xs)
  any [] h ts s e = tt
  any (x ∷ xs) h ts s e = two h.0 (any xs h.1) ts s e

  pub some : (xs : List X) → AllByRecursion (λ x. Gives (S x) (A x)) xs → Gives (Many1 S xs) (EachOfSome A xs)
  some [] h ts s e = e
  some (x ∷ xs) h ts s e = two h.0 (any xs h.1) ts s e

  pub maybe : (o : Option X) → IfSome o (λ x. Gives (S x) (A x)) → Gives (Optional S o) (IfSome o A)
  maybe None h ts s e = tt
  maybe (Some x) h ts s e = h ts s e

-- a phrase and what it gives, read as equal ones
pub as_tree : {P Q : Text → Type 0} {A B : Type 0} → Q ≡ P → B ≡ A → Gives P A → Gives Q B
as_tree {P} {Q} e f g ts s q = read_as (sym f) (g ts s (as_spelled {P = Q} {Q = P} ts e q))

some_length : (xs : List ℕ) → xs ≢ [] → 0 < length xs
some_length [] h = absurd (h refl)
some_length (x ∷ xs) h = omega arith

pub label : (l : List ℕ) → Gives (IsAnonymous l) (SpellableWord l)
label l ts s (e, some) =
    let here : AreSound (says.Node l ∷ []) = subst AreSound e s in
    record { some = some_length l some; each = here.0.0; utf8 = here.0.1 }

pub number : (n : ℕ) → Gives (IsNumber n) (SpellableNumber n)
number n ts s (digits, e, numeral, is, small) = small

module _ (words : Words) (sound : AreSoundWords words) where
  pub name : (n : List ℕ) → Gives (IsName words n) (SpellableIri n)
  name n ts s h = name_sound words sound n ts s h

  pub literal : (l : Literal) → Gives (SpellsLiteral words l) (SpellableLiteral l)
  literal (literals.Plain text) ts s e = let here : AreSound (says.Text text ∷ []) = subst AreSound e s in here.0
  literal (literals.Lang text tag) ts s e = let here : AreSound (says.Text text ∷ says.Lang tag ∷ []) = subst AreSound e s in (here.0, here.1.0)
  literal (literals.Typed text datatype) ts s (n, e, h) =
      let here : AreSound (says.Text text ∷ says.Carets ∷ n) = subst AreSound e s in
      (here.0, name datatype n here.1.1 h)

  pub property : (p : ObjProp) → Gives (SpellsProperty words p) (SpellableProperty p)
  property (props.Named n) = name n
  property (props.Inverse n) = inside kw.ObjectInverseOf (name n)

  pub individual : (i : Individual) → Gives (SpellsIndividual words i) (SpellableIndividual i)
  individual (individuals.Named n) = name n
  individual (individuals.Anonymous l) = label l

  pub facet : (f : Facet) → Gives (SpellsFacet words f) (SpellableFacet f)
  facet f = two (name f.facet) (literal f.value)

  pub subject : (x : Subject) → Gives (SpellsSubject words x) (SpellableSubject x)
  subject (subjects.Iri n) = name n
  subject (subjects.Anonymous l) = label l

  pub value : (v : Value) → Gives (SpellsValue words v) (SpellableValue v)
  value (values.Iri n) = name n
  value (values.Anonymous l) = label l
  value (values.Literal l) = literal l

  pub entity : (e : Entity) → Gives (SpellsEntity words e) (SpellableEntity e)
  entity e = inside (entity_kind_word e.kind) (name e.name)
