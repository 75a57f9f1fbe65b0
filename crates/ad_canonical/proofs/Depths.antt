-- How deep the parentheses of a phrase nest, however its names are spelled: the shapes, and what has no parentheses.
use Rattle.std.proofs.Common.{◌≡◌, ℕ, ◌+◌, ◌-◌, max, List, [], ◌∷◌, ◌++◌, Option, None, Some, IfSome, ◌∙◌, ap, append_assoc, arith}
use Rattle.std.specs.List.{AllByRecursion}
use Rattle.ad_lex.specs.Lexemes.{Lexeme}
use Rattle.ad_lex.specs.Lexemes as says
use Rattle.ad_write.specs.Keywords as kw
use Rattle.ad_write.specs.Canonical.{entity_kind_word}
use Rattle.ad_entity.specs.declared.entities.Entity.{Entity}
use Rattle.ad_tree.specs.declared.names.ObjProp.{ObjProp}
use Rattle.ad_tree.specs.declared.names.ObjProp.TheVariants as props
use Rattle.ad_tree.specs.declared.names.Individual.{Individual}
use Rattle.ad_tree.specs.declared.names.Individual.TheVariants as individuals
use Rattle.ad_tree.specs.declared.literals.Literal.{Literal}
use Rattle.ad_tree.specs.declared.literals.Literal.TheVariants as literals
use Rattle.ad_tree.specs.declared.literals.Facet.{Facet}
use Rattle.ad_tree.specs.declared.notes.Subject.{Subject}
use Rattle.ad_tree.specs.declared.notes.Subject.TheVariants as subjects
use Rattle.ad_tree.specs.declared.notes.Value.{Value}
use Rattle.ad_tree.specs.declared.notes.Value.TheVariants as values
use Rattle.ad_grammar.specs.Nesting.{nesting}
use Rattle.ad_grammar.specs.Shapes.{Text, Then, Compound, Group, Many0, Many1, Optional}
use Rattle.ad_grammar.specs.Names.{Words, IsName, IsNumber, IsAnonymous, SpellsProperty, SpellsIndividual, SpellsLiteral, SpellsFacet, SpellsSubject, SpellsValue, SpellsEntity}
use Rattle.ad_grammar.proofs.Equations.{as_spelled}
use Rattle.ad_canonical.proofs.Written.{Phrase}

-- these tokens nest so deep, whatever stands behind them
abbrev pub HasDepth : ℕ → Text → Type 0
HasDepth d ts = (more : Text) → nesting (ts ++ more) ≡ max d (nesting more)

-- and all that spell a phrase do
pub record Deep (P : Phrase) : Type 0 where
  pub depth : ℕ
  pub each : (words : Words) (ts : Text) → P words ts → HasDepth depth ts

-- tokens in other words
pub along : (d : ℕ) (ts us : Text) → ts ≡ us → HasDepth d us → HasDepth d ts
along d ts us e h more = ap (λ t. nesting (t ++ more)) e ∙ h more

pub nothing : HasDepth 0 []
nothing more = omega arith

pub both : (d e : ℕ) (a b : Text) → HasDepth d a → HasDepth e b → HasDepth (max d e) (a ++ b)
both d e a b f g more =
    let first : nesting ((a ++ b) ++ more) ≡ max d (nesting (b ++ more)) = ap nesting (append_assoc a b more) ∙ f (b ++ more) in
    let second : nesting (b ++ more) ≡ max e (nesting more) = g more in
    omega arith

pub enclosed : (d : ℕ) (inner : Text) → HasDepth d inner → HasDepth (d + 1) (says.Left ∷ (inner ++ says.Right ∷ []))
enclosed d inner f more =
    let first : nesting ((inner ++ says.Right ∷ []) ++ more) ≡ max d (nesting more - 1) = ap nesting (append_assoc inner (says.Right ∷ []) more) ∙ f (says.Right ∷ more) in
    omega arith

abbrev pub two : {P Q : Phrase} → Deep P → Deep Q → Deep (λ words. Then (P words) (Q words))
two f g = record {
  depth = max f.depth g.depth;
  each = λ words ts h. along (max f.depth g.depth) ts (h.0 ++ h.1) h.2 (both f.depth g.depth h.0 h.1 (f.each words h.0 h.3) (g.each words h.1 h.4));
}

pub inside : {P : Phrase} (word : List ℕ) → Deep P → Deep (λ words. Compound word (P words))
inside word f = record {
  depth = f.depth + 1;
  each = λ words ts h. along (f.depth + 1) ts (says.Plain word ∷ says.Left ∷ (h.0 ++ says.Right ∷ [])) h.1 (enclosed f.depth h.0 (f.each words h.0 h.2));
}

pub within : {P : Phrase} → Deep P → Deep (λ words. Group (P words))
within f = record {
  depth = f.depth + 1;
  each = λ words ts h. along (f.depth + 1) ts (says.Left ∷ (h.0 ++ says.Right ∷ [])) h.1 (enclosed f.depth h.0 (f.each words h.0 h.2));
}

abbrev pub empty : Deep (λ words ts. ts ≡ [])
empty = record { depth = 0; each = λ words ts e. along 0 ts [] e nothing }

pub never : Deep (λ words ts. ⊥)
never = record { depth = 0; each = λ words ts h. absurd h }

module _ {X : Type 0} (S : Words → X → Text → Type 0) where
  pub any : (xs : List X) → AllByRecursion (λ x. Deep (λ words. S words x)) xs → Deep (λ words. Many0 (S words) xs)
  any [] h = empty
  any (x ∷ xs) h = two h.0 (any xs h.1)

  pub some : (xs : List X) → AllByRecursion (λ x. Deep (λ words. S words x)) xs → Deep (λ words. Many1 (S words) xs)
  some [] h = never
  some (x ∷ xs) h = two h.0 (any xs h.1)

  pub maybe : (o : Option X) → IfSome o (λ x. Deep (λ words. S words x)) → Deep (λ words. Optional (S words) o)
  maybe None h = empty
  maybe (Some x) h = h

-- a phrase, read as an equal one
pub as_tree : {P Q : Phrase} → ((words : Words) → Q words ≡ P words) → Deep P → Deep Q
as_tree {P} {Q} e f = record { depth = f.depth; each = λ words ts q. f.each words ts (as_spelled {P = Q words} {Q = P words} ts (e words) q) }

name_flat : (words : Words) (n : List ℕ) (ts : Text) → IsName words n ts → HasDepth 0 ts
name_flat words n ts (says.Iri full, e, f) more = let same = ap (λ t. nesting (t ++ more)) e in omega (arith, same)
name_flat words n ts (says.Short prefix local, e, f) more = let same = ap (λ t. nesting (t ++ more)) e in omega (arith, same)
name_flat words n ts (l, e, f) more = cc

pub name : (n : List ℕ) → Deep (λ words. IsName words n)
name n = record { depth = 0; each = λ words ts h. name_flat words n ts h }

label_flat : (l : List ℕ) (ts : Text) → IsAnonymous l ts → HasDepth 0 ts
label_flat l ts (e, some) more = let same = ap (λ t. nesting (t ++ more)) e in omega (arith, same)

pub label : (l : List ℕ) → Deep (λ words. IsAnonymous l)
label l = record { depth = 0; each = λ words ts h. label_flat l ts h }

number_flat : (n : ℕ) (ts : Text) → IsNumber n ts → HasDepth 0 ts
number_flat n ts (digits, e, numeral, is, small) more = let same = ap (λ t. nesting (t ++ more)) e in omega (arith, same)

pub number : (n : ℕ) → Deep (λ words. IsNumber n)
number n = record { depth = 0; each = λ words ts h. number_flat n ts h }

literal_flat : (words : Words) (l : Literal) (ts : Text) → SpellsLiteral words l ts → HasDepth 0 ts
literal_flat words (literals.Plain text) ts e more = let same = ap (λ t. nesting (t ++ more)) e in omega (arith, same)
literal_flat words (literals.Lang text tag) ts e more = let same = ap (λ t. nesting (t ++ more)) e in omega (arith, same)
literal_flat words (literals.Typed text datatype) ts (n, e, h) more =
    let same = ap (λ t. nesting (t ++ more)) e in
    let others = name_flat words datatype n h more in
    omega (arith, same, others)

pub literal : (l : Literal) → Deep (λ words. SpellsLiteral words l)
literal l = record { depth = 0; each = λ words ts h. literal_flat words l ts h }

pub property : (p : ObjProp) → Deep (λ words. SpellsProperty words p)
property (props.Named n) = name n
property (props.Inverse n) = inside kw.ObjectInverseOf (name n)

pub individual : (i : Individual) → Deep (λ words. SpellsIndividual words i)
individual (individuals.Named n) = name n
individual (individuals.Anonymous l) = label l

pub facet : (f : Facet) → Deep (λ words. SpellsFacet words f)
facet f = two (name f.facet) (literal f.value)

pub subject : (x : Subject) → Deep (λ words. SpellsSubject words x)
subject (subjects.Iri n) = name n
subject (subjects.Anonymous l) = label l

pub value : (v : Value) → Deep (λ words. SpellsValue words v)
value (values.Iri n) = name n
value (values.Anonymous l) = label l
value (values.Literal l) = literal l

pub entity : (e : Entity) → Deep (λ words. SpellsEntity words e)
entity e = inside (entity_kind_word e.kind) (name e.name)
