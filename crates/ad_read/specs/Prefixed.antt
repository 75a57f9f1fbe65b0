-- The faults of a text's prefixes: one that is declared twice, and one that is neither declared nor standard.
use Rattle.std.specs.Prelude.{◌≡◌, ℕ, ◌+◌, List, [], ◌∷◌, ◌++◌, length, None, Some, codes}
use Rattle.ad_lex.specs.Lexemes as says
use Rattle.ad_grammar.specs.Shapes.{Text, Many0}
use Rattle.ad_grammar_laws.specs.Known.{AreKnown}
use Rattle.ad_grammar.specs.Texts.{Declared, SpellsDeclared, AreDistinct, iri_of, in_force}

-- no declaration of a prefix begins here
abbrev pub IsOver : Text → Type 0
IsOver ts = (rest : Text) → ts ≡ says.Plain (codes "Prefix") ∷ rest → ⊥

-- The token at this place declares a prefix that a declaration before it declares too; those before it declare
-- each prefix once.
pub record IsDeclaredTwice (ts : Text) (at : ℕ) : Type 0 where
  pub before : List Declared
  pub front : Text
  pub rest : Text
  pub prefix : List ℕ
  pub iri : List ℕ
  pub is : ts ≡ front ++ says.Plain (codes "Prefix") ∷ says.Left ∷ says.Short prefix [] ∷ rest
  pub spelled : Many0 SpellsDeclared before front
  pub once : AreDistinct before
  pub again : iri_of before prefix ≡ Some iri
  pub place : at ≡ length front + 2

-- The token at this place is a name whose prefix is neither declared nor standard. It is the first such name, and
-- each prefix is declared once.
pub record IsUnknown (ts : Text) (at : ℕ) : Type 0 where
  pub declared : List Declared
  pub front : Text
  pub names : Text
  pub prefix : List ℕ
  pub local : List ℕ
  pub rest : Text
  pub is : ts ≡ front ++ (names ++ says.Short prefix local ∷ rest)
  pub spelled : Many0 SpellsDeclared declared front
  pub once : AreDistinct declared
  pub over : IsOver (names ++ says.Short prefix local ∷ rest)
  pub known : AreKnown (in_force declared) names
  pub unknown : in_force declared prefix ≡ None
  pub place : at ≡ length front + length names
