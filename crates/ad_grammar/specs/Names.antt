-- Names, numbers, literals, individuals and object properties, as tokens spell them.
use Rattle.std.specs.Prelude.{◌≡◌, ◌≢◌, ℕ, ◌≤◌, List, [], ◌∷◌, ◌++◌, Option, None, Some}
use Rattle.std.specs.Str.Parse.{IsNumeral, digits_value}
use Rattle.ad_lex.specs.Lexemes.{Lexeme}
use Rattle.ad_lex.specs.Lexemes as says
use Rattle.ad_write.specs.Keywords as kw
use Rattle.ad_tree.specs.declared.names.ObjProp.{ObjProp}
use Rattle.ad_tree.specs.declared.names.ObjProp.TheVariants as props
use Rattle.ad_tree.specs.declared.names.Individual.{Individual}
use Rattle.ad_tree.specs.declared.names.Individual.TheVariants as individuals
use Rattle.ad_tree.specs.declared.literals.Literal.{Literal}
use Rattle.ad_tree.specs.declared.literals.Literal.TheVariants as literals
use Rattle.ad_tree.specs.declared.literals.Facet.{Facet}
use Rattle.ad_tree.specs.declared.notes.Subject.{Subject}
use Rattle.ad_tree.specs.declared.notes.Subject.TheVariants as subjects
use Rattle.ad_tree.specs.declared.notes.Value.{Value}
use Rattle.ad_tree.specs.declared.notes.Value.TheVariants as values
use Rattle.ad_entity.specs.declared.entities.Entity.{Entity}
use Rattle.ad_write.specs.Canonical.{entity_kind_word}
use Rattle.ad_grammar.specs.Shapes.{Text, Then, Compound}

-- the prefixes in force, each with the IRI that it stands for
abbrev pub Words : Type 0
Words = List ℕ → Option (List ℕ)

-- an IRI with a local part behind it
abbrev pub followed_by : List ℕ → Option (List ℕ) → Option (List ℕ)
followed_by local None = None
followed_by local (Some iri) = Some (iri ++ local)

-- the IRI that a token names: one in full, or a prefix's IRI followed by a local part
abbrev pub names : Words → Lexeme → Option (List ℕ)
names words (says.Iri name) = Some name
names words (says.Short prefix local) = followed_by local (words prefix)
names words _ = None

abbrev pub IsName : Words → List ℕ → Text → Type 0
IsName words name ts = (l : Lexeme) × (ts ≡ l ∷ []) × (names words l ≡ Some name)

-- a word of digits, with leading zeros or without, whose value fits 32 bits
abbrev pub IsNumber : ℕ → Text → Type 0
IsNumber n ts = (digits : List ℕ) × (ts ≡ says.Plain digits ∷ []) × IsNumeral 10 digits × (digits_value 10 digits ≡ n) × (n ≤ 4294967295)

-- the label of an anonymous individual, which isn't empty
abbrev pub IsAnonymous : List ℕ → Text → Type 0
IsAnonymous label ts = (ts ≡ says.Node label ∷ []) × (label ≢ [])

abbrev pub SpellsProperty : Words → ObjProp → Text → Type 0
SpellsProperty words (props.Named name) ts = IsName words name ts
SpellsProperty words (props.Inverse name) ts = Compound kw.ObjectInverseOf (IsName words name) ts

abbrev pub SpellsIndividual : Words → Individual → Text → Type 0
SpellsIndividual words (individuals.Named name) ts = IsName words name ts
SpellsIndividual words (individuals.Anonymous label) ts = IsAnonymous label ts

-- a string alone, with a language tag, or with the name of a datatype behind ^^
abbrev pub SpellsLiteral : Words → Literal → Text → Type 0
SpellsLiteral words (literals.Plain text) ts = ts ≡ says.Text text ∷ []
SpellsLiteral words (literals.Lang text tag) ts = ts ≡ says.Text text ∷ says.Lang tag ∷ []
SpellsLiteral words (literals.Typed text datatype) ts = (name : Text) × (ts ≡ says.Text text ∷ says.Carets ∷ name) × IsName words datatype name

-- a facet's IRI and its value
abbrev pub SpellsFacet : Words → Facet → Text → Type 0
SpellsFacet words f ts = Then (IsName words f.facet) (SpellsLiteral words f.value) ts

abbrev pub SpellsSubject : Words → Subject → Text → Type 0
SpellsSubject words (subjects.Iri name) ts = IsName words name ts
SpellsSubject words (subjects.Anonymous label) ts = IsAnonymous label ts

abbrev pub SpellsValue : Words → Value → Text → Type 0
SpellsValue words (values.Iri name) ts = IsName words name ts
SpellsValue words (values.Anonymous label) ts = IsAnonymous label ts
SpellsValue words (values.Literal literal) ts = SpellsLiteral words literal ts

-- the keyword of the entity's kind, and its IRI between parentheses
abbrev pub SpellsEntity : Words → Entity → Text → Type 0
SpellsEntity words e ts = Compound (entity_kind_word e.kind) (IsName words e.name) ts
