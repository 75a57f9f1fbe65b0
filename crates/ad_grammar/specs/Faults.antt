-- The first fault of a text, whatever its prefixes stand for.
use Rattle.std.specs.Prelude.{◌≡◌, ℕ, ◌+◌, ◌<◌, ◌≤◌, Bool, true, false, List, ◌++◌, length, take, IsTrue}
use Rattle.ad_tree.specs.Logical.{is_logical}
use Rattle.ad_tree.specs.declared.names.ObjProp.{ObjProp}
use Rattle.ad_tree.specs.declared.names.Individual.{Individual}
use Rattle.ad_tree.specs.declared.literals.Literal.{Literal}
use Rattle.ad_entity.specs.declared.entities.Entity.{Entity}
use Rattle.ad_tree.specs.declared.edits.Sign.{Sign}
use Rattle.ad_tree.specs.declared.ranges.Range.{Range}
use Rattle.ad_tree.specs.declared.classes.Class.{Class}
use Rattle.ad_tree.specs.declared.axioms.Noted.{Noted}
use Rattle.ad_grammar.specs.Shapes.{Text, Many0}
use Rattle.ad_grammar.specs.Names.{Words, SpellsProperty, SpellsIndividual, SpellsLiteral, SpellsEntity}
use Rattle.ad_grammar.specs.Phrases.{SpellsRange, SpellsClass}
use Rattle.ad_grammar.specs.Axioms.{SpellsNoted}
use Rattle.ad_grammar.specs.Texts.{Declared, Behind, Ontology, Signed, IsRule, sign_of}

-- an axiom, or in the wide grammar a rule
pub data Statement : Type 0 where
  stated : (noted : Noted) → Statement
  rule : Statement

abbrev pub SpellsStatement : Bool → Words → Statement → Text → Type 0
SpellsStatement w words (stated noted) ts = SpellsNoted w words noted ts
SpellsStatement true words rule ts = IsRule ts
SpellsStatement false words rule ts = ⊥

abbrev pub IsLogicalStatement : Statement → Type 0
IsLogicalStatement (stated noted) = IsTrue (is_logical noted.axiom)
IsLogicalStatement rule = Unit {0}

abbrev pub SpellsSigned : Bool → Words → Sign × Statement → Text → Type 0
SpellsSigned w words signed ts = Signed (sign_of signed.0) (SpellsStatement w words signed.1) ts

-- what a text may be: a phrase, or a whole text
pub data Form : Type 0 where
  class : Form
  range : Form
  property : Form
  individual : Form
  literal : Form
  document : Form
  edit : Form
  seed : Form
  single : Form

-- a text of a form, with some trees and some meaning of the prefixes; the flag asks for the wide grammar
abbrev pub IsOf : Bool → Form → Text → Type 0
IsOf w class ts = (words : Words) × (x : Class) × SpellsClass w words x ts
IsOf w range ts = (words : Words) × (x : Range) × SpellsRange words x ts
IsOf w property ts = (words : Words) × (x : ObjProp) × SpellsProperty words x ts
IsOf w individual ts = (words : Words) × (x : Individual) × SpellsIndividual words x ts
IsOf w literal ts = (words : Words) × (x : Literal) × SpellsLiteral words x ts
IsOf w document ts = (words : Words) × (declared : List Declared) × (statements : List Statement) × Behind declared (Ontology w words (Many0 (SpellsStatement w words) statements)) ts
IsOf w edit ts = (words : Words) × (declared : List Declared) × (statements : List (Sign × Statement)) × Behind declared (Many0 (SpellsSigned w words) statements) ts
IsOf w seed ts = (words : Words) × (declared : List Declared) × (entities : List Entity) × Behind declared (Many0 (SpellsEntity words) entities) ts
IsOf w single ts = (words : Words) × (declared : List Declared) × (statement : Statement) × IsLogicalStatement statement × Behind declared (SpellsStatement w words statement) ts

-- these tokens begin such a text
abbrev pub Begins : Bool → Form → Text → Type 0
Begins w form ts = (more : Text) × IsOf w form (ts ++ more)

-- The first fault: the first token such that the tokens up to and with it begin no text of the form. The end of the
-- text counts as one more token.
pub record IsFirstFault (form : Form) (ts : Text) (at : ℕ) : Type 0 where
  pub within : at ≤ length ts
  pub before : Begins false form (take at ts)
  pub token : at < length ts → Begins false form (take (at + 1) ts) → ⊥
  pub end : at ≡ length ts → IsOf false form ts → ⊥

-- the tokens up to and with this one begin a text of the wide grammar
abbrev pub IsWide : Form → Text → ℕ → Type 0
IsWide form ts at = (at < length ts) × Begins true form (take (at + 1) ts)

-- a flag that says whether something holds
abbrev pub Tells : Bool → Type 0 → Type 0
Tells true P = P
Tells false P = P → ⊥

-- The longest front that begins a phrase of the form, where it is one: with the token behind it none begins. So a string
-- that ^^ follows is a part of a longer phrase, or of none.
pub record IsLongest (form : Form) (ts : Text) (to : ℕ) : Type 0 where
  pub within : to ≤ length ts
  pub phrase : IsOf false form (take to ts)
  pub over : to < length ts → Begins false form (take (to + 1) ts) → ⊥

-- no phrase of the form begins here
abbrev pub IsNoPhrase : Form → Text → Type 0
IsNoPhrase form ts = (to : ℕ) → IsLongest form ts to → ⊥
