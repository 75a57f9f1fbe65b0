-- Laws of the grammar and its first fault.
use Rattle.std.specs.Prelude.{◌≡◌, ℕ, false, List}
use Rattle.ad_entity.specs.declared.entities.Entity.{Entity}
use Rattle.ad_tree.specs.declared.edits.Op.{Op}
use Rattle.ad_tree.specs.declared.axioms.Noted.{Noted}
use Rattle.ad_grammar.specs.Shapes.{Text}
use Rattle.ad_grammar.specs.Texts.{Declared, SpellsDocument, SpellsEdit, SpellsSeed, SpellsSingle}
use Rattle.ad_grammar.specs.Faults.{Form, document, edit, seed, single, IsOf, IsFirstFault}
use Rattle.ad_grammar.specs.Nesting.{nesting, IsNesting}

-- what spells a document, an edit, a seed or a single axiom is a text of that form
pub record SpelledIsOf : Type 0 where
  pub documents : (declared : List Declared) (axioms : List Noted) (ts : Text) → SpellsDocument declared axioms ts → IsOf false document ts
  pub edits : (declared : List Declared) (ops : List Op) (ts : Text) → SpellsEdit declared ops ts → IsOf false edit ts
  pub seeds : (declared : List Declared) (entities : List Entity) (ts : Text) → SpellsSeed declared entities ts → IsOf false seed ts
  pub singles : (declared : List Declared) (noted : Noted) (ts : Text) → SpellsSingle declared noted ts → IsOf false single ts

-- a text with a first fault is none of the form
abbrev pub FaultIsInNone : Type 0
FaultIsInNone = (form : Form) (ts : Text) (at : ℕ) → IsFirstFault form ts at → IsOf false form ts → ⊥

-- there is one first fault at most
abbrev pub OneFirstFault : Type 0
OneFirstFault = (form : Form) (ts : Text) (at other : ℕ) → IsFirstFault form ts at → IsFirstFault form ts other → at ≡ other

-- the function for the nesting is what the nesting is
abbrev pub NestingIs : Type 0
NestingIs = (ts : Text) → IsNesting ts (nesting ts)
