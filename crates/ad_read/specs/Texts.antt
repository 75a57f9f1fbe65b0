-- Whole texts, as bytes, and what they spell.
use Rattle.std.specs.Prelude.{◌≡◌, ℕ, zero, suc, ◌≤◌, false, List, [], ◌∷◌, length, map}
use Rattle.ad_lex.specs.Lexed.{IsLexed}
use Rattle.ad_lex.specs.Lexemes.{lexemes}
use Rattle.ad_lex.specs.declared.token.Token.{Token}
use Rattle.ad_tree.specs.declared.axioms.Noted.{Noted}
use Rattle.ad_tree.specs.declared.edits.Op.{Op}
use Rattle.ad_entity.specs.declared.entities.Entity.{Entity}
use Rattle.ad_grammar.specs.Shapes.{Text}
use Rattle.ad_grammar.specs.Nesting.{nesting, document_nesting}
use Rattle.ad_grammar.specs.Texts.{Declared, AreDistinct, SpellsDocument, SpellsEdit, SpellsSeed, SpellsSingle}
use Rattle.ad_grammar.specs.Faults.{Form, IsOf, document, edit, seed, single}
use Rattle.ad_build.specs.Lists.{addition}

-- how deep the parentheses of a text of this form nest; those of the ontology don't count
abbrev pub depth : Form → Text → ℕ
depth document ts = document_nesting ts
depth _ ts = nesting ts

-- the text has these tokens, and its nesting is within the limit
pub record IsShallow (form : Form) (limit : ℕ) (text : List ℕ) (tokens : List Token) : Type 0 where
  pub lexed : IsLexed text tokens
  pub within : depth form (lexemes text tokens) ≤ limit

-- the text is of the form, whatever its prefixes stand for
pub record IsFormed (form : Form) (limit : ℕ) (text : List ℕ) (tokens : List Token) : Type 0 where
  pub shallow : IsShallow form limit text tokens
  pub formed : IsOf false form (lexemes text tokens)

-- the text spells this, by a relation between what is declared, what is spelled, and the tokens
pub record IsText {X : Type 0} (form : Form) (spells : List Declared → X → Text → Type 0) (limit : ℕ) (text : List ℕ) (x : X) : Type 0 where
  pub tokens : List Token
  pub shallow : IsShallow form limit text tokens
  pub declared : List Declared
  pub once : AreDistinct declared
  pub spelled : spells declared x (lexemes text tokens)

-- a document's axioms, each as an addition
abbrev pub SpellsAdditions : List Declared → List Op → Text → Type 0
SpellsAdditions declared ops ts = (stated : List Noted) × (ops ≡ map addition stated) × SpellsDocument declared stated ts

abbrev pub IsDocument : ℕ → List ℕ → List Op → Type 0
IsDocument = IsText document SpellsAdditions

abbrev pub IsEdit : ℕ → List ℕ → List Op → Type 0
IsEdit = IsText edit SpellsEdit

abbrev pub IsSeed : ℕ → List ℕ → List Entity → Type 0
IsSeed = IsText seed SpellsSeed

-- one logical axiom
abbrev pub IsSingle : ℕ → List ℕ → Noted → Type 0
IsSingle = IsText single SpellsSingle

-- where the token of this number begins in the text, or the text's length behind the last
abbrev pub place : List ℕ → List Token → ℕ → ℕ
place text [] at = length text
place text (t ∷ ts) zero = t.from
place text (t ∷ ts) (suc at) = place text ts at
