-- What is proved of every text.
use Rattle.std.specs.Prelude.{◌≡◌, ◌≢◌, ◌⊎◌, ℕ, List}
use Rattle.ad_grammar.specs.Faults.{Form}
use Rattle.ad_grammar.specs.Shapes.{Text}
use Rattle.ad_grammar.specs.Texts.{Declared}
use Rattle.ad_read.specs.Outcome.{Refuses}
use Rattle.ad_read.specs.Texts.{IsText}
use Rattle.ad_read.specs.declared.texts.ReadRefused.{ReadRefused}
use Rattle.ad_read.specs.declared.texts.ReadRefused.TheVariants.{Memory}

-- a text of the form spells one thing at most
abbrev pub SpellsOnce : {X : Type 0} → Form → (List Declared → X → Text → Type 0) → Type 0
SpellsOnce {X} form spells = (limit : ℕ) (text : List ℕ) (x y : X) → IsText form spells limit text x → IsText form spells limit text y → x ≡ y

-- one that spells something has no cause to be refused
abbrev pub IsNotRefused : {X : Type 0} → Form → (List Declared → X → Text → Type 0) → Type 0
IsNotRefused {X} form spells = (limit : ℕ) (text : List ℕ) (x : X) (refused : ReadRefused) → IsText form spells limit text x → Refuses form limit text refused → refused ≡ Memory

-- and a text has one cause to be refused at most, want of memory aside
abbrev pub IsRefusedOnce : Type 0
IsRefusedOnce = (form : Form) (limit : ℕ) (text : List ℕ) (a b : ReadRefused) → a ≢ Memory → b ≢ Memory → Refuses form limit text a → Refuses form limit text b → a ≡ b

-- and each text spells something, or has a cause to be refused
abbrev pub SpellsOrIsRefused : {X : Type 0} → Form → (List Declared → X → Text → Type 0) → Type 0
SpellsOrIsRefused {X} form spells = (limit : ℕ) (text : List ℕ) → ((x : X) × IsText form spells limit text x) ⊎ ((refused : ReadRefused) × (refused ≢ Memory) × Refuses form limit text refused)
