-- What is proved of every phrase.
use Rattle.std.specs.Prelude.{◌≡◌, ◌≢◌, ◌⊎◌, ℕ, List, drop}
use Rattle.ad_lex.specs.Lexemes.{lexemes}
use Rattle.ad_lex.specs.declared.token.Token.{Token}
use Rattle.ad_grammar.specs.Shapes.{Text}
use Rattle.ad_grammar.specs.Names.{Words}
use Rattle.ad_grammar.specs.Faults.{Form}
use Rattle.ad_phrases.specs.Phrases.{HasPhrase, IsBuilt, RefusesPhrase}
use Rattle.ad_phrases.specs.declared.phrases.BuildRefused.{BuildRefused}
use Rattle.ad_phrases.specs.declared.phrases.BuildRefused.TheVariants.{Memory}

-- what is built from a token on is one tree, and ends before one token
abbrev pub IsBuiltOnce : {X : Type 0} → Form → (Words → X → Text → Type 0) → Type 0
IsBuiltOnce {X} form spells = (words : Words) (ts : Text) (from : ℕ) (x y : X) (to other : ℕ) → IsBuilt form (spells words) ts from x to → IsBuilt form (spells words) ts from y other → (x ≡ y) × (to ≡ other)

-- there is no cause then to refuse it
abbrev pub IsNotRefused : {X : Type 0} → Form → (Words → X → Text → Type 0) → Type 0
IsNotRefused {X} form spells = (words : Words) (text : List ℕ) (tokens : List Token) (from : ℕ) (x : X) (to : ℕ) (refused : BuildRefused) → IsBuilt form (spells words) (lexemes text tokens) from x to → RefusesPhrase form words text tokens from refused → refused ≡ Memory

-- and there is one cause at most, want of memory aside
abbrev pub IsRefusedOnce : Type 0
IsRefusedOnce = (form : Form) (words : Words) (text : List ℕ) (tokens : List Token) (from : ℕ) (a b : BuildRefused) → a ≢ Memory → b ≢ Memory → RefusesPhrase form words text tokens from a → RefusesPhrase form words text tokens from b → a ≡ b

-- and where a phrase begins, a tree is built from it, or there is a cause to refuse it
abbrev pub IsBuiltOrRefused : {X : Type 0} → Form → (Words → X → Text → Type 0) → Type 0
IsBuiltOrRefused {X} form spells = (words : Words) (text : List ℕ) (tokens : List Token) (from : ℕ) → HasPhrase form (drop from (lexemes text tokens)) → ((x : X) × (to : ℕ) × IsBuilt form (spells words) (lexemes text tokens) from x to) ⊎ ((refused : BuildRefused) × (refused ≢ Memory) × RefusesPhrase form words text tokens from refused)
