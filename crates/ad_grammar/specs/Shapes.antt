-- The shapes that phrases are made of, as relations on lists of tokens without their places.
use Rattle.std.specs.Prelude.{◌≡◌, ℕ, List, [], ◌∷◌, ◌++◌, Option, None, Some}
use Rattle.ad_lex.specs.Lexemes.{Lexeme}
use Rattle.ad_lex.specs.Lexemes as says

abbrev pub Text : Type 0
Text = List Lexeme

-- one after the other
abbrev pub Then : (Text → Type 0) → (Text → Type 0) → Text → Type 0
Then first second ts = (a : Text) × (b : Text) × (ts ≡ a ++ b) × first a × second b

-- between parentheses
abbrev pub Group : (Text → Type 0) → Text → Type 0
Group inside ts = (inner : Text) × (ts ≡ says.Left ∷ (inner ++ says.Right ∷ [])) × inside inner

-- a keyword, and its arguments between parentheses
abbrev pub Compound : List ℕ → (Text → Type 0) → Text → Type 0
Compound word arguments ts = (inner : Text) × (ts ≡ says.Plain word ∷ says.Left ∷ (inner ++ says.Right ∷ [])) × arguments inner

-- each member of a list, one after the other
abbrev pub Many0 : {X : Type 0} → (X → Text → Type 0) → List X → Text → Type 0
Many0 spells [] ts = ts ≡ []
Many0 spells (x ∷ xs) ts = Then (spells x) (Many0 spells xs) ts

-- the same, of at least one
abbrev pub Many1 : {X : Type 0} → (X → Text → Type 0) → List X → Text → Type 0
Many1 spells [] ts = ⊥
Many1 spells (x ∷ xs) ts = Then (spells x) (Many0 spells xs) ts

-- what may be absent
abbrev pub Optional : {X : Type 0} → (X → Text → Type 0) → Option X → Text → Type 0
Optional spells None ts = ts ≡ []
Optional spells (Some x) ts = spells x ts
