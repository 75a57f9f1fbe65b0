-- Lines of words.
use Rattle.std.specs.Prelude.{ℕ, List, [], ◌∷◌, ◌++◌}

-- words behind others on a line: a space before each, and a line feed
abbrev pub behind : List (List ℕ) → List ℕ
behind [] = 10 ∷ []
behind (word ∷ words) = 32 ∷ word ++ behind words

-- words with one space between them, and a line feed
abbrev pub line_of : List (List ℕ) → List ℕ
line_of [] = 10 ∷ []
line_of (word ∷ words) = word ++ behind words
