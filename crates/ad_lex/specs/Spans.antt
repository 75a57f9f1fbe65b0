-- Where a text's tokens stand in it.
use Rattle.std.specs.Prelude.{ℕ, ◌<◌, ◌≤◌, List, length, slice_range}
use Rattle.std.specs.List.{All, AllPairs}
use Rattle.std.specs.Str.{IsUtf8}
use Rattle.ad_lex.specs.declared.token.Token.{Token}
use Rattle.ad_lex.specs.Shapes.{HasShape}

-- the bytes of a token in its text
abbrev pub span : List ℕ → Token → List ℕ
span text t = slice_range text t.from t.to

-- the token stands in the text, isn't empty, and its bytes are text of the shape of its mark
pub record IsTokenOf (text : List ℕ) (t : Token) : Type 0 where
  pub some : t.from < t.to
  pub within : t.to ≤ length text
  pub shape : HasShape t.mark (span text t)
  pub utf8 : IsUtf8 (span text t)

abbrev pub AreTokensOf : List ℕ → List Token → Type 0
AreTokensOf text ts = All (IsTokenOf text) ts

-- each token ends before each later one begins
abbrev pub AreInOrder : List Token → Type 0
AreInOrder ts = AllPairs (λ t u. t.to ≤ u.from) ts
