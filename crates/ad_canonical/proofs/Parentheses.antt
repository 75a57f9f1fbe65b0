-- Tokens whose parentheses match.
use Rattle.std.proofs.Common.{◌≡◌, ℕ, zero, suc, List, [], ◌∷◌, ◌++◌, Option, None, Some, refl, ◌∙◌, ap, append_assoc}
use Rattle.ad_lex.specs.Lexemes.{Lexeme}
use Rattle.ad_lex.specs.Lexemes as says
use Rattle.ad_grammar.specs.Shapes.{Text}

-- what stands behind the parenthesis that closes an open one, in which so many more are open
pub closes : Text → ℕ → Option Text
closes [] n = None
closes (says.Left ∷ ts) n = closes ts (suc n)
closes (says.Right ∷ ts) zero = Some ts
closes (says.Right ∷ ts) (suc n) = closes ts n
closes (_ ∷ ts) n = closes ts n

-- parentheses match
abbrev pub Match : Text → Type 0
Match ts = (n : ℕ) (more : Text) → closes (ts ++ more) n ≡ closes more n

pub none : Match []
none n more = refl

pub both : (xs ys : Text) → Match xs → Match ys → Match (xs ++ ys)
both xs ys f g n more = ap (λ ts. closes ts n) (append_assoc xs ys more) ∙ f n (ys ++ more) ∙ g n more

-- tokens between parentheses
inside : (inner more : Text) → (inner ++ says.Right ∷ []) ++ more ≡ inner ++ says.Right ∷ more
inside inner more = append_assoc inner (says.Right ∷ []) more

pub between : (inner : Text) → Match inner → Match (says.Left ∷ (inner ++ says.Right ∷ []))
unfolding closes
between inner f n more = ap (λ ts. closes ts (suc n)) (inside inner more) ∙ f (suc n) (says.Right ∷ more)

-- what stands behind a phrase that is a keyword with its arguments
pub behind : Text → Option Text
behind (word ∷ says.Left ∷ ts) = closes ts 0
behind _ = None

pub behind_compound : (word : List ℕ) (inner more : Text) → Match inner → behind ((says.Plain word ∷ says.Left ∷ (inner ++ says.Right ∷ [])) ++ more) ≡ Some more
unfolding closes behind
behind_compound word inner more f = ap (λ ts. closes ts 0) (inside inner more) ∙ f 0 (says.Right ∷ more)

pub word : (w : List ℕ) → Match (says.Plain w ∷ [])
unfolding closes
word w n more = refl

pub iri : (name : List ℕ) → Match (says.Iri name ∷ [])
unfolding closes
iri name n more = refl

pub node : (label : List ℕ) → Match (says.Node label ∷ [])
unfolding closes
node label n more = refl

pub string : (value : List ℕ) → Match (says.Text value ∷ [])
unfolding closes
string value n more = refl

pub tag : (t : List ℕ) → Match (says.Lang t ∷ [])
unfolding closes
tag t n more = refl

pub carets : Match (says.Carets ∷ [])
unfolding closes
carets n more = refl
