-- The tokens at the front of a text, and what stands behind them.
use Rattle.std.proofs.Common.{◌≡◌, ℕ, List, [], ◌∷◌, ◌++◌, length, take, drop, refl, sym, ◌∙◌, ap, subst, append_assoc}
use Rattle.std.specs.List.{AllPass}
use Rattle.std.proofs.lemmas.List.{take_at, drop_at}
use Rattle.ad_lex.specs.declared.token.Mark.{Mark}
use Rattle.ad_lex.specs.declared.token.Mark.TheVariants as mark
use Rattle.ad_lex.specs.declared.front.Front.{Front}
use Rattle.ad_lex.specs.declared.front.Front.TheVariants.{Skips, Takes}
use Rattle.ad_lex.specs.Characters.{kind_of, is_iri}
use Rattle.ad_lex.specs.Fronts.{front}
use Rattle.ad_lex.specs.Lexemes.{Lexeme, lexeme_of, string_value}
use Rattle.ad_lex.specs.Lexemes as says
use Rattle.ad_lex.specs.Shapes.{HasShape, inner}
use Rattle.ad_lex.specs.Says.{Says, says_over, says_skips, says_takes, EndsBefore, escaped}
use Rattle.ad_lex.proofs.Pieces.{inner_between, iri_shape, text_shape}
use Rattle.ad_lex.proofs.Writing.{front_of}
use Rattle.ad_lex.proofs.Sayings.{escaped_len, value_escaped}
use Rattle.ad_grammar.specs.Shapes.{Text}

-- at the front of the text stand these tokens, and behind them the rest
pub data Spans : List ℕ → Text → List ℕ → Type 0 where
  done : (text : List ℕ) → Spans text [] text
  skips : (n : ℕ) (text : List ℕ) (ls : Text) (rest : List ℕ) → front text ≡ Skips n → Spans (drop n text) ls rest → Spans text ls rest
  takes : (n : ℕ) (m : Mark) (text : List ℕ) (ls : Text) (rest : List ℕ) → front text ≡ Takes m n → Spans (drop n text) ls rest → Spans text (lexeme_of m (take n text) ∷ ls) rest

pub joined : {a : List ℕ} {xs : Text} {b : List ℕ} {ys : Text} {c : List ℕ} → Spans a xs b → Spans b ys c → Spans a (xs ++ ys) c
joined {a} {xs} {b} {ys} {c} (done text) t = t
joined {a} {xs} {b} {ys} {c} (skips n text ls rest e s) t = skips n text (ls ++ ys) c e (joined s t)
joined {a} {xs} {b} {ys} {c} (takes n m text ls rest e s) t = takes n m text (ls ++ ys) c e (joined s t)

-- what the text says, where its rest says something
pub spans_says : {text : List ℕ} {ls : Text} {rest : List ℕ} (more : Text) → Spans text ls rest → Says rest more → Says text (ls ++ more)
spans_says more (done text) h = h
spans_says more (skips n text ls rest e s) h = says_skips n text (ls ++ more) e (spans_says more s h)
spans_says more (takes n m text ls rest e s) h = says_takes n m text (ls ++ more) e (spans_says more s h)

same_skip : (x : Front) (m n : ℕ) → x ≡ Skips m → x ≡ Skips n → m ≡ n
same_skip x m n e f = cc

same_take : (x : Front) (p q : Mark) (m n : ℕ) → x ≡ Takes p m → x ≡ Takes q n → (p ≡ q) × (m ≡ n)
same_take x p q m n e f = (cc, cc)

-- and what its rest says, where the text says something
pub rest_says : {text : List ℕ} {ls : Text} {rest : List ℕ} {ms : Text} → Spans text ls rest → Says text ms → (more : Text) × (ms ≡ ls ++ more) × Says rest more
rest_says {text} {ls} {rest} {ms} (done _) h = (ms, refl, h)
rest_says (skips n text ls rest e s) (says_over _ f) = cc
rest_says (skips n text ls rest e s) (says_skips k _ ms f h) = rest_says s (subst (λ i. Says (drop i text) ms) (same_skip (front text) k n f e) h)
rest_says (skips n text ls rest e s) (says_takes k p _ ms f h) = cc
rest_says (takes n m text ls rest e s) (says_over _ f) = cc
rest_says (takes n m text ls rest e s) (says_skips k _ ms f h) = cc
rest_says (takes n m text ls rest e s) (says_takes k p _ ms f h) =
    let same = same_take (front text) p m k n f e in
    let known = rest_says s (subst (λ i. Says (drop i text) ms) same.1 h) in
    let others = known.1 in
    (known.0, λ i. lexeme_of (same.0 i) (take (same.1 i) text) ∷ others i, known.2)

-- a token of its shape
pub token : (m : Mark) (bytes rest : List ℕ) → HasShape m bytes → EndsBefore m rest → Spans (bytes ++ rest) (lexeme_of m bytes ∷ []) rest
token m bytes rest shape ends =
    let behind : drop (length bytes) (bytes ++ rest) ≡ rest = drop_at bytes rest (length bytes) refl in
    let at : take (length bytes) (bytes ++ rest) ≡ bytes = take_at bytes rest (length bytes) refl in
    subst (λ xs. Spans (bytes ++ rest) (lexeme_of m xs ∷ []) rest) at
    (takes (length bytes) m (bytes ++ rest) [] rest (front_of m bytes rest shape ends) (subst (λ xs. Spans xs [] rest) (sym behind) (done rest)))

-- an IRI
pub iri : (name rest : List ℕ) → AllPass is_iri name → Spans (60 ∷ (name ++ 62 ∷ rest)) (says.Iri name ∷ []) rest
iri name rest all =
    let bytes : List ℕ = 60 ∷ (name ++ 62 ∷ []) in
    let read = token mark.Iri bytes rest (iri_shape bytes name refl all) tt in
    subst (λ xs. Spans (60 ∷ xs) (says.Iri name ∷ []) rest) (append_assoc name (62 ∷ []) rest)
    (subst (λ v. Spans (bytes ++ rest) (says.Iri v ∷ []) rest) (inner_between 60 62 name) read)

-- a string
pub string : (value rest : List ℕ) → Spans (34 ∷ (escaped value ++ 34 ∷ rest)) (says.Text value ∷ []) rest
string value rest =
    let inside : List ℕ = escaped value in
    let bytes : List ℕ = 34 ∷ (inside ++ 34 ∷ []) in
    let means : string_value (inner bytes) ≡ value = ap string_value (inner_between 34 34 inside) ∙ value_escaped value in
    let read = token mark.Text bytes rest (text_shape bytes inside refl (escaped_len value [])) tt in
    subst (λ xs. Spans (34 ∷ xs) (says.Text value ∷ []) rest) (append_assoc inside (34 ∷ []) rest)
    (subst (λ v. Spans (bytes ++ rest) (says.Text v ∷ []) rest) means read)

-- a space and a line feed say nothing
space_front : (rest : List ℕ) → front (32 ∷ rest) ≡ Skips 1
unfolding front kind_of
space_front rest = refl

line_front : (rest : List ℕ) → front (10 ∷ rest) ≡ Skips 1
unfolding front kind_of
line_front rest = refl

pub space : {ls : Text} {text rest : List ℕ} → Spans text ls rest → Spans (32 ∷ text) ls rest
space {ls} {text} {rest} s = skips 1 (32 ∷ text) ls rest (space_front text) s

pub line : {ls : Text} {text rest : List ℕ} → Spans text ls rest → Spans (10 ∷ text) ls rest
line {ls} {text} {rest} s = skips 1 (10 ∷ text) ls rest (line_front text) s

pub left : {ls : Text} {text rest : List ℕ} → Spans text ls rest → Spans (40 ∷ text) (says.Left ∷ ls) rest
left {ls} {text} {rest} s = joined (token mark.Left (40 ∷ []) text refl tt) s

pub right : (rest : List ℕ) → Spans (41 ∷ rest) (says.Right ∷ []) rest
right rest = token mark.Right (41 ∷ []) rest refl tt
