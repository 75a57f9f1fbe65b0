-- Texts that are written for phrases of the grammar, and the shapes that they are put together from.
use Rattle.std.proofs.Common.{◌≡◌, ℕ, true, false, List, [], ◌∷◌, ◌++◌, map, Option, None, Some, IfSome, IsUtf8, refl, sym, ◌∙◌, ap, subst, append_assoc, arith}
use Rattle.std.specs.List.{join_with_byte, AllByRecursion}
use Rattle.std.specs.Option.{option_map, option_to_list}
use Rattle.std.proofs.lemmas.Str.{IsUtf8-append, IsUtf8-nil}
use Rattle.ad_lex.specs.declared.token.Mark.TheVariants as mark
use Rattle.ad_lex.specs.Characters.{kind_of}
use Rattle.ad_lex.specs.Lexed.{start}
use Rattle.ad_lex.specs.Lexemes as says
use Rattle.ad_lex.specs.Says.{begins_word}
use Rattle.ad_lex.proofs.Keywords.{plain_shape}
use Rattle.ad_write.specs.Canonical.{compound, group}
use Rattle.ad_grammar.specs.Shapes.{Text, Then, Compound, Group, Many0, Many1, Optional}
use Rattle.ad_grammar.specs.Names.{Words}
use Rattle.ad_canonical.specs.Spellable.{EachOfSome}
use Rattle.ad_canonical.proofs.Keywords.{IsWord, word_from, is_word, byte_utf8}
use Rattle.ad_canonical.proofs.Parentheses.{Match, behind, behind_compound}
use Rattle.ad_canonical.proofs.Parentheses as match
use Rattle.ad_canonical.proofs.Spans.{Spans, done, joined, token, space, left, right}

-- what a text spells whatever prefixes are in force
abbrev pub Phrase : Type 1
Phrase = Words → Text → Type 0

-- a text that is written for a phrase, before what goes on no word
pub record Written (text : List ℕ) (P : Phrase) : Type 0 where
  pub tokens : Text
  pub utf8 : IsUtf8 text
  pub spans : (rest : List ℕ) → begins_word rest ≡ false → Spans (text ++ rest) tokens rest
  pub matching : Match tokens
  pub spelled : (words : Words) → P words tokens

-- texts that are written with a space between them
abbrev pub Arguments : List (List ℕ) → Phrase → Type 0
Arguments texts P = Written (join_with_byte 32 texts) P

-- a text that ends with a parenthesis, and so may stand before anything
pub record Closed (text : List ℕ) (P : Phrase) : Type 0 where
  pub written : Written text P
  pub ends : (rest : List ℕ) → Spans (text ++ rest) written.tokens rest
  pub starts : (rest : List ℕ) → start (text ++ rest) ≡ 0
  pub whole : (more : Text) → behind (written.tokens ++ more) ≡ Some more

-- a phrase that is another one with the same tokens
pub weaken : {text : List ℕ} {P Q : Phrase} → ((words : Words) (ts : Text) → P words ts → Q words ts) → Written text P → Written text Q
weaken h t = record { tokens = t.tokens; utf8 = t.utf8; spans = t.spans; matching = t.matching; spelled = λ words. h words t.tokens (t.spelled words) }

pub weaken_closed : {text : List ℕ} {P Q : Phrase} → ((words : Words) (ts : Text) → P words ts → Q words ts) → Closed text P → Closed text Q
unfolding weaken
weaken_closed h t = record { written = weaken h t.written; ends = t.ends; starts = t.starts; whole = t.whole }

pub at_text : {P : Phrase} {x y : List ℕ} → y ≡ x → Written x P → Written y P
at_text {P} {x} {y} e t = subst (λ text. Written text P) (sym e) t

no_word_space : (rest : List ℕ) → begins_word (32 ∷ rest) ≡ false
unfolding kind_of
no_word_space rest = refl

no_word_right : (rest : List ℕ) → begins_word (41 ∷ rest) ≡ false
unfolding kind_of
no_word_right rest = refl

pub no_word_left : (rest : List ℕ) → begins_word (40 ∷ rest) ≡ false
unfolding kind_of
no_word_left rest = refl

-- no argument
pub none : Arguments [] (λ words ts. ts ≡ [])
none = record { tokens = []; utf8 = IsUtf8-nil; spans = λ rest h. done rest; matching = match.none; spelled = λ words. refl }

-- an argument and those behind it
module _ {P Q : Phrase} (x : List ℕ) (t : Written x P) where
  pub next : (ys : List (List ℕ)) → Arguments ys Q → Arguments (x ∷ ys) (λ words. Then (P words) (Q words))
  next [] u = record {
    tokens = t.tokens ++ u.tokens;
    utf8 = t.utf8;
    spans = λ rest h. joined (t.spans rest h) (u.spans rest h);
    matching = match.both t.tokens u.tokens t.matching u.matching;
    spelled = λ words. (t.tokens, u.tokens, refl, t.spelled words, u.spelled words);
  }
  next (y ∷ ys) u =
      let others : List ℕ = join_with_byte 32 (y ∷ ys) in
      record {
        tokens = t.tokens ++ u.tokens;
        utf8 = IsUtf8-append x (32 ∷ others) t.utf8 (IsUtf8-append (32 ∷ []) others (byte_utf8 32 (omega arith)) u.utf8);
        spans = λ rest h.
            subst (λ text. Spans text (t.tokens ++ u.tokens) rest) (sym (append_assoc x (32 ∷ others) rest))
            (joined (t.spans (32 ∷ (others ++ rest)) (no_word_space (others ++ rest))) (space (u.spans rest h)));
        matching = match.both t.tokens u.tokens t.matching u.matching;
        spelled = λ words. (t.tokens, u.tokens, refl, t.spelled words, u.spelled words);
      }

-- the last argument
pub last : {P : Phrase} (x : List ℕ) → Written x P → Arguments (x ∷ []) P
last x t = t

-- what may be absent
pub optional : {X : Type 0} (S : Words → X → Text → Type 0) (f : X → List ℕ) (o : Option X) → IfSome o (λ x. Written (f x) (λ words. S words x)) → Arguments (option_to_list (option_map f o)) (λ words. Optional (S words) o)
optional S f None h = none
optional S f (Some x) h = h

-- any number of arguments
pub many0 : {X : Type 0} (S : Words → X → Text → Type 0) (f : X → List ℕ) (xs : List X) → AllByRecursion (λ x. Written (f x) (λ words. S words x)) xs → Arguments (map f xs) (λ words. Many0 (S words) xs)
many0 S f [] h = none
many0 S f (x ∷ xs) h = next (f x) h.0 (map f xs) (many0 S f xs h.1)

pub many1 : {X : Type 0} (S : Words → X → Text → Type 0) (f : X → List ℕ) (xs : List X) → EachOfSome (λ x. Written (f x) (λ words. S words x)) xs → Arguments (map f xs) (λ words. Many1 (S words) xs)
many1 S f [] h = absurd h
many1 S f (x ∷ xs) h = next (f x) h.0 (map f xs) (many0 S f xs h.1)

-- any number of arguments, and others behind them
first_none : {Q : Text → Type 0} {X : Type 0} (spells : X → Text → Type 0) (ts : Text) → Q ts → Then (Many0 spells []) Q ts
first_none spells ts h = ([], ts, refl, refl, h)

regrouped : {Q : Text → Type 0} {X : Type 0} (spells : X → Text → Type 0) (x : X) (xs : List X) (ts : Text) → Then (spells x) (Then (Many0 spells xs) Q) ts → Then (Many0 spells (x ∷ xs)) Q ts
regrouped spells x xs ts (a, b, e, h, (c, d, f, i, j)) = (a ++ c, d, e ∙ ap (λ r. a ++ r) f ∙ sym (append_assoc a c d), (a, c, refl, h, i), j)

pub many_then : {X : Type 0} (S : Words → X → Text → Type 0) {Q : Phrase} (f : X → List ℕ) (xs : List X) → AllByRecursion (λ x. Written (f x) (λ words. S words x)) xs → (ys : List (List ℕ)) → Arguments ys Q → Arguments (map f xs ++ ys) (λ words. Then (Many0 (S words) xs) (Q words))
many_then S f [] h ys t = weaken (λ words ts q. first_none (S words) ts q) t
many_then S f (x ∷ xs) h ys t = weaken (λ words ts q. regrouped (S words) x xs ts q) (next (f x) h.0 (map f xs ++ ys) (many_then S f xs h.1 ys t))

-- arguments between parentheses, before anything
between : {P : Phrase} (texts : List (List ℕ)) (t : Arguments texts P) (rest : List ℕ) → Spans (40 ∷ ((join_with_byte 32 texts ++ 41 ∷ []) ++ rest)) (says.Left ∷ (t.tokens ++ says.Right ∷ [])) rest
between texts t rest =
    let inner : List ℕ = join_with_byte 32 texts in
    subst (λ text. Spans (40 ∷ text) (says.Left ∷ (t.tokens ++ says.Right ∷ [])) rest) (sym (append_assoc inner (41 ∷ []) rest))
    (left (joined (t.spans (41 ∷ rest) (no_word_right rest)) (right rest)))

between_utf8 : {P : Phrase} (texts : List (List ℕ)) (t : Arguments texts P) → IsUtf8 (40 ∷ (join_with_byte 32 texts ++ 41 ∷ []))
between_utf8 texts t = IsUtf8-append (40 ∷ []) (join_with_byte 32 texts ++ 41 ∷ []) (byte_utf8 40 (omega arith)) (IsUtf8-append (join_with_byte 32 texts) (41 ∷ []) t.utf8 (byte_utf8 41 (omega arith)))

-- a list between parentheses
pub grouped : {P : Phrase} (texts : List (List ℕ)) → Arguments texts P → Written (group texts) (λ words. Group (P words))
grouped texts t = record {
  tokens = says.Left ∷ (t.tokens ++ says.Right ∷ []);
  utf8 = between_utf8 texts t;
  spans = λ rest h. between texts t rest;
  matching = match.between t.tokens t.matching;
  spelled = λ words. (t.tokens, refl, t.spelled words);
}

-- a keyword with its arguments
pub closed : {P : Phrase} (word : List ℕ) → is_word word ≡ true → (texts : List (List ℕ)) → Arguments texts P → Closed (compound word texts) (λ words. Compound word (P words))
closed word h texts t =
    let w : IsWord word = word_from word h in
    let body : List ℕ = 40 ∷ (join_with_byte 32 texts ++ 41 ∷ []) in
    let tokens : Text = says.Plain word ∷ says.Left ∷ (t.tokens ++ says.Right ∷ []) in
    let ends : (rest : List ℕ) → Spans (compound word texts ++ rest) tokens rest =
    λ rest. subst (λ text. Spans text tokens rest) (sym (append_assoc word body rest))
    (joined (token mark.Plain word (body ++ rest) (plain_shape word w.some w.each) (no_word_left ((join_with_byte 32 texts ++ 41 ∷ []) ++ rest))) (between texts t rest)) in
    record {
      written = record {
        tokens = tokens;
        utf8 = IsUtf8-append word body w.utf8 (between_utf8 texts t);
        spans = λ rest h. ends rest;
        matching = match.both (says.Plain word ∷ []) (says.Left ∷ (t.tokens ++ says.Right ∷ [])) (match.word word) (match.between t.tokens t.matching);
        spelled = λ words. (t.tokens, refl, t.spelled words);
      };
      ends = ends;
      starts = λ rest. subst (λ text. start text ≡ 0) (sym (append_assoc word body rest)) (w.starts (body ++ rest));
      whole = λ more. behind_compound word t.tokens more t.matching;
    }

pub phrase : {P : Phrase} (word : List ℕ) → is_word word ≡ true → (texts : List (List ℕ)) → Arguments texts P → Written (compound word texts) (λ words. Compound word (P words))
phrase word h texts t = (closed word h texts t).written
