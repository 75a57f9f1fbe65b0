-- What is written of a token's shape is read as that token.
use Rattle.std.proofs.Common.{◌≡◌, ◌≢◌, ℕ, ◌+◌, ◌<◌, ◌≤◌, Bool, true, false, not, cond, ◌==◌, List, [], ◌∷◌, ◌++◌, length, get_or, take, drop, refl, sym, ◌∙◌, ap, subst, arith, length-append, append_assoc, length-take-le}
use Rattle.std.specs.Prelude.{Option, None, Some, nat_lt, codes}
use Rattle.std.specs.List.{prefix_len, position, position_or_len, AllPass}
use Rattle.std.specs.Str.{bytes_eq}
use Rattle.std.proofs.lemmas.Bool.{ne_eqb, cond-true, cond-false, lt-ltb, false_from_ne_true}
use Rattle.std.proofs.lemmas.List.{take_at, drop_at}
use Rattle.std.proofs.lemmas.List.Elements.{All-head, All-tail}
use Rattle.std.proofs.lemmas.List.Sums.{prefix_len-le-length}
use Rattle.ad_lex.specs.declared.token.Mark.{Mark}
use Rattle.ad_lex.specs.declared.token.Mark.TheVariants as mark
use Rattle.ad_lex.specs.declared.front.Front.TheVariants.{Skips, Takes, Char}
use Rattle.ad_lex.specs.declared.kind.CharKind.TheVariants.{Blank, Other}
use Rattle.ad_lex.specs.Characters.{kind_of, is_blank, is_word, is_iri, is_colon}
use Rattle.ad_lex.specs.Fronts.{front, front_by, iri, closed_iri, string, closed_string, string_len, more, lang, word, word_mark, split_mark}
use Rattle.ad_lex.specs.Shapes.{HasShape, IsWord, inner, prefix_of, local_of}
use Rattle.ad_lex.specs.Lexemes.{Lexeme, lexeme_of}
use Rattle.ad_lex.specs.Says.{Says, says_over, says_skips, says_takes, begins_word, EndsBefore}
use Rattle.ad_lex.proofs.Pieces.{bytes_same, over_nil}

-- what passes ends with a text whose first byte doesn't
run_ends : (p : ℕ → Bool) (xs rest : List ℕ) → AllPass p xs → prefix_len p rest ≡ 0 → prefix_len p (xs ++ rest) ≡ length xs
run_ends p [] rest all ends = ends
run_ends p (x ∷ xs) rest all ends =
    let first : p x ≡ true = All-head (λ c. p c ≡ true) x xs all in
    let more : prefix_len p (xs ++ rest) ≡ length xs = run_ends p xs rest (All-tail (λ c. p c ≡ true) x xs all) ends in
    cond-true (p x) (1 + prefix_len p (xs ++ rest)) 0 first ∙ omega arith

no_run : (p : ℕ → Bool) (c : ℕ) (rest : List ℕ) → p c ≡ false → prefix_len p (c ∷ rest) ≡ 0
no_run p c rest h = cond-false (p c) (1 + prefix_len p rest) 0 h

word_ends : (rest : List ℕ) → begins_word rest ≡ false → prefix_len is_word rest ≡ 0
word_ends [] h = refl
word_ends (c ∷ rest) h = no_run is_word c rest h

greater_ends : (rest : List ℕ) → prefix_len is_iri (62 ∷ rest) ≡ 0
unfolding kind_of
greater_ends rest = refl

-- an IRI
iri_front : (xs rest : List ℕ) → AllPass is_iri xs → iri (xs ++ 62 ∷ rest) ≡ Takes mark.Iri (length xs + 2)
iri_front xs rest all =
    let n = run_ends is_iri xs (62 ∷ rest) all (greater_ends rest) in
    ap (λ k. closed_iri k (drop k (xs ++ 62 ∷ rest))) n ∙ ap (closed_iri (length xs)) (drop_at xs (62 ∷ rest) (length xs) refl)

-- a string
more_same : (o q : Option ℕ) (n : ℕ) → ((k : ℕ) → o ≡ Some k → q ≡ Some k) → more o ≡ Some n → more q ≡ Some n
more_same None q n h is = cc
more_same (Some k) q n h is = ap more (h k refl) ∙ is

cond_same : (b : Bool) (o q : Option ℕ) (n : ℕ) → (o ≡ Some n → q ≡ Some n) → cond b (Some 0) o ≡ Some n → cond b (Some 0) q ≡ Some n
cond_same true o q n h is = is
cond_same false o q n h is = h is

len_more : (escapes : Bool) (ys rest : List ℕ) (n : ℕ) → string_len escapes ys ≡ Some n → string_len escapes (ys ++ rest) ≡ Some n
len_more true [] rest n h = cc
len_more false [] rest n h = cc
len_more true (y ∷ ys) rest n h = more_same (string_len false ys) (string_len false (ys ++ rest)) n (len_more false ys rest) h
len_more false (y ∷ ys) rest n h =
    cond_same (y == 34) (more (string_len (y == 92) ys)) (more (string_len (y == 92) (ys ++ rest))) n
    (more_same (string_len (y == 92) ys) (string_len (y == 92) (ys ++ rest)) n (len_more (y == 92) ys rest))
    h

string_front : (xs rest : List ℕ) → string_len false (xs ++ 34 ∷ []) ≡ Some (length xs) → string (xs ++ 34 ∷ rest) ≡ Takes mark.Text (length xs + 2)
string_front xs rest closed =
    let whole : (xs ++ 34 ∷ []) ++ rest ≡ xs ++ 34 ∷ rest = append_assoc xs (34 ∷ []) rest in
    ap closed_string (ap (string_len false) (sym whole) ∙ len_more false (xs ++ 34 ∷ []) rest (length xs) closed)

-- a language tag
lang_front : (xs rest : List ℕ) → 0 < length xs → AllPass is_word xs → begins_word rest ≡ false → lang (xs ++ rest) ≡ Takes mark.Lang (length xs + 1)
lang_front xs rest some all ends =
    let n = run_ends is_word xs rest all (word_ends rest ends) in
    let ne : length xs == 0 ≡ false = ne_eqb (length xs) 0 (λ e. omega arith) in
    ap (λ k. cond (k == 0) Char (Takes mark.Lang (k + 1))) n ∙ cond-false (length xs == 0) Char (Takes mark.Lang (length xs + 1)) ne

-- a word
word_front : (w rest : List ℕ) → AllPass is_word w → begins_word rest ≡ false → word (w ++ rest) ≡ Takes (word_mark w) (length w)
word_front w rest all ends =
    let n = run_ends is_word w rest all (word_ends rest ends) in
    ap (λ k. Takes (word_mark (take k (w ++ rest))) k) n ∙ ap (λ xs. Takes (word_mark xs) (length w)) (take_at w rest (length w) refl)

begins_other : (w rest : List ℕ) → 0 < length w → kind_of (get_or w 0 0) ≡ Other → front (w ++ rest) ≡ word (w ++ rest)
unfolding front
begins_other [] rest some first = absurd (omega arith)
begins_other (c ∷ w) rest some first = ap (λ k. front_by k c (w ++ rest)) first

whole_word : (w rest : List ℕ) → IsWord w → begins_word rest ≡ false → front (w ++ rest) ≡ Takes (word_mark w) (length w)
whole_word w rest is ends = begins_other w rest is.some is.first ∙ word_front w rest is.each ends

-- the place of the first colon
colon_at : (w : List ℕ) (k : ℕ) → position_or_len is_colon w ≡ k → k < length w → position is_colon w ≡ Some k
colon_at w k same short =
    ap (λ n. cond (nat_lt n (length w)) (Some n) None) same ∙ cond-true (nat_lt k (length w)) (Some k) None (lt-ltb k (length w) short)

node_mark : (label : List ℕ) → word_mark (95 ∷ 58 ∷ label) ≡ mark.Node
node_mark label = ap (split_mark (95 ∷ 58 ∷ label)) (colon_at (95 ∷ 58 ∷ label) 1 refl (omega arith))

short_mark : (w : List ℕ) → w ≡ prefix_of w ++ 58 ∷ local_of w → prefix_of w ≢ codes "_" → word_mark w ≡ mark.Short
short_mark w spelled prefix =
    let p : ℕ = position_or_len is_colon w in
    let within : p ≤ length w = prefix_len-le-length (λ c. not (is_colon c)) w in
    let front_len : length (prefix_of w) ≡ p = length-take-le p w within in
    let short : p < length w = omega (arith, ap length spelled, length-append (prefix_of w) (58 ∷ local_of w), front_len) in
    let other : bytes_eq (prefix_of w) (codes "_") ≡ false = false_from_ne_true _ (λ same. prefix (bytes_same (prefix_of w) (codes "_") same)) in
    ap (split_mark w) (colon_at w p refl short) ∙ cond-false (bytes_eq (prefix_of w) (codes "_")) mark.Node mark.Short other

-- one character
one_front : (m : Mark) (bytes rest : List ℕ) (c : ℕ) → bytes ≡ c ∷ [] → front (c ∷ rest) ≡ Takes m 1 → front (bytes ++ rest) ≡ Takes m (length bytes)
one_front m bytes rest c is one = ap (λ xs. front (xs ++ rest)) is ∙ one ∙ ap (λ xs. Takes m (length xs)) (sym is)

enclosed_front : (m : Mark) (bytes rest : List ℕ) (q c : ℕ) → bytes ≡ q ∷ (inner bytes ++ c ∷ []) → front (q ∷ (inner bytes ++ c ∷ rest)) ≡ Takes m (length (inner bytes) + 2) → front (bytes ++ rest) ≡ Takes m (length bytes)
enclosed_front m bytes rest q c is known =
    let len : length bytes ≡ length (inner bytes) + 2 = omega (arith, ap length is, length-append (inner bytes) (c ∷ [])) in
    ap (λ xs. front (xs ++ rest)) is ∙ ap (λ xs. front (q ∷ xs)) (append_assoc (inner bytes) (c ∷ []) rest) ∙ known ∙ ap (λ k. Takes m k) (sym len)

-- a token of its shape stands at the front where it may end before the rest
pub front_of : (m : Mark) (bytes rest : List ℕ) → HasShape m bytes → EndsBefore m rest → front (bytes ++ rest) ≡ Takes m (length bytes)
unfolding front kind_of
front_of mark.Left bytes rest shape ends = one_front mark.Left bytes rest 40 shape refl
front_of mark.Right bytes rest shape ends = one_front mark.Right bytes rest 41 shape refl
front_of mark.Equals bytes rest shape ends = one_front mark.Equals bytes rest 61 shape refl
front_of mark.Carets bytes rest shape ends = ap (λ xs. front (xs ++ rest)) shape ∙ ap (λ xs. Takes mark.Carets (length xs)) (sym shape)
front_of mark.Plus bytes rest shape ends = one_front mark.Plus bytes rest 43 shape refl
front_of mark.Minus bytes rest shape ends = one_front mark.Minus bytes rest 45 shape refl
front_of mark.Iri bytes rest shape ends = enclosed_front mark.Iri bytes rest 60 62 shape.spelled (iri_front (inner bytes) rest shape.each)
front_of mark.Text bytes rest shape ends = enclosed_front mark.Text bytes rest 34 34 shape.spelled (string_front (inner bytes) rest shape.closed)
front_of mark.Plain bytes rest shape ends = whole_word bytes rest shape.is_word ends ∙ ap (λ o. Takes (split_mark bytes o) (length bytes)) shape.whole
front_of mark.Short bytes rest shape ends = whole_word bytes rest shape.is_word ends ∙ ap (λ m. Takes m (length bytes)) (short_mark bytes shape.spelled shape.prefix)
front_of mark.Node bytes rest shape ends = whole_word bytes rest shape.is_word ends ∙ ap (λ m. Takes m (length bytes)) (ap word_mark shape.spelled ∙ node_mark (drop 2 bytes))
front_of mark.Lang bytes rest shape ends =
    let tag : List ℕ = drop 1 bytes in
    let len : length bytes ≡ length tag + 1 = omega (arith, ap length shape.spelled) in
    ap (λ xs. front (xs ++ rest)) shape.spelled ∙ lang_front tag rest shape.some shape.each ends ∙ ap (λ k. Takes mark.Lang k) (sym len)

-- so it is read first
pub token_says : (m : Mark) (bytes rest : List ℕ) (ls : List Lexeme) → HasShape m bytes → EndsBefore m rest → Says rest ls → Says (bytes ++ rest) (lexeme_of m bytes ∷ ls)
token_says m bytes rest ls shape ends known =
    subst (λ xs. Says (bytes ++ rest) (lexeme_of m xs ∷ ls)) (take_at bytes rest (length bytes) refl)
    (says_takes (length bytes) m (bytes ++ rest) ls (front_of m bytes rest shape ends) (subst (λ xs. Says xs ls) (sym (drop_at bytes rest (length bytes) refl)) known))

-- a blank says nothing
blank_kind : (c : ℕ) → is_blank c ≡ true → kind_of c ≡ Blank
unfolding kind_of
blank_kind c h = cond-true (is_blank c) Blank _ h

blank_front : (c : ℕ) (rest : List ℕ) → is_blank c ≡ true → front (c ∷ rest) ≡ Skips 1
unfolding front
blank_front c rest h = ap (λ k. front_by k c rest) (blank_kind c h)

pub blank_says : (c : ℕ) (rest : List ℕ) (ls : List Lexeme) → is_blank c ≡ true → Says rest ls → Says (c ∷ rest) ls
blank_says c rest ls h known = says_skips 1 (c ∷ rest) ls (blank_front c rest h) known

pub end_says : Says [] []
end_says = says_over [] over_nil
