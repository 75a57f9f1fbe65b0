-- The parts of a token's bytes are text, and so is the value of a string.
use Rattle.std.proofs.Common.{◌≡◌, ℕ, suc, ◌+◌, ◌<◌, ◌≤◌, Bool, true, false, not, cond, ◌==◌, ◌&&◌, List, [], ◌∷◌, ◌++◌, length, get_or, take, drop, refl, sym, ◌∙◌, ap, subst, ⊎_elim, arith, length-append, append-nil}
use Rattle.std.specs.Prelude.{Some}
use Rattle.std.specs.List.{position, position_or_len, list_any}
use Rattle.std.specs.Str.{IsUtf8}
use lib.Utf8.{encode, encodes, scalar, scalars}
use Rattle.std.proofs.lemmas.Bool.{eqb-true, ne_eqb, cond-false, cond_both, and_parts, and_right, or_parts, or_from, cases_lt}
use Rattle.std.proofs.lemmas.List.{take_at, get_or_at, get_or_past, drop-drop, at_drop_more, at_drop_all}
use Rattle.std.proofs.lemmas.List.Sums.{passes_at_first}
use Rattle.std.proofs.lemmas.Str.{IsUtf8-append, IsUtf8-nil, IsUtf8-encode, IsUtf8-take, IsUtf8-drop, IsCharBoundary-before_ascii, IsCharBoundary-after_ascii, IsUtf8-past_char, IsUtf8-from_ascii, encode_ascii, inside_one, length-encode, len_utf8_bounds}
use Rattle.ad_lex.specs.declared.token.Mark.{Mark}
use Rattle.ad_lex.specs.declared.token.Mark.TheVariants as mark
use Rattle.ad_lex.specs.Characters.{is_colon}
use Rattle.ad_lex.specs.Shapes.{HasShape, inner}
use Rattle.ad_lex.specs.Lexemes.{is_escapable, stands_for, value_from, string_value}
use Rattle.ad_lex.proofs.Pieces.{IsFirstColon, colon_place}

-- behind an ASCII byte, and before one
behind_byte : (c : ℕ) (xs : List ℕ) → c < 128 → IsUtf8 (c ∷ xs) → IsUtf8 xs
behind_byte c xs small utf8 = IsUtf8-past_char (c ∷ xs) xs c utf8 (ap (λ ys. ys ++ xs) (sym (encode_ascii c small)))

before_byte : (c : ℕ) (xs : List ℕ) → c < 128 → IsUtf8 (xs ++ c ∷ []) → IsUtf8 xs
before_byte c xs small utf8 =
    let here : get_or (xs ++ c ∷ []) (length xs) 0 ≡ c = get_or_at xs c [] 0 (length xs) refl in
    let short : length xs < length (xs ++ c ∷ []) = omega (arith, length-append xs (c ∷ [])) in
    subst IsUtf8 (take_at xs (c ∷ []) (length xs) refl)
    (IsUtf8-take (xs ++ c ∷ []) (length xs) utf8 (IsCharBoundary-before_ascii (xs ++ c ∷ []) (length xs) short (subst (λ d. d < 128) (sym here) small)))

inner_utf8 : (q c : ℕ) (bytes : List ℕ) → q < 128 → c < 128 → bytes ≡ q ∷ (inner bytes ++ c ∷ []) → IsUtf8 bytes → IsUtf8 (inner bytes)
inner_utf8 q c bytes first last spelled utf8 =
    before_byte c (inner bytes) last (behind_byte q (inner bytes ++ c ∷ []) first (subst IsUtf8 spelled utf8))

-- the shape of a token whose mark is known
shape_at : (m n : Mark) (bytes : List ℕ) → m ≡ n → HasShape m bytes → HasShape n bytes
shape_at m n bytes is shape = subst (λ k. HasShape k bytes) is shape

pub iri_utf8 : (m : Mark) (bytes : List ℕ) → m ≡ mark.Iri → HasShape m bytes → IsUtf8 bytes → IsUtf8 (inner bytes)
iri_utf8 m bytes is shape utf8 = inner_utf8 60 62 bytes (omega arith) (omega arith) (shape_at m mark.Iri bytes is shape).spelled utf8

pub text_utf8 : (m : Mark) (bytes : List ℕ) → m ≡ mark.Text → HasShape m bytes → IsUtf8 bytes → IsUtf8 (inner bytes)
text_utf8 m bytes is shape utf8 = inner_utf8 34 34 bytes (omega arith) (omega arith) (shape_at m mark.Text bytes is shape).spelled utf8

pub tag_utf8 : (m : Mark) (bytes : List ℕ) → m ≡ mark.Lang → HasShape m bytes → IsUtf8 bytes → IsUtf8 (drop 1 bytes)
tag_utf8 m bytes is shape utf8 = behind_byte 64 (drop 1 bytes) (omega arith) (subst IsUtf8 (shape_at m mark.Lang bytes is shape).spelled utf8)

pub label_utf8 : (m : Mark) (bytes : List ℕ) → m ≡ mark.Node → HasShape m bytes → IsUtf8 bytes → IsUtf8 (drop 2 bytes)
label_utf8 m bytes is shape utf8 =
    behind_byte 58 (drop 2 bytes) (omega arith)
    (behind_byte 95 (58 ∷ drop 2 bytes) (omega arith) (subst IsUtf8 (shape_at m mark.Node bytes is shape).spelled utf8))

-- what stands before the first colon, and behind it
colon_ascii : (bytes : List ℕ) (k : ℕ) → IsFirstColon bytes k → (k < length bytes) × (get_or bytes k 0 < 128)
colon_ascii bytes k place =
    let colon : get_or bytes (position_or_len is_colon bytes) 0 ≡ 58 = eqb-true _ 58 (passes_at_first is_colon bytes 0 place.short) in
    subst (λ n. (n < length bytes) × (get_or bytes n 0 < 128)) place.same (place.short, omega arith)

pub prefix_utf8 : (bytes : List ℕ) (k : ℕ) → position is_colon bytes ≡ Some k → IsUtf8 bytes → IsUtf8 (take k bytes)
prefix_utf8 bytes k is utf8 =
    let here = colon_ascii bytes k (colon_place bytes k is) in
    IsUtf8-take bytes k utf8 (IsCharBoundary-before_ascii bytes k here.0 here.1)

pub local_utf8 : (bytes : List ℕ) (k : ℕ) → position is_colon bytes ≡ Some k → IsUtf8 bytes → IsUtf8 (drop 1 (drop k bytes))
local_utf8 bytes k is utf8 =
    let here = colon_ascii bytes k (colon_place bytes k is) in
    subst IsUtf8 (sym (drop-drop 1 k bytes)) (IsUtf8-drop bytes (k + 1) utf8 (IsCharBoundary-after_ascii bytes k utf8 here.0 here.1))

-- where no \ stands, a string is its value
pub plain_value : (xs : List ℕ) → list_any (λ c. c == 92) xs ≡ false → value_from false xs ≡ xs
plain_value [] h = refl
plain_value (x ∷ xs) h =
    let parts = or_parts (x == 92) (list_any (λ c. c == 92) xs) h in
    let more : value_from false xs ≡ xs = plain_value xs parts.1 in
    ap (λ b. cond b [] (x ∷ []) ++ value_from b xs) parts.0 ∙ ap (λ ys. x ∷ ys) more

-- what stands for an ASCII character is ASCII
one_utf8 : (c : ℕ) → c < 128 → IsUtf8 (c ∷ [])
one_utf8 c small = IsUtf8-from_ascii (c ∷ []) (λ i. ⊎_elim (λ first. let zero_is : i ≡ 0 = omega arith in subst (λ j. get_or (c ∷ []) j 0 < 128) (sym zero_is) small) (λ past. omega (arith, get_or_past (c ∷ []) i 0 past)) (cases_lt i 1))

stands_utf8 : (held : Bool) (c : ℕ) → c < 128 → IsUtf8 (stands_for held c)
stands_utf8 true c small = cond_both (is_escapable c) (c ∷ []) (92 ∷ c ∷ []) IsUtf8 (λ _. one_utf8 c small) (λ _. IsUtf8-append (92 ∷ []) (c ∷ []) (one_utf8 92 (omega arith)) (one_utf8 c small))
stands_utf8 false c small = cond_both (c == 92) [] (c ∷ []) IsUtf8 (λ _. IsUtf8-nil) (λ _. one_utf8 c small)

-- bytes of characters that aren't ASCII
abbrev AreHigh : List ℕ → Type 0
AreHigh [] = Unit {0}
AreHigh (y ∷ ys) = (128 ≤ y) × AreHigh ys

high_from : (ys : List ℕ) → ((k : ℕ) → k < length ys → 128 ≤ get_or ys k 0) → AreHigh ys
high_from [] h = tt
high_from (y ∷ ys) h = (h 0 (omega arith), high_from ys (λ k short. h (suc k) (omega (arith, short))))

high_encode : (c : ℕ) → 128 ≤ c → AreHigh (encode c)
high_encode c wide = high_from (encode c) (λ k short.
    ⊎_elim
    (λ small. let same : c ≡ get_or (encode c) k 0 = inside_one c [] (encode c) k (sym (append-nil (encode c))) short small in absurd (omega arith))
    (λ high. high)
    (cases_lt (get_or (encode c) k 0) 128))

-- they stand for themselves
high_one : (held : Bool) (y : ℕ) → 128 ≤ y → stands_for held y ≡ cond held (92 ∷ y ∷ []) (y ∷ [])
high_one true y high = cond-false (is_escapable y) (y ∷ []) (92 ∷ y ∷ []) (or_from (y == 34) (y == 92) (ne_eqb y 34 (λ e. omega arith)) (ne_eqb y 92 (λ e. omega arith)))
high_one false y high = cond-false (y == 92) [] (y ∷ []) (ne_eqb y 92 (λ e. omega arith))

high_next : (held : Bool) (y : ℕ) → 128 ≤ y → (not held && y == 92) ≡ false
high_next held y high = and_right (not held) (y == 92) (ne_eqb y 92 (λ e. omega arith))

high_run : (ys rest : List ℕ) → AreHigh ys → value_from false (ys ++ rest) ≡ ys ++ value_from false rest
high_run [] rest h = refl
high_run (y ∷ ys) rest h =
    ap (λ xs. xs ++ value_from (y == 92) (ys ++ rest)) (high_one false y h.0)
    ∙ ap (λ b. y ∷ value_from b (ys ++ rest)) (high_next false y h.0)
    ∙ ap (λ xs. y ∷ xs) (high_run ys rest h.1)

high_utf8 : (held : Bool) (ys rest : List ℕ) → 0 < length ys → AreHigh ys → IsUtf8 ys → IsUtf8 (value_from false rest) → IsUtf8 (value_from held (ys ++ rest))
high_utf8 false ys rest some high utf8 more = subst IsUtf8 (sym (high_run ys rest high)) (IsUtf8-append ys (value_from false rest) utf8 more)
high_utf8 true [] rest some high utf8 more = absurd (omega arith)
high_utf8 true (y ∷ ys) rest some high utf8 more =
    let is : value_from true (y ∷ (ys ++ rest)) ≡ (92 ∷ []) ++ (y ∷ ys) ++ value_from false rest =
    ap (λ xs. xs ++ value_from false (ys ++ rest)) (high_one true y high.0) ∙ ap (λ xs. 92 ∷ y ∷ xs) (high_run ys rest high.1) in
    subst IsUtf8 (sym is) (IsUtf8-append ((92 ∷ []) ++ (y ∷ ys)) (value_from false rest) (IsUtf8-append (92 ∷ []) (y ∷ ys) (one_utf8 92 (omega arith)) utf8) more)

-- the value of characters is characters
value_chars : (cs : List ℕ) → scalars cs ≡ true → (held : Bool) → IsUtf8 (value_from held (encodes cs))
value_chars [] h held = cond_both held (92 ∷ []) [] IsUtf8 (λ _. one_utf8 92 (omega arith)) (λ _. IsUtf8-nil)
value_chars (c ∷ cs) h held =
    let parts = and_parts (scalar c) (scalars cs) h in
    ⊎_elim
    (λ small.
    subst (λ xs. IsUtf8 (value_from held (xs ++ encodes cs))) (sym (encode_ascii c small))
    (IsUtf8-append (stands_for held c) (value_from (not held && c == 92) (encodes cs)) (stands_utf8 held c small) (value_chars cs parts.1 (not held && c == 92))))
    (λ wide.
    high_utf8 held (encode c) (encodes cs) (omega (arith, length-encode c, (len_utf8_bounds c).0)) (high_encode c wide) (IsUtf8-encode c parts.0) (value_chars cs parts.1 false))
    (cases_lt c 128)

pub value_utf8 : (xs : List ℕ) → IsUtf8 xs → IsUtf8 (string_value xs)
value_utf8 xs utf8 = subst (λ ys. IsUtf8 (value_from false ys)) utf8.1.1 (value_chars utf8.0 utf8.1.0 false)

-- one byte further inside a string
pub value_step : (inside : List ℕ) (i : ℕ) (held : Bool) → i < length inside → value_from held (drop i inside) ≡ stands_for held (get_or inside i 0) ++ value_from (not held && get_or inside i 0 == 92) (drop (i + 1) inside)
value_step inside i held short = at_drop_more (value_from held) inside i 0 short

pub value_end : (inside : List ℕ) (i : ℕ) (held : Bool) → length inside ≤ i → value_from held (drop i inside) ≡ cond held (92 ∷ []) []
value_end inside i held past = at_drop_all (value_from held) inside i past
