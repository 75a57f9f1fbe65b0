-- The value of a literal as it is written between quotation marks.
use Rattle.std.proofs.Common.{◌≡◌, ℕ, suc, ◌<◌, ◌≤◌, true, ◌==◌, ◌||◌, List, [], ◌∷◌, ◌++◌, length, get_or, IsUtf8, refl, sym, ◌∙◌, ap, subst, ⊎_elim, arith, append-nil}
use lib.Utf8.{encode, encodes, scalar, scalars}
use Rattle.std.proofs.lemmas.Bool.{and_parts, cond_both, cond-false, or_from, ne_eqb, cases_lt}
use Rattle.std.proofs.lemmas.Grind.{flat_map-append}
use Rattle.std.proofs.lemmas.Str.{IsUtf8-append, IsUtf8-nil, IsUtf8-encode, encode_ascii, inside_one}
use Rattle.ad_write.specs.Canonical.{escape, escaped}
use Rattle.ad_lex.specs.Says as lex
use Rattle.ad_canonical.proofs.Keywords.{byte_utf8}

-- it is written as it is read
pub escaped_same : (text : List ℕ) → escaped text ≡ lex.escaped text
escaped_same [] = refl
escaped_same (c ∷ text) = ap (λ xs. escape c ++ xs) (escaped_same text)

-- no byte of a character that isn't ASCII is escaped
high_one : (c : ℕ) → 128 ≤ c → escape c ≡ c ∷ []
high_one c high = cond-false (c == 34 || c == 92) (92 ∷ c ∷ []) (c ∷ []) (or_from (c == 34) (c == 92) (ne_eqb c 34 (λ e. omega arith)) (ne_eqb c 92 (λ e. omega arith)))

high_stays : (xs : List ℕ) → ((k : ℕ) → k < length xs → 128 ≤ get_or xs k 0) → escaped xs ≡ xs
high_stays [] h = refl
high_stays (x ∷ xs) h = ap (λ ys. ys ++ escaped xs) (high_one x (h 0 (omega arith))) ∙ ap (λ ys. x ∷ ys) (high_stays xs (λ k short. h (suc k) (omega (arith, short))))

wide_stays : (c : ℕ) → 128 ≤ c → escaped (encode c) ≡ encode c
wide_stays c wide = high_stays (encode c) (λ k short.
    ⊎_elim
    (λ small. let same : c ≡ get_or (encode c) k 0 = inside_one c [] (encode c) k (sym (append-nil (encode c))) short small in absurd (omega arith))
    (λ high. high)
    (cases_lt (get_or (encode c) k 0) 128))

escape_utf8 : (c : ℕ) → c < 128 → IsUtf8 (escape c)
escape_utf8 c small =
    let one = byte_utf8 c small in
    cond_both (c == 34 || c == 92) (92 ∷ c ∷ []) (c ∷ []) IsUtf8 (λ _. IsUtf8-append (92 ∷ []) (c ∷ []) (byte_utf8 92 (omega arith)) one) (λ _. one)

characters : (cs : List ℕ) → scalars cs ≡ true → IsUtf8 (escaped (encodes cs))
characters [] h = IsUtf8-nil
characters (c ∷ cs) h =
    let parts = and_parts (scalar c) (scalars cs) h in
    let others : IsUtf8 (escaped (encodes cs)) = characters cs parts.1 in
    subst IsUtf8 (sym (flat_map-append escape (encode c) (encodes cs)))
    (⊎_elim
    (λ small. subst (λ xs. IsUtf8 (escaped xs ++ escaped (encodes cs))) (sym (encode_ascii c small)) (IsUtf8-append (escape c ++ []) (escaped (encodes cs)) (subst IsUtf8 (sym (append-nil (escape c))) (escape_utf8 c small)) others))
    (λ wide. subst (λ xs. IsUtf8 (xs ++ escaped (encodes cs))) (sym (wide_stays c wide)) (IsUtf8-append (encode c) (escaped (encodes cs)) (IsUtf8-encode c parts.0) others))
    (cases_lt c 128))

pub escaped_utf8 : (text : List ℕ) → IsUtf8 text → IsUtf8 (escaped text)
escaped_utf8 text utf8 = subst (λ xs. IsUtf8 (escaped xs)) utf8.1.1 (characters utf8.0 utf8.1.0)
