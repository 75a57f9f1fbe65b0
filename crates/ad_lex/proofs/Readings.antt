-- Every text has a list of tokens or a fault, and where the tokens stand.
use Rattle.std.proofs.Common.{◌≡◌, ℕ, zero, suc, ◌+◌, ◌-◌, ◌<◌, ◌≤◌, true, List, [], ◌∷◌, ◌++◌, length, get_or, take, drop, refl, sym, ◌∙◌, ap, subst, inl, inr, ⊎_elim, arith, length-drop, length-take, take-append-drop}
use Rattle.std.specs.Prelude.{◌⊎◌, nat_eq, Result, Ok, Err, IfOk}
use Rattle.std.specs.List.{AllByRecursion, starts_with}
use Rattle.std.specs.Str.{IsUtf8, IsCharBoundary, is_utf8}
use Rattle.std.specs.Str.Lossy.{utf8_valid_len}
use Rattle.std.proofs.lemmas.Bool.{cond_both, cases_Bool, cases_lt}
use Rattle.std.proofs.lemmas.List.{drop-drop, nil_from_length}
use Rattle.std.proofs.lemmas.List.Elements.{All-from_recursion}
use Rattle.std.proofs.lemmas.Str.{IsUtf8-take, IsUtf8-drop, IsCharBoundary-end, IsCharBoundary-before_ascii, IsCharBoundary-after_ascii, IsUtf8-from_is_utf8, is_utf8-from_IsUtf8, IsUtf8-past_char}
use Rattle.ad_lex.specs.declared.token.Mark.{Mark}
use Rattle.ad_lex.specs.declared.token.Token.{Token}
use Rattle.ad_lex.specs.declared.token.LexFault.{LexFault}
use Rattle.ad_lex.specs.declared.token.LexRefused.{LexRefused}
use Rattle.ad_lex.specs.declared.token.LexFault.TheVariants as fault
use Rattle.ad_lex.specs.declared.front.Front.{Front}
use Rattle.ad_lex.specs.declared.front.Front.TheVariants.{Over, Skips, Takes, Char, OpenString, OpenIri}
use Rattle.ad_lex.specs.Fronts.{front}
use Rattle.ad_lex.specs.Lexed.{token_at, Lexes, over, skips, takes, Faults, no_token, open_string, open_iri, after_skip, after_token, IsLexed, IsFault, start}
use Rattle.ad_lex.specs.Shapes.{HasShape}
use Rattle.ad_lex.specs.Spans.{IsTokenOf, AreTokensOf, AreInOrder}
use lib.Utf8.{encode}
use Rattle.ad_lex.proofs.Pieces.{IsPiece, skipped, taken, over_nil, bytes_same}

-- the rest of a text has tokens, or a fault
abbrev Reads : ℕ → List ℕ → Type 0
Reads at rest = ((ts : List Token) × Lexes at rest ts) ⊎ ((f : LexFault) × Faults at rest f)

reads_by : (k : ℕ) → ((at : ℕ) (rest : List ℕ) → length rest ≤ k → Reads at rest) → (at : ℕ) (rest : List ℕ) → length rest ≤ suc k → (x : Front) → front rest ≡ x → Reads at rest
reads_by k known at rest short Over is = inl ([], over at rest is)
reads_by k known at rest short (Skips n) is =
    let piece = skipped rest n is in
    let less : length (drop n rest) ≤ k = omega (arith, length-drop n rest, piece.some, piece.within) in
    ⊎_elim
    (λ good. inl (good.0, skips at n rest good.0 is good.1))
    (λ bad. inr (bad.0, after_skip at n rest bad.0 is bad.1))
    (known (at + n) (drop n rest) less)
reads_by k known at rest short (Takes m n) is =
    let piece = (taken rest m n is).0 in
    let less : length (drop n rest) ≤ k = omega (arith, length-drop n rest, piece.some, piece.within) in
    ⊎_elim
    (λ good. inl (token_at at n m ∷ good.0, takes at n m rest good.0 is good.1))
    (λ bad. inr (bad.0, after_token at n m rest bad.0 is bad.1))
    (known (at + n) (drop n rest) less)
reads_by k known at rest short Char is = inr (fault.Char at, no_token at rest is)
reads_by k known at rest short OpenString is = inr (fault.OpenString at, open_string at rest is)
reads_by k known at rest short OpenIri is = inr (fault.OpenIri at, open_iri at rest is)

reads : (k at : ℕ) (rest : List ℕ) → length rest ≤ k → Reads at rest
reads zero at rest short = let none : rest ≡ [] = nil_from_length rest (omega arith) in inl ([], over at rest (ap front none ∙ over_nil))
reads (suc k) at rest short = reads_by k (reads k) at rest short (front rest) refl

-- every text is one or the other
pub lexed_or_faulty : (text : List ℕ) → ((ts : List Token) × IsLexed text ts) ⊎ ((f : LexFault) × IsFault text f)
lexed_or_faulty text =
    ⊎_elim
    (λ yes.
    let utf8 : IsUtf8 text = IsUtf8-from_is_utf8 text yes in
    ⊎_elim
    (λ good. inl (good.0, (utf8, good.1)))
    (λ bad. inr (bad.0, inr (utf8, bad.1)))
    (reads (length (drop (start text) text)) (start text) (drop (start text) text) (omega arith)))
    (λ no.
    let other : ¬ (IsUtf8 text) = λ utf8. let both : is_utf8 text ≡ true = is_utf8-from_IsUtf8 text utf8 in cc in
    inr (fault.Utf8 (utf8_valid_len text), inl (other, refl)))
    (cases_Bool (is_utf8 text))

-- a piece ends where a character ends
piece_boundary : (rest : List ℕ) (n : ℕ) → IsUtf8 rest → IsPiece rest n → IsCharBoundary rest n
piece_boundary rest n utf8 piece =
    ⊎_elim
    (λ short.
    ⊎_elim
    (λ before.
    let step : n - 1 + 1 ≡ n = omega (arith, piece.some) in
    subst (IsCharBoundary rest) step (IsCharBoundary-after_ascii rest (n - 1) utf8 (omega (arith, piece.some)) before))
    (λ behind. IsCharBoundary-before_ascii rest n short behind)
    (piece.edge short))
    (λ long. let same : length rest ≡ n = omega (arith, piece.within) in subst (IsCharBoundary rest) same (IsCharBoundary-end rest))
    (cases_lt n (length rest))

-- each begins at or behind the end of the one before
abbrev Follows : ℕ → List Token → Type 0
Follows at [] = Unit {0}
Follows at (t ∷ ts) = (at ≤ t.from) × (t.from ≤ t.to) × Follows t.to ts

follows_from : (i at : ℕ) (ts : List Token) → i ≤ at → Follows at ts → Follows i ts
follows_from i at [] le h = tt
follows_from i at (t ∷ ts) le h = (omega (arith, h.0), h.1, h.2)

token_is : (text rest : List ℕ) (at n : ℕ) (m : Mark) → rest ≡ drop at text → at ≤ length text → IsUtf8 rest → IsPiece rest n → HasShape m (take n rest) → IsTokenOf text (token_at at n m)
token_is text rest at n m is within utf8 piece shape =
    let count : at + n - at ≡ n = omega arith in
    let same : take n rest ≡ take (at + n - at) (drop at text) = ap (λ xs. take n xs) is ∙ ap (λ k. take k (drop at text)) (sym count) in
    record {
      some = omega (arith, piece.some);
      within = omega (arith, piece.within, ap length is, length-drop at text);
      shape = subst (HasShape m) same shape;
      utf8 = subst IsUtf8 same (IsUtf8-take rest n utf8 (piece_boundary rest n utf8 piece));
    }

-- where the tokens of the rest stand
spans : (text : List ℕ) {at : ℕ} {rest : List ℕ} {ts : List Token} → Lexes at rest ts → rest ≡ drop at text → at ≤ length text → IsUtf8 rest → AllByRecursion (IsTokenOf text) ts × Follows at ts
spans text (over at rest e) is within utf8 = (tt, tt)
spans text (skips at n rest ts e r) is within utf8 =
    let piece = skipped rest n e in
    let on : drop n rest ≡ drop (at + n) text = ap (λ xs. drop n xs) is ∙ drop-drop n at text in
    let room : at + n ≤ length text = omega (arith, piece.within, ap length is, length-drop at text) in
    let more = spans text r on room (IsUtf8-drop rest n utf8 (piece_boundary rest n utf8 piece)) in
    (more.0, follows_from at (at + n) ts (omega arith) more.1)
spans text (takes at n m rest ts e r) is within utf8 =
    let both = taken rest m n e in
    let piece = both.0 in
    let on : drop n rest ≡ drop (at + n) text = ap (λ xs. drop n xs) is ∙ drop-drop n at text in
    let room : at + n ≤ length text = omega (arith, piece.within, ap length is, length-drop at text) in
    let more = spans text r on room (IsUtf8-drop rest n utf8 (piece_boundary rest n utf8 piece)) in
    ((token_is text rest at n m is within utf8 piece both.1, more.0), (omega arith, omega arith, more.1))

behind : (at : ℕ) (ts : List Token) → Follows at ts → (j : ℕ) (d : Token) → j < length ts → at ≤ (get_or ts j d).from
behind at [] h j d short = absurd (omega arith)
behind at (t ∷ ts) h zero d short = h.0
behind at (t ∷ ts) h (suc j) d short = let on : t.to ≤ (get_or ts j d).from = behind t.to ts h.2 j d (omega arith) in omega (arith, h.0, h.1, on)

in_order : (at : ℕ) (ts : List Token) → Follows at ts → AreInOrder ts
in_order at [] h i j d below short = absurd (omega arith)
in_order at (t ∷ ts) h i zero d below short = absurd (omega arith)
in_order at (t ∷ ts) h zero (suc j) d below short = behind t.to ts h.2 j d (omega arith)
in_order at (t ∷ ts) h (suc i) (suc j) d below short = in_order t.to ts h.2 i j d (omega arith) (omega arith)

-- what follows a byte order mark at the start is a text
after_mark : (text : List ℕ) → IsUtf8 text → starts_with nat_eq text (239 ∷ 187 ∷ 191 ∷ []) ≡ true → (3 ≤ length text) × IsUtf8 (drop 3 text)
unfolding encode
after_mark text utf8 h =
    let same : 239 ∷ 187 ∷ 191 ∷ [] ≡ take 3 text = bytes_same _ (take 3 text) h in
    let whole : text ≡ encode 65279 ++ drop 3 text = sym (take-append-drop 3 text) ∙ ap (λ xs. xs ++ drop 3 text) (sym same) in (
      omega (arith, ap length same, length-take 3 text),
      IsUtf8-past_char text (drop 3 text) 65279 utf8 whole,
    )

start_text : (text : List ℕ) → IsUtf8 text → (start text ≤ length text) × IsUtf8 (drop (start text) text)
start_text text utf8 =
    cond_both (starts_with nat_eq text (239 ∷ 187 ∷ 191 ∷ [])) 3 0 (λ n. (n ≤ length text) × IsUtf8 (drop n text))
    (after_mark text utf8)
    (λ _. (omega arith, utf8))

-- the tokens of a text stand in it, one behind the other
pub tokens_stand : (text : List ℕ) (ts : List Token) → IsLexed text ts → AreTokensOf text ts
tokens_stand text ts h =
    let begins = start_text text h.0 in
    All-from_recursion (IsTokenOf text) ts (spans text h.1 refl begins.0 begins.1).0

pub tokens_follow : (text : List ℕ) (ts : List Token) → IsLexed text ts → AreInOrder ts
tokens_follow text ts h =
    let begins = start_text text h.0 in
    in_order (start text) ts (spans text h.1 refl begins.0 begins.1).1

-- so do those that are answered
pub answers_stand : (text : List ℕ) (r : Result (List Token) LexRefused) → IfOk r (IsLexed text) → IfOk r (AreTokensOf text)
answers_stand text (Ok ts) h = tokens_stand text ts h
answers_stand text (Err e) h = tt

pub answers_follow : (text : List ℕ) (r : Result (List Token) LexRefused) → IfOk r (IsLexed text) → IfOk r AreInOrder
answers_follow text (Ok ts) h = tokens_follow text ts h
answers_follow text (Err e) h = tt
