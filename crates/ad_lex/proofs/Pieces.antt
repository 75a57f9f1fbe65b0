-- What stands at the front of a text is of its shape, isn't empty, and ends where a character ends.
use Rattle.std.proofs.Common.{◌≡◌, ℕ, ◌+◌, ◌-◌, ◌<◌, ◌≤◌, Bool, true, false, cond, ◌==◌, List, [], ◌∷◌, ◌++◌, length, get_or, take, drop, refl, sym, ◌∙◌, ap, subst, inl, inr, arith, add-one, length-append, length-take-le, take-append-drop, false-eqb}
use Rattle.std.specs.Prelude.{Option, None, Some, ◌⊎◌, nat_lt, codes}
use Rattle.std.specs.List.{prefix_len, position, position_or_len, AllPass}
use Rattle.std.specs.Str.{bytes_eq}
use Rattle.std.proofs.lemmas.Bool.{eqb-true, eq-eqb, ltb-true, and_parts, and_from, cond_both, false≢true}
use Rattle.std.proofs.lemmas.List.{take_more, take_at, get_or-take, get_or_at}
use Rattle.std.proofs.lemmas.List.Sums.{prefix_len_passes, prefix_len_stops, prefix_len-le-length, split_at_first, passes_at_first}
use Rattle.ad_lex.specs.declared.token.Mark.{Mark}
use Rattle.ad_lex.specs.declared.token.Mark.TheVariants as mark
use Rattle.ad_lex.specs.declared.front.Front.{Front}
use Rattle.ad_lex.specs.declared.front.Front.TheVariants.{Over, Skips, Takes, Char, OpenString, OpenIri}
use Rattle.ad_lex.specs.declared.kind.CharKind.{CharKind}
use Rattle.ad_lex.specs.declared.kind.CharKind.TheVariants.{Blank, Hash, Left, Right, Equals, Caret, Less, Greater, Quote, At, Plus, Minus, Other}
use Rattle.ad_lex.specs.Characters.{kind_of, is_word, is_word_kind, is_iri, goes_on, is_colon}
use Rattle.ad_lex.specs.Fronts.{front, front_by, carets, iri, closed_iri, string, closed_string, string_len, more, lang, word, split_mark}
use Rattle.ad_lex.specs.Shapes.{HasShape, IsIri, IsText, IsWord, IsLang, inner, prefix_of, local_of}
use Rattle.ad_lex.proofs.CharKinds.{IsOfKind, kind_tells, blank_ascii, word_ends_ascii, comment_ends_ascii}

-- the first n bytes are some, and one of the bytes beside their end is ASCII
pub record IsPiece (rest : List ℕ) (n : ℕ) : Type 0 where
  pub some : 0 < n
  pub within : n ≤ length rest
  pub edge : n < length rest → (get_or rest (n - 1) 0 < 128) ⊎ (get_or rest n 0 < 128)

-- what is known of the front of a text
abbrev pub Told : List ℕ → Front → Type 0
Told rest Over = Unit {0}
Told rest (Skips n) = IsPiece rest n
Told rest (Takes m n) = IsPiece rest n × HasShape m (take n rest)
Told rest Char = Unit {0}
Told rest OpenString = Unit {0}
Told rest OpenIri = Unit {0}

length_cons : (c : ℕ) (rest : List ℕ) → length (c ∷ rest) ≡ length rest + 1
length_cons c rest = omega arith

take_cons : (c : ℕ) (rest : List ℕ) (n : ℕ) → take (n + 1) (c ∷ rest) ≡ c ∷ take n rest
take_cons c rest n = rw add-one refl

get_or_cons : (c : ℕ) (rest : List ℕ) (n : ℕ) → get_or (c ∷ rest) (n + 1) 0 ≡ get_or rest n 0
get_or_cons c rest n = rw add-one refl

-- one ASCII byte
one_piece : (c : ℕ) (rest : List ℕ) → c < 128 → IsPiece (c ∷ rest) 1
one_piece c rest h = record {
  some = omega arith;
  within = omega arith;
  edge = λ _. inl h;
}

-- what passes, behind a byte, up to an ASCII byte that doesn't
run_piece : (p : ℕ → Bool) → ((c : ℕ) → p c ≡ false → c < 128) → (c : ℕ) (rest : List ℕ) → IsPiece (c ∷ rest) (prefix_len p rest + 1)
run_piece p ends c rest =
    let within = prefix_len-le-length p rest in
    record {
      some = omega arith;
      within = omega (arith, length_cons c rest, within);
      edge = λ more.
          let short : prefix_len p rest < length rest = omega (arith, length_cons c rest, more) in
          inr (subst (λ d. d < 128) (sym (get_or_cons c rest (prefix_len p rest))) (ends _ (prefix_len_stops p rest 0 short)));
    }

all_run : (p : ℕ → Bool) (rest : List ℕ) → AllPass p (take (prefix_len p rest) rest)
all_run p rest k d h =
    let short : k < prefix_len p rest = omega (arith, length-take-le (prefix_len p rest) rest (prefix_len-le-length p rest)) in
    subst (λ c. p c ≡ true) (sym (get_or-take (prefix_len p rest) rest k d short)) (prefix_len_passes p rest k d short)

-- the bytes between a first and a last one
pub inner_between : (c d : ℕ) (xs : List ℕ) → inner (c ∷ (xs ++ d ∷ [])) ≡ xs
inner_between c d xs =
    let long : length (xs ++ d ∷ []) ≡ length xs + 1 = length-append xs (d ∷ []) in
    ap (λ n. take n (xs ++ d ∷ [])) (omega arith) ∙ take_at xs (d ∷ []) (length xs) refl

-- by whether a test passes
Told-cond : (rest : List ℕ) (b : Bool) (x y : Front) → (b ≡ true → Told rest x) → (b ≡ false → Told rest y) → Told rest (cond b x y)
Told-cond rest b x y h k = cond_both b x y (Told rest) h k

-- a byte, n bytes and another byte
enclosed : (q c : ℕ) (rest : List ℕ) (n : ℕ) → n < length rest → get_or rest n 0 ≡ c → take (n + 2) (q ∷ rest) ≡ q ∷ (take n rest ++ c ∷ [])
enclosed q c rest n short last =
    ap (λ k. take k (q ∷ rest)) (omega arith)
    ∙ take_cons q rest (n + 1)
    ∙ ap (λ xs. q ∷ xs) (take_more rest n 0 short ∙ ap (λ d. take n rest ++ d ∷ []) last)

enclosed_piece : (q c : ℕ) (rest : List ℕ) (n : ℕ) → n < length rest → get_or rest n 0 ≡ c → c < 128 → IsPiece (q ∷ rest) (n + 2)
enclosed_piece q c rest n short last small = record {
  some = omega arith;
  within = omega (arith, length_cons q rest);
  edge = λ _.
      let step : n + 2 - 1 ≡ n + 1 = omega arith in
      inl (subst (λ d. d < 128) (sym (ap (λ k. get_or (q ∷ rest) k 0) step ∙ get_or_cons q rest n ∙ last)) small);
}

pub iri_shape : (bytes xs : List ℕ) → bytes ≡ 60 ∷ (xs ++ 62 ∷ []) → AllPass is_iri xs → IsIri bytes
iri_shape bytes xs spelled each =
    let same : inner bytes ≡ xs = ap inner spelled ∙ inner_between 60 62 xs in
    record {
      spelled = spelled ∙ ap (λ ys. 60 ∷ (ys ++ 62 ∷ [])) (sym same);
      each = subst (AllPass is_iri) (sym same) each;
    }

pub text_shape : (bytes xs : List ℕ) → bytes ≡ 34 ∷ (xs ++ 34 ∷ []) → string_len false (xs ++ 34 ∷ []) ≡ Some (length xs) → IsText bytes
text_shape bytes xs spelled closed =
    let same : inner bytes ≡ xs = ap inner spelled ∙ inner_between 34 34 xs in
    record {
      spelled = spelled ∙ ap (λ ys. 34 ∷ (ys ++ 34 ∷ [])) (sym same);
      closed = subst (λ ys. string_len false (ys ++ 34 ∷ []) ≡ Some (length ys)) (sym same) closed;
    }

carets_told : (rest : List ℕ) → Told (94 ∷ rest) (carets rest)
carets_told [] = tt
carets_told (c ∷ rest) = Told-cond (94 ∷ c ∷ rest) (c == 94) (Takes mark.Carets 2) Char
    (λ h. let same : c ≡ 94 = eqb-true c 94 h in (
      record { some = omega arith; within = omega arith; edge = λ _. inl (omega arith) },
      ap (λ d. 94 ∷ d ∷ []) same,
    ))
    (λ _. tt)

iri_at : (rest tail : List ℕ) → drop (prefix_len is_iri rest) rest ≡ tail → Told (60 ∷ rest) (closed_iri (prefix_len is_iri rest) tail)
iri_at rest [] is = tt
iri_at rest (c ∷ tail) is = Told-cond (60 ∷ rest) (c == 62) (Takes mark.Iri (prefix_len is_iri rest + 2)) OpenIri
    (λ h.
    let n : ℕ = prefix_len is_iri rest in
    let within : n ≤ length rest = prefix_len-le-length is_iri rest in
    let whole : take n rest ++ c ∷ tail ≡ rest = ap (λ xs. take n rest ++ xs) (sym is) ∙ take-append-drop n rest in
    let front_len : length (take n rest) ≡ n = length-take-le n rest within in
    let short : n < length rest = omega (arith, ap length whole, length-append (take n rest) (c ∷ tail), front_len) in
    let last : get_or rest n 0 ≡ 62 = ap (λ xs. get_or xs n 0) (sym whole) ∙ get_or_at (take n rest) c tail 0 n front_len ∙ eqb-true c 62 h in (
      enclosed_piece 60 62 rest n short last (omega arith),
      iri_shape _ (take n rest) (enclosed 60 62 rest n short last) (all_run is_iri rest),
    ))
    (λ _. tt)

-- the quote that closes a string, and what stands before it
abbrev Closes : Bool → List ℕ → Option ℕ → Type 0
Closes escaped rest None = Unit {0}
Closes escaped rest (Some n) = (n < length rest) × (get_or rest n 0 ≡ 34) × (string_len escaped (take n rest ++ 34 ∷ []) ≡ Some n)

closes_more : (escaped next : Bool) (c : ℕ) (rest : List ℕ) (o : Option ℕ) → ((xs : List ℕ) → string_len escaped (c ∷ xs) ≡ more (string_len next xs)) → Closes next rest o → Closes escaped (c ∷ rest) (more o)
closes_more escaped next c rest None step h = tt
closes_more escaped next c rest (Some n) step h = (
  omega (arith, length_cons c rest, h.0),
  get_or_cons c rest n ∙ h.1,
  ap (λ xs. string_len escaped (xs ++ 34 ∷ [])) (take_cons c rest n) ∙ step (take n rest ++ 34 ∷ []) ∙ ap more h.2,
)

Closes-cond : (c : ℕ) (rest : List ℕ) (b : Bool) (o : Option ℕ) → (b ≡ c == 34) → (b ≡ false → Closes false (c ∷ rest) o) → Closes false (c ∷ rest) (cond b (Some 0) o)
Closes-cond c rest true o is h = (omega arith, eqb-true c 34 (sym is), refl)
Closes-cond c rest false o is h = h refl

closes : (escaped : Bool) (rest : List ℕ) → Closes escaped rest (string_len escaped rest)
closes true [] = tt
closes false [] = tt
closes true (c ∷ rest) = closes_more true false c rest (string_len false rest) (λ xs. refl) (closes false rest)
closes false (c ∷ rest) = Closes-cond c rest (c == 34) _ refl
    (λ ne. closes_more false (c == 92) c rest (string_len (c == 92) rest) (λ xs. ap (λ b. cond b (Some 0) (more (string_len (c == 92) xs))) ne) (closes (c == 92) rest))

string_at : (rest : List ℕ) (o : Option ℕ) → Closes false rest o → Told (34 ∷ rest) (closed_string o)
string_at rest None h = tt
string_at rest (Some n) h = (
  enclosed_piece 34 34 rest n h.0 h.1 (omega arith),
  text_shape _ (take n rest) (enclosed 34 34 rest n h.0 h.1) (h.2 ∙ ap (λ k. Some k) (sym (length-take-le n rest (omega (arith, h.0))))),
)

lang_told : (rest : List ℕ) → Told (64 ∷ rest) (lang rest)
lang_told rest = Told-cond (64 ∷ rest) (prefix_len is_word rest == 0) Char (Takes mark.Lang (prefix_len is_word rest + 1))
    (λ _. tt)
    (λ h.
    let n : ℕ = prefix_len is_word rest in
    let len : length (take n rest) ≡ n = length-take-le n rest (prefix_len-le-length is_word rest) in (
      run_piece is_word word_ends_ascii 64 rest,
      subst IsLang (sym (take_cons 64 rest n)) (record {
        spelled = refl;
        some = subst (λ k. 0 < k) (sym len) (omega (arith, false-eqb n 0 (sym h)));
        each = all_run is_word rest;
      }),
    ))

-- texts that are found the same are the same
pub bytes_same : (xs ys : List ℕ) → bytes_eq xs ys ≡ true → xs ≡ ys
bytes_same [] [] h = refl
bytes_same [] (y ∷ ys) h = cc
bytes_same (x ∷ xs) [] h = cc
bytes_same (x ∷ xs) (y ∷ ys) h =
    let parts = and_parts (x == y) (bytes_eq xs ys) h in
    let first : x ≡ y = eqb-true x y parts.0 in
    let others : xs ≡ ys = bytes_same xs ys parts.1 in
    λ i. first i ∷ others i

pub bytes_eq-refl : (xs : List ℕ) → bytes_eq xs xs ≡ true
bytes_eq-refl [] = refl
bytes_eq-refl (x ∷ xs) = and_from (x == x) (bytes_eq xs xs) (eq-eqb x x refl) (bytes_eq-refl xs)

-- where the first colon stands
pub record IsFirstColon (w : List ℕ) (k : ℕ) : Type 0 where
  pub same : position_or_len is_colon w ≡ k
  pub short : position_or_len is_colon w < length w

pub colon_place : (w : List ℕ) (k : ℕ) → position is_colon w ≡ Some k → IsFirstColon w k
colon_place w k h =
    cond_both (nat_lt (position_or_len is_colon w) (length w)) (Some (position_or_len is_colon w)) None (λ o. o ≡ Some k → IsFirstColon w k)
    (λ short e. record { same = cc; short = ltb-true _ _ short })
    (λ _ e. cc)
    h

word_by : (w : List ℕ) (o : Option ℕ) → position is_colon w ≡ o → IsWord w → HasShape (split_mark w o) w
word_by w None is word_is = record { is_word = word_is; whole = is }
word_by w (Some k) is word_is =
    let place = colon_place w k is in
    let p : ℕ = position_or_len is_colon w in
    let colon : get_or w p 0 ≡ 58 = eqb-true (get_or w p 0) 58 (passes_at_first is_colon w 0 place.short) in
    let spelled : w ≡ prefix_of w ++ 58 ∷ local_of w = split_at_first is_colon w 0 place.short ∙ ap (λ c. prefix_of w ++ c ∷ local_of w) colon in
    let front_is : prefix_of w ≡ take k w = ap (λ n. take n w) place.same in
    cond_both (bytes_eq (take k w) (codes "_")) mark.Node mark.Short (λ m. HasShape m w)
    (λ h.
    let under : prefix_of w ≡ 95 ∷ [] = front_is ∙ bytes_same (take k w) (codes "_") h in
    let node : w ≡ 95 ∷ 58 ∷ local_of w = spelled ∙ ap (λ xs. xs ++ 58 ∷ local_of w) under in
    record { is_word = word_is; spelled = node ∙ ap (λ xs. 95 ∷ 58 ∷ xs) (sym (ap (drop 2) node)) })
    (λ h. record {
      is_word = word_is;
      spelled = spelled;
      prefix = λ under. false≢true (sym h ∙ ap (λ xs. bytes_eq xs (codes "_")) (sym front_is ∙ under) ∙ bytes_eq-refl (codes "_"));
    })

word_told : (c : ℕ) (rest : List ℕ) → kind_of c ≡ Other → Told (c ∷ rest) (word (c ∷ rest))
word_told c rest other =
    let n : ℕ = prefix_len is_word (c ∷ rest) in
    let more : n ≡ prefix_len is_word rest + 1 = ap (λ k. cond (is_word_kind k) (1 + prefix_len is_word rest) 0) other ∙ omega arith in
    let len : length (take n (c ∷ rest)) ≡ n = length-take-le n (c ∷ rest) (prefix_len-le-length is_word (c ∷ rest)) in
    let head : take n (c ∷ rest) ≡ c ∷ take (prefix_len is_word rest) rest = ap (λ k. take k (c ∷ rest)) more ∙ take_cons c rest _ in (
      subst (IsPiece (c ∷ rest)) (sym more) (run_piece is_word word_ends_ascii c rest),
      word_by (take n (c ∷ rest)) _ refl (record {
        some = omega (arith, len, more);
        each = all_run is_word (c ∷ rest);
        first = ap (λ xs. kind_of (get_or xs 0 0)) head ∙ other;
      }),
    )

-- one character that is a token
one_told : (m : Mark) (c d : ℕ) (rest : List ℕ) → c ≡ d → d < 128 → HasShape m (d ∷ []) → Told (c ∷ rest) (Takes m 1)
one_told m c d rest same small shape = (
  one_piece c rest (subst (λ x. x < 128) (sym same) small),
  subst (λ x. HasShape m (x ∷ [])) (sym same) shape,
)

told_by : (k : CharKind) (c : ℕ) (rest : List ℕ) → kind_of c ≡ k → IsOfKind k c → Told (c ∷ rest) (front_by k c rest)
told_by Blank c rest is h = one_piece c rest (blank_ascii c h)
told_by Hash c rest is h = run_piece goes_on comment_ends_ascii c rest
told_by Left c rest is h = one_told mark.Left c 40 rest h (omega arith) refl
told_by Right c rest is h = one_told mark.Right c 41 rest h (omega arith) refl
told_by Equals c rest is h = one_told mark.Equals c 61 rest h (omega arith) refl
told_by Caret c rest is h = subst (λ x. Told (x ∷ rest) (carets rest)) (sym h) (carets_told rest)
told_by Less c rest is h = subst (λ x. Told (x ∷ rest) (iri rest)) (sym h) (iri_at rest _ refl)
told_by Greater c rest is h = tt
told_by Quote c rest is h = subst (λ x. Told (x ∷ rest) (string rest)) (sym h) (string_at rest _ (closes false rest))
told_by At c rest is h = subst (λ x. Told (x ∷ rest) (lang rest)) (sym h) (lang_told rest)
told_by Plus c rest is h = one_told mark.Plus c 43 rest h (omega arith) refl
told_by Minus c rest is h = one_told mark.Minus c 45 rest h (omega arith) refl
told_by Other c rest is h = word_told c rest is

pub told : (rest : List ℕ) → Told rest (front rest)
unfolding front
told [] = tt
told (c ∷ rest) = told_by (kind_of c) c rest refl (kind_tells c)

-- what is skipped, and what is taken
pub skipped : (rest : List ℕ) (n : ℕ) → front rest ≡ Skips n → IsPiece rest n
skipped rest n is = subst (Told rest) is (told rest)

pub taken : (rest : List ℕ) (m : Mark) (n : ℕ) → front rest ≡ Takes m n → IsPiece rest n × HasShape m (take n rest)
taken rest m n is = subst (Told rest) is (told rest)

-- the end of a text alone is Over
pub over_nil : front [] ≡ Over
unfolding front
over_nil = refl
