-- Each line has a number, two, a kind or both behind its first words, or it hasn't.
use Rattle.std.proofs.Common.{◌≡◌, ◌⊎◌, inl, inr, ℕ, zero, suc, ◌^◌, ◌<◌, List, [], ◌∷◌, ◌++◌, codes, length, take, drop, get_or, refl, sym, ◌∙◌, ap, arith}
use Rattle.std.specs.List.{EachIndex}
use Rattle.std.specs.Char.{IsAsciiDigit}
use Rattle.std.specs.Fmt.{decimal}
use Rattle.std.specs.Str.Parse.{digits_value}
use Rattle.std.proofs.lemmas.Bool.{cases_eq, cases_lt}
use Rattle.std.proofs.lemmas.List.{append_cancel_left, take-append-drop, take_at}
use Rattle.ad_base.specs.Decimal.{IsNumber, IsPlainDecimal}
use Rattle.ad_base.specs.Kinds.{kind_word}
use Rattle.ad_base.specs.declared.limits.Kind.{Kind}
use Rattle.ad_base.specs.declared.limits.Kind.TheVariants as kinds
use Rattle.ad_base.proofs.Numbers.{number_is_plain, number_is_short, plain_is_number}
use Rattle.ad_request.specs.Words.{HasNoSpace, IsCut}
use Rattle.ad_request.proofs.LineLemmas.{in_four}
use Rattle.ad_request.proofs.Reading.{kind_cut, kind_uncut, number_cut, number_uncut}

-- a text is another one, or isn't
pub same_text : (a b : List ℕ) → (a ≡ b) ⊎ (a ≡ b → ⊥)
same_text [] [] = inl refl
same_text [] (y ∷ b) = inr (λ e. let count : 0 ≡ suc (length b) = ap length e in omega (arith, count))
same_text (x ∷ a) [] = inr (λ e. let count : suc (length a) ≡ 0 = ap length e in omega (arith, count))
same_text (x ∷ a) (y ∷ b) = elim (cases_eq x y) [
  | inl e ↦ elim (same_text a b) [ inl f ↦ inl (λ i. e i ∷ f i) | inr unlike ↦ inr (λ h. unlike (ap (drop 1) h)) ]
  | inr unlike ↦ inr (λ h. unlike (ap (λ (l : List ℕ). get_or l 0 0) h))
]

-- a byte is a digit, or isn't
is_digit : (b : ℕ) → IsAsciiDigit b ⊎ (IsAsciiDigit b → ⊥)
is_digit b = elim (cases_lt b 48) [
  | inl low ↦ inr (λ d. omega (arith, low, d.0))
  | inr from ↦ elim (cases_lt 57 b) [ inl high ↦ inr (λ d. omega (arith, high, d.1)) | inr to ↦ inl (from, to) ]
]

each_digit : (b : ℕ) (bs : List ℕ) → IsAsciiDigit b → EachIndex bs (λ i. IsAsciiDigit (get_or bs i 0)) → (i : ℕ) → i < length (b ∷ bs) → IsAsciiDigit (get_or (b ∷ bs) i 0)
each_digit b bs d rest zero l = d
each_digit b bs d rest (suc i) l = rest i (omega arith)

are_digits : (text : List ℕ) → EachIndex text (λ i. IsAsciiDigit (get_or text i 0)) ⊎ (EachIndex text (λ i. IsAsciiDigit (get_or text i 0)) → ⊥)
are_digits [] = inl (λ i l. absurd (omega arith))
are_digits (b ∷ bs) = elim (is_digit b) [
  | inl d ↦ elim (are_digits bs) [ inl rest ↦ inl (each_digit b bs d rest) | inr unlike ↦ inr (λ all. unlike (λ i l. all (suc i) (omega arith))) ]
  | inr unlike ↦ inr (λ all. unlike (all 0 (omega arith)))
]

is_plain : (text : List ℕ) → IsPlainDecimal text ⊎ (IsPlainDecimal text → ⊥)
is_plain text = elim (are_digits text) [
  | inr unlike ↦ inr (λ p. unlike p.digits)
  | inl digits ↦ elim (cases_lt 0 (length text)) [
    | inr none ↦ inr (λ p. let some : 0 < length text = p.some in omega (arith, none))
    | inl some ↦ elim (cases_eq (length text) 1) [
      | inl one ↦ inl (record { digits = digits; some = some; shortest = λ e. one })
      | inr more ↦ elim (cases_eq (get_or text 0 0) 48) [
        | inl zeroed ↦ inr (λ p. more (p.shortest zeroed))
        | inr other ↦ inl (record { digits = digits; some = some; shortest = λ e. absurd (other e) })
      ]
    ]
  ]
]

-- a text is a number, or isn't
is_number : (text : List ℕ) → ((n : ℕ) × IsNumber text n) ⊎ ((n : ℕ) → IsNumber text n → ⊥)
is_number text = elim (cases_lt 10 (length text)) [
  | inl long ↦ inr (λ n h. omega (arith, long, number_is_short text n h))
  | inr short ↦ elim (is_plain text) [ inl p ↦ inl (digits_value 10 text, plain_is_number text p short) | inr unlike ↦ inr (λ n h. unlike (number_is_plain text n h)) ]
]

no_kind : (text : List ℕ) → (text ≡ codes "bottom" → ⊥) → (text ≡ codes "top" → ⊥) → (text ≡ codes "star" → ⊥) → (kind : Kind) → text ≡ kind_word kind → ⊥
no_kind text bottom top star kinds.Bottom = bottom
no_kind text bottom top star kinds.Top = top
no_kind text bottom top star kinds.Star = star

-- a text is a kind's word, or isn't
is_kind : (text : List ℕ) → ((kind : Kind) × (text ≡ kind_word kind)) ⊎ ((kind : Kind) → text ≡ kind_word kind → ⊥)
is_kind text = elim (same_text text (codes "bottom")) [
  | inl e ↦ inl (kinds.Bottom, e)
  | inr bottom ↦ elim (same_text text (codes "top")) [
    | inl e ↦ inl (kinds.Top, e)
    | inr top ↦ elim (same_text text (codes "star")) [ inl e ↦ inl (kinds.Star, e) | inr star ↦ inr (no_kind text bottom top star) ]
  ]
]

no_space_yet : (b : ℕ) (bs : List ℕ) → (b ≡ 32 → ⊥) → HasNoSpace bs → HasNoSpace (b ∷ bs)
no_space_yet b bs other none zero l = other
no_space_yet b bs other none (suc i) l = none i (omega arith)

-- a text is cut at its first space, or has none
cut_or_not : (text : List ℕ) → ((front : List ℕ) × (back : List ℕ) × IsCut text front back) ⊎ HasNoSpace text
cut_or_not [] = inr (λ i l. absurd (omega arith))
cut_or_not (b ∷ bs) = elim (cases_eq b 32) [
  | inl e ↦ inl ([], b ∷ bs, record { whole = refl; word = λ i l. absurd (omega arith); space = e })
  | inr other ↦ elim (cut_or_not bs) [
    | inl c ↦ inl (b ∷ c.0, c.1, record { whole = ap (λ t. b ∷ t) c.2.whole; word = no_space_yet b c.0 other c.2.word; space = c.2.space })
    | inr none ↦ inr (no_space_yet b bs other none)
  ]
]

-- words stand before a rest, or don't
before_or_not : (words line : List ℕ) → ((rest : List ℕ) × (line ≡ words ++ rest)) ⊎ ((rest : List ℕ) → line ≡ words ++ rest → ⊥)
before_or_not words line = elim (same_text (take (length words) line) words) [
  | inl front ↦ inl (drop (length words) line, sym (take-append-drop (length words) line) ∙ ap (λ t. t ++ drop (length words) line) front)
  | inr unlike ↦ inr (λ rest e. unlike (ap (take (length words)) e ∙ take_at words rest (length words) refl))
]

-- a number behind the words
abbrev pub NoNumber : List ℕ → List ℕ → Type 0
NoNumber words line = (n : ℕ) → n < 10 ^ 10 → line ≡ words ++ decimal n → ⊥

pub numbered : (words line : List ℕ) → ((n : ℕ) × (n < 10 ^ 10) × (line ≡ words ++ decimal n)) ⊎ NoNumber words line
numbered words line = elim (before_or_not words line) [
  | inr none ↦ inr (λ n small e. none (decimal n) e)
  | inl r ↦ elim (is_number r.0) [
    | inl h ↦ inl (h.0, h.1.small, r.1 ∙ ap (λ t. words ++ t) h.1.spelled)
    | inr none ↦ inr (λ n small e. none n (record { spelled = append_cancel_left words r.0 (decimal n) (sym r.1 ∙ e); small = small }))
  ]
]

-- a kind behind them
abbrev pub NoKind : List ℕ → List ℕ → Type 0
NoKind words line = (kind : Kind) → line ≡ words ++ kind_word kind → ⊥

pub kinded : (words line : List ℕ) → ((kind : Kind) × (line ≡ words ++ kind_word kind)) ⊎ NoKind words line
kinded words line = elim (before_or_not words line) [
  | inr none ↦ inr (λ kind e. none (kind_word kind) e)
  | inl r ↦ elim (is_kind r.0) [
    | inl h ↦ inl (h.0, r.1 ∙ ap (λ t. words ++ t) h.1)
    | inr none ↦ inr (λ kind e. none kind (append_cancel_left words r.0 (kind_word kind) (sym r.1 ∙ e)))
  ]
]

-- the whole from its parts
joined : (line words rest front back a between b : List ℕ) → line ≡ words ++ rest → rest ≡ front ++ back → front ≡ a → back ≡ between ++ b → line ≡ words ++ a ++ between ++ b
joined line words rest front back a between b e whole first second =
    e ∙ ap (λ t. words ++ t) (whole ∙ ap (λ t. t ++ back) first ∙ ap (λ t. a ++ t) second) ∙ sym (in_four words a between b)

-- a kind and a number behind them
abbrev pub NoKindAndNumber : List ℕ → List ℕ → Type 0
NoKindAndNumber words line = (kind : Kind) (n : ℕ) → n < 10 ^ 10 → line ≡ words ++ kind_word kind ++ codes " " ++ decimal n → ⊥

pub kind_numbered : (words line : List ℕ) → ((kind : Kind) × (n : ℕ) × (n < 10 ^ 10) × (line ≡ words ++ kind_word kind ++ codes " " ++ decimal n)) ⊎ NoKindAndNumber words line
kind_numbered words line = elim (before_or_not words line) [
  | inr none ↦ inr (λ kind n small e. none (kind_word kind ++ (codes " " ++ decimal n)) (e ∙ in_four words (kind_word kind) (codes " ") (decimal n)))
  | inl r ↦ elim (cut_or_not r.0) [
    | inr none ↦ inr (λ kind n small e. kind_uncut line words r.0 r.1 none kind n e)
    | inl c ↦ elim (is_kind c.0) [
      | inr none ↦ inr (λ kind n small e. none kind (kind_cut line words r.0 c.0 c.1 r.1 c.2 kind n e).0)
      | inl k ↦ elim (numbered (codes " ") c.1) [
        | inr none ↦ inr (λ kind n small e. none n small (kind_cut line words r.0 c.0 c.1 r.1 c.2 kind n e).1)
        | inl m ↦ inl (k.0, m.0, m.1, joined line words r.0 c.0 c.1 (kind_word k.0) (codes " ") (decimal m.0) r.1 c.2.whole k.1 m.2)
      ]
    ]
  ]
]

-- two numbers behind them
abbrev pub NoNumbers : List ℕ → List ℕ → Type 0
NoNumbers words line = (m n : ℕ) → m < 10 ^ 10 → n < 10 ^ 10 → line ≡ words ++ decimal m ++ codes " IF " ++ decimal n → ⊥

pub twice_numbered : (words line : List ℕ) → ((m : ℕ) × (n : ℕ) × (m < 10 ^ 10) × (n < 10 ^ 10) × (line ≡ words ++ decimal m ++ codes " IF " ++ decimal n)) ⊎ NoNumbers words line
twice_numbered words line = elim (before_or_not words line) [
  | inr none ↦ inr (λ m n hm hn e. none (decimal m ++ (codes " IF " ++ decimal n)) (e ∙ in_four words (decimal m) (codes " IF ") (decimal n)))
  | inl r ↦ elim (cut_or_not r.0) [
    | inr none ↦ inr (λ m n hm hn e. number_uncut line words r.0 r.1 none m n e)
    | inl c ↦ elim (is_number c.0) [
      | inr none ↦ inr (λ m n hm hn e. none m (record { spelled = (number_cut line words r.0 c.0 c.1 r.1 c.2 m n hm e).0; small = hm }))
      | inl k ↦ elim (numbered (codes " IF ") c.1) [
        | inr none ↦ inr (λ m n hm hn e. none n hn (number_cut line words r.0 c.0 c.1 r.1 c.2 m n hm e).1)
        | inl j ↦ inl (k.0, j.0, k.1.small, j.1, joined line words r.0 c.0 c.1 (decimal k.0) (codes " IF ") (decimal j.0) r.1 c.2.whole k.1.spelled j.2)
      ]
    ]
  ]
]
