-- Steps of the loop that looks for the quote that closes a string.
use Rattle.std.proofs.Common.{◌≡◌, ◌≢◌, ℕ, ◌+◌, ◌-◌, ◌<◌, ◌≤◌, Bool, true, false, not, ◌&&◌, ◌==◌, List, ◌∷◌, length, get_or, drop, refl, ap, ◌∙◌, arith}
use Rattle.std.specs.Prelude.{Option, None, Some}
use Rattle.std.proofs.lemmas.List.{at_drop_more, at_drop_all}
use Rattle.ad_lex.specs.Fronts.{more, string_len}

-- so many bytes more, behind n
abbrev pub plus : ℕ → Option ℕ → Option ℕ
plus n None = None
plus n (Some k) = Some (n + k)

plus-more : (n : ℕ) (o : Option ℕ) → plus n (more o) ≡ plus (n + 1) o
plus-more n None = refl
plus-more n (Some k) = ap (λ i. Some i) (omega arith)

-- whether the next byte stands behind a \ that takes its meaning away
abbrev pub escapes : Bool → ℕ → Bool
escapes escaped c = not escaped && c == 92

-- one byte further inside a string
string_len-cons : (escaped : Bool) (c : ℕ) (rest : List ℕ) → (escaped ≡ false → c ≢ 34) → string_len escaped (c ∷ rest) ≡ more (string_len (escapes escaped c) rest)
string_len-cons true c rest h = refl
string_len-cons false c rest h = let ne : c ≢ 34 = h refl in grind arith

pub string_step : (text : List ℕ) (from at : ℕ) (escaped : Bool) → from ≤ at → at < length text → (escaped ≡ false → get_or text at 0 ≢ 34)
    → plus (at - from) (string_len escaped (drop at text)) ≡ plus (at + 1 - from) (string_len (escapes escaped (get_or text at 0)) (drop (at + 1) text))
string_step text from at escaped after within ne =
    ap (plus (at - from)) (at_drop_more (string_len escaped) text at 0 within ∙ string_len-cons escaped (get_or text at 0) (drop (at + 1) text) ne)
    ∙ plus-more (at - from) _
    ∙ ap (λ n. plus n (string_len (escapes escaped (get_or text at 0)) (drop (at + 1) text))) (omega arith)

-- the quote that closes the string
pub string_closed : (text : List ℕ) (at : ℕ) → at < length text → get_or text at 0 ≡ 34 → string_len false (drop at text) ≡ Some 0
string_closed text at within quote =
    at_drop_more (string_len false) text at 0 within ∙ ap (λ c. string_len false (c ∷ drop (at + 1) text)) quote

-- the text ends before
pub string_open : (text : List ℕ) (escaped : Bool) (at : ℕ) → length text ≤ at → string_len escaped (drop at text) ≡ None
string_open text true at past = at_drop_all (string_len true) text at past
string_open text false at past = at_drop_all (string_len false) text at past
