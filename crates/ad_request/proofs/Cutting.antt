-- A text is cut at its first space in one way only.
use Rattle.std.proofs.Common.{◌≡◌, ℕ, ◌^◌, ◌<◌, ◌==◌, List, [], ◌∷◌, ◌++◌, length, get_or, suc, true, false, not, codes, refl, sym, ◌∙◌, ap, subst, arith}
use Rattle.std.specs.List.{list_all}
use Rattle.std.specs.Char.{IsAsciiDigit}
use Rattle.std.specs.Fmt.{decimal}
use Rattle.std.proofs.Math.Seq.{get_or-append_seam}
use Rattle.std.proofs.lemmas.List.{append_cancel_left, length-append}
use Rattle.std.proofs.lemmas.List.Folds.{list_all_at}
use Rattle.ad_base.specs.Kinds.{kind_word}
use Rattle.ad_base.specs.declared.limits.Kind.{Kind}
use Rattle.ad_base.specs.declared.limits.Kind.TheVariants as kinds
use Rattle.ad_base.proofs.Numbers.{decimal_is_plain}
use Rattle.ad_request.specs.Words.{HasNoSpace, IsCut}

spaceless_tail : (x : ℕ) (text : List ℕ) → HasNoSpace (x ∷ text) → HasNoSpace text
spaceless_tail x text none k h = none (suc k) (omega arith)

-- the two parts are told by the whole
pub cut_once : (a a' b b' : List ℕ) → HasNoSpace a → HasNoSpace a' → get_or b 0 0 ≡ 32 → get_or b' 0 0 ≡ 32 → a ++ b ≡ a' ++ b' → (a ≡ a') × (b ≡ b')
cut_once [] [] b b' none none' space space' e = (refl, e)
cut_once [] (y ∷ a') b b' none none' space space' e = absurd (none' 0 (omega arith) (sym (ap (λ (l : List ℕ). get_or l 0 0) e) ∙ space))
cut_once (x ∷ a) [] b b' none none' space space' e = absurd (none 0 (omega arith) (ap (λ (l : List ℕ). get_or l 0 0) e ∙ space'))
cut_once (x ∷ a) (y ∷ a') b b' none none' space space' e =
    let tails : a ++ b ≡ a' ++ b' = cc in
    let more = cut_once a a' b b' (spaceless_tail x a none) (spaceless_tail y a' none') space space' tails in (cc more.0, more.1)

spaceless_by : (text : List ℕ) → list_all (λ b. not (b == 32)) text ≡ true → HasNoSpace text
spaceless_by text all k h e = let other : list_all (λ b. not (b == 32)) text ≡ false = list_all_at (λ b. not (b == 32)) text k 0 h (ap (λ b. not (b == 32)) e) in cc

pub kind_spaceless : (kind : Kind) → HasNoSpace (kind_word kind)
kind_spaceless kinds.Bottom = spaceless_by (codes "bottom") refl
kind_spaceless kinds.Top = spaceless_by (codes "top") refl
kind_spaceless kinds.Star = spaceless_by (codes "star") refl

pub decimal_spaceless : (n : ℕ) → n < 10 ^ 10 → HasNoSpace (decimal n)
decimal_spaceless n small k h e = let digit : IsAsciiDigit (get_or (decimal n) k 0) = (decimal_is_plain n small).digits k h in omega (arith, digit, e)

-- a text that has a space behind a word isn't free of spaces
pub space_within : (a b : List ℕ) → get_or b 0 0 ≡ 32 → HasNoSpace (a ++ b) → ⊥
space_within a [] space none = omega (arith, space)
space_within a (x ∷ b) space none = none (length a) (omega (arith, length-append a (x ∷ b))) (get_or-append_seam a x b 0 ∙ space)

-- what was cut behind the words, where a word and a space stand there
pub cut_behind : (line words rest front back a b : List ℕ) → line ≡ words ++ rest → IsCut rest front back → HasNoSpace a → get_or b 0 0 ≡ 32 → line ≡ words ++ (a ++ b) → (front ≡ a) × (back ≡ b)
cut_behind line words rest front back a b e cut none space is =
    cut_once front a back b cut.word none cut.space space (sym cut.whole ∙ append_cancel_left words rest (a ++ b) (sym e ∙ is))

-- and something was cut
pub uncut_behind : (line words rest a b : List ℕ) → line ≡ words ++ rest → HasNoSpace rest → get_or b 0 0 ≡ 32 → line ≡ words ++ (a ++ b) → ⊥
uncut_behind line words rest a b e none space is =
    space_within a b space (subst HasNoSpace (append_cancel_left words rest (a ++ b) (sym e ∙ is)) none)
