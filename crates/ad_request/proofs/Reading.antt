-- What a line's parts tell of the line.
use Rattle.std.proofs.Common.{◌≡◌, ℕ, ◌^◌, ◌<◌, List, ◌++◌, Option, None, Some, codes, refl, sym, ◌∙◌, ap, subst, MatchOption, IfSome, IfNone}
use Rattle.std.specs.Fmt.{decimal}
use Rattle.std.proofs.lemmas.List.{append_cancel_left}
use Rattle.ad_base.specs.Decimal.{IsNumber}
use Rattle.ad_base.specs.Kinds.{kind_word}
use Rattle.ad_base.specs.declared.limits.Kind.{Kind}
use Rattle.ad_request.specs.Words.{HasNoSpace, IsCut}
use Rattle.ad_request.proofs.Cutting.{cut_behind, uncut_behind, decimal_spaceless, kind_spaceless}
use Rattle.ad_request.proofs.LineLemmas.{in_four}

pub when_none : {X : Type 0} (o : Option X) (P : Type 0) (Q : X → Type 0) → o ≡ None → P → MatchOption o P Q
when_none o P Q e p = let R : Option _ → Type 0 = λ x. MatchOption x P Q in subst R (sym e) p

-- a number behind the words
pub number_found : (o : Option ℕ) (line words rest : List ℕ) → line ≡ words ++ rest → IfSome o (IsNumber rest) → IfNone o ((n : ℕ) → IsNumber rest n → ⊥) → MatchOption o ((n : ℕ) → n < 10 ^ 10 → line ≡ words ++ decimal n → ⊥) (λ n. (n < 10 ^ 10) × (line ≡ words ++ decimal n))
number_found None line words rest e found none = λ n small is. none n (record { spelled = append_cancel_left words rest (decimal n) (sym e ∙ is); small = small })
number_found (Some n) line words rest e found none = (found.small, e ∙ ap (λ t. words ++ t) found.spelled)

-- a kind's word behind the words
pub kind_found : (o : Option Kind) (line words rest : List ℕ) → line ≡ words ++ rest → MatchOption o ((kind : Kind) → rest ≡ kind_word kind → ⊥) (λ kind. rest ≡ kind_word kind) → MatchOption o ((kind : Kind) → line ≡ words ++ kind_word kind → ⊥) (λ kind. line ≡ words ++ kind_word kind)
kind_found None line words rest e told = λ kind is. told kind (append_cancel_left words rest (kind_word kind) (sym e ∙ is))
kind_found (Some kind) line words rest e told = e ∙ ap (λ t. words ++ t) told

-- what was cut, where a kind's word and a number stand behind the words
pub kind_cut : (line words rest front back : List ℕ) → line ≡ words ++ rest → IsCut rest front back → (kind : Kind) (n : ℕ) → line ≡ words ++ kind_word kind ++ codes " " ++ decimal n → (front ≡ kind_word kind) × (back ≡ codes " " ++ decimal n)
kind_cut line words rest front back e cut kind n is =
    cut_behind line words rest front back (kind_word kind) (codes " " ++ decimal n) e cut (kind_spaceless kind) refl (is ∙ in_four words (kind_word kind) (codes " ") (decimal n))

-- what was cut, where two numbers stand there
pub number_cut : (line words rest front back : List ℕ) → line ≡ words ++ rest → IsCut rest front back → (m n : ℕ) → m < 10 ^ 10 → line ≡ words ++ decimal m ++ codes " IF " ++ decimal n → (front ≡ decimal m) × (back ≡ codes " IF " ++ decimal n)
number_cut line words rest front back e cut m n small is =
    cut_behind line words rest front back (decimal m) (codes " IF " ++ decimal n) e cut (decimal_spaceless m small) refl (is ∙ in_four words (decimal m) (codes " IF ") (decimal n))

-- something is cut there
pub number_uncut : (line words rest : List ℕ) → line ≡ words ++ rest → HasNoSpace rest → (m n : ℕ) → line ≡ words ++ decimal m ++ codes " IF " ++ decimal n → ⊥
number_uncut line words rest e none m n is = uncut_behind line words rest (decimal m) (codes " IF " ++ decimal n) e none refl (is ∙ in_four words (decimal m) (codes " IF ") (decimal n))

pub kind_uncut : (line words rest : List ℕ) → line ≡ words ++ rest → HasNoSpace rest → (kind : Kind) (n : ℕ) → line ≡ words ++ kind_word kind ++ codes " " ++ decimal n → ⊥
kind_uncut line words rest e none kind n is = uncut_behind line words rest (kind_word kind) (codes " " ++ decimal n) e none refl (is ∙ in_four words (kind_word kind) (codes " ") (decimal n))
