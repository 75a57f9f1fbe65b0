-- Names with numbers, in order.
use Rattle.std.proofs.Common.{◌≡◌, ℕ, zero, suc, false, cond, List, [], ◌∷◌, ◌++◌, take, None, Some, refl, ap, ◌∙◌, subst}
use Rattle.std.specs.List.{AllByRecursion, IsDistinct, slice_get}
use Rattle.std.specs.Map.{lookup, keys_of}
use Rattle.std.specs.Cmp.Lexicographic.{nat_list_eq_equiv}
use Rattle.ad_base.specs.Words.{same_text}

abbrev Names : Type 0
Names = List (List ℕ × ℕ)

all_at : (P : List ℕ → Type 0) (es : Names) (i : ℕ) (p : List ℕ × ℕ) → AllByRecursion P (keys_of es) → slice_get es i ≡ Some p → P p.0
all_at P [] i p all at = cc
all_at P (x ∷ es) zero p all at = let e : x ≡ p = cc in subst (λ z. P z.0) e all.0
all_at P (x ∷ es) (suc i) p all at = all_at P es i p all.1 at

-- a name does not stand before its place
pub fresh : (es : Names) (i : ℕ) (p : List ℕ × ℕ) → IsDistinct same_text (keys_of es) → slice_get es i ≡ Some p → lookup (same_text p.0) (take i es) ≡ None
unfolding IsDistinct
fresh [] i p d at = cc
fresh (x ∷ es) zero p d at = refl
fresh (x ∷ es) (suc i) p d at =
    let apart : same_text p.0 x.0 ≡ false = nat_list_eq_equiv.symm p.0 x.0 ∙ all_at (λ y. same_text x.0 y ≡ false) es i p d.0 at in
    ap (λ b. cond b (Some x.1) (lookup (same_text p.0) (take i es))) apart ∙ fresh es i p d.1 at

pub take_one : (es : Names) (i : ℕ) (p : List ℕ × ℕ) → slice_get es i ≡ Some p → take (suc i) es ≡ take i es ++ p ∷ []
take_one [] i p at = cc
take_one (x ∷ es) zero p at = let e : x ≡ p = cc in ap (λ z. z ∷ []) e
take_one (x ∷ es) (suc i) p at = ap (λ l. x ∷ l) (take_one es i p at)
