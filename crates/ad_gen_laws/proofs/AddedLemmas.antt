-- The additions of distinct axioms to no axioms give just these.
use Rattle.std.proofs.Common.{◌≡◌, ◌||◌, false, cond, List, [], ◌∷◌, ◌++◌, map, append-nil, append_assoc, refl, sym, ap, ◌∙◌, subst}
use Rattle.std.specs.List.{AllByRecursion, IsDistinct}
use Rattle.ad_tree.specs.declared.axioms.Noted.{Noted}
use Rattle.ad_apply.specs.Apply.{applied, has_axiom}
use Rattle.ad_apply.specs.Same.{same_axiom}
use Rattle.ad_gen.specs.Generated.{added}

holds_at : (P : Noted → Type 0) (front : List Noted) (x : Noted) (rest : List Noted) → AllByRecursion P (front ++ x ∷ rest) → P x
holds_at P [] x rest all = all.0
holds_at P (a ∷ front) x rest all = holds_at P front x rest all.1

-- an axiom isn't among those before it
new_to : (front : List Noted) (x : Noted) (rest : List Noted) → IsDistinct same_axiom (front ++ x ∷ rest) → has_axiom front x ≡ false
unfolding IsDistinct
new_to [] x rest distinct = refl
new_to (a ∷ front) x rest distinct =
    ap (λ s. s || has_axiom front x) (holds_at (λ y. same_axiom a y ≡ false) front x rest distinct.0) ∙ new_to front x rest distinct.1

added_behind : (front xs : List Noted) → IsDistinct same_axiom (front ++ xs) → applied front (map added xs) ≡ front ++ xs
added_behind front [] distinct = sym (append-nil front)
added_behind front (x ∷ xs) distinct =
    let same : front ++ x ∷ xs ≡ (front ++ x ∷ []) ++ xs = sym (append_assoc front (x ∷ []) xs) in
    ap (λ b. applied (cond b front (front ++ x ∷ [])) (map added xs)) (new_to front x xs distinct)
    ∙ added_behind (front ++ x ∷ []) xs (subst (IsDistinct same_axiom) same distinct) ∙ sym same

pub added_to_none : (xs : List Noted) → IsDistinct same_axiom xs → applied [] (map added xs) ≡ xs
added_to_none xs distinct = added_behind [] xs distinct
