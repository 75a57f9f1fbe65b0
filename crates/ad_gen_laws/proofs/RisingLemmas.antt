-- Axioms whose ranks rise are distinct, and those of a generated ontology rise.
use Rattle.std.proofs.Common.{◌≡◌, ℕ, zero, suc, ◌+◌, ◌*◌, ◌%◌, ◌<◌, ◌≤◌, ◌==◌, Bool, true, false, if◌then◌else◌, List, [], ◌∷◌, ◌++◌, map, refl, sym, ap, subst, arith, append_assoc}
use Rattle.std.specs.List.{AllByRecursion, IsDistinct, flat_map, range_with_len}
use Rattle.ad_tree.specs.declared.axioms.Noted.{Noted}
use Rattle.ad_tree.proofs.Equality.{noted_eq-is}
use Rattle.ad_apply.specs.Same.{same_axiom}
use Rattle.ad_gen.specs.Generated.{axioms_of_class, below_everything, below_half, declaration, equal_to_twin, generated, where_divided}
use Rattle.ad_gen_laws.proofs.RankLemmas.{rank, rank-declaration, rank-everything, rank-half, rank-twin}

-- each rank is above the one before, and the first at least this number
abbrev RisesFrom : ℕ → List Noted → Type 0
RisesFrom n [] = Unit {0}
RisesFrom n (x ∷ xs) = (n ≤ rank x) × RisesFrom (rank x + 1) xs

from_lower : (n k : ℕ) (xs : List Noted) → k ≤ n → RisesFrom n xs → RisesFrom k xs
from_lower n k [] l rises = tt
from_lower n k (x ∷ xs) l rises = (omega (arith, rises.0), rises.1)

apart : (a b : Noted) → rank a < rank b → same_axiom a b ≡ false
unfolding same_axiom
apart a b l = elim (same_axiom a b) as (λ s. same_axiom a b ≡ s → s ≡ false) [
  | true ↦ λ e. let r : rank a ≡ rank b = ap rank ((noted_eq-is a b).0 e) in absurd (omega (arith, r, l))
  | false ↦ λ e. refl
] refl

all_apart : (a : Noted) (n : ℕ) (xs : List Noted) → rank a < n → RisesFrom n xs → AllByRecursion (λ x. same_axiom a x ≡ false) xs
all_apart a n [] l rises = tt
all_apart a n (x ∷ xs) l rises = (apart a x (omega (arith, rises.0)), all_apart a (rank x + 1) xs (omega (arith, rises.0)) rises.1)

pub rising_distinct : (n : ℕ) (xs : List Noted) → RisesFrom n xs → IsDistinct same_axiom xs
unfolding IsDistinct
rising_distinct n [] rises = tt
rising_distinct n (x ∷ xs) rises = (all_apart x (rank x + 1) xs (omega arith) rises.1, rising_distinct (rank x + 1) xs rises.1)

-- an axiom before others, or none
put : (n r m : ℕ) (x : Noted) (rest : List Noted) → rank x ≡ r → n ≤ r → r < m → RisesFrom m rest → RisesFrom n (x ∷ rest)
put n r m x rest is l k rises = (omega (arith, is), from_lower m (rank x + 1) rest (omega (arith, is)) rises)

put_where : (b : Bool) (n r m : ℕ) (x : Noted) (rest : List Noted) → rank x ≡ r → n ≤ r → r < m → RisesFrom m rest → RisesFrom n ((if b then x ∷ [] else []) ++ rest)
put_where true n r m x rest is l k rises = put n r m x rest is l k rises
put_where false n r m x rest is l k rises = from_lower m n rest (omega arith) rises

class_rises : (number : ℕ) (rest : List Noted) → number ≤ 10000 → RisesFrom (20003 + 3 * number) rest → RisesFrom (20000 + 3 * number) (axioms_of_class number ++ rest)
class_rises number rest few rises =
    let twins : List Noted = where_divided 10 number (equal_to_twin number) in
    let tops : List Noted = where_divided 100 number (below_everything number) in
    let last : RisesFrom (20002 + 3 * number) (tops ++ rest) =
    put_where (number % 100 == 0) (20002 + 3 * number) (20002 + 3 * number) (20003 + 3 * number) (below_everything number) rest (rank-everything number few) (omega arith) (omega arith) rises in
    let later : RisesFrom (20001 + 3 * number) (twins ++ (tops ++ rest)) =
    put_where (number % 10 == 0) (20001 + 3 * number) (20001 + 3 * number) (20002 + 3 * number) (equal_to_twin number) (tops ++ rest) (rank-twin number few) (omega arith) (omega arith) last in
    put (20000 + 3 * number) (20000 + 3 * number) (20001 + 3 * number) (below_half number) ((twins ++ tops) ++ rest) (rank-half number few) (omega arith) (omega arith)
    (subst (RisesFrom (20001 + 3 * number)) (sym (append_assoc twins tops rest)) later)

classes_rise : (number n : ℕ) → number + n ≤ 10001 → RisesFrom (20000 + 3 * number) (flat_map axioms_of_class (range_with_len number n))
classes_rise number zero few = tt
classes_rise number (suc n) few =
    let rest : List Noted = flat_map axioms_of_class (range_with_len (number + 1) n) in
    class_rises number rest (omega arith) (from_lower (20000 + 3 * (number + 1)) (20003 + 3 * number) rest (omega arith) (classes_rise (number + 1) n (omega arith)))

declarations_rise : (number n : ℕ) (rest : List Noted) → number + n ≤ 10001 → RisesFrom 20000 rest → RisesFrom number (map declaration (range_with_len number n) ++ rest)
declarations_rise number zero rest few rises = from_lower 20000 number rest (omega arith) rises
declarations_rise number (suc n) rest few rises =
    put number number (number + 1) (declaration number) (map declaration (range_with_len (number + 1) n) ++ rest) (rank-declaration number (omega arith)) (omega arith) (omega arith)
    (declarations_rise (number + 1) n rest (omega arith) rises)

-- the axioms of a generated ontology are distinct
pub generated_distinct : (size : ℕ) → size ≤ 10000 → IsDistinct same_axiom (generated size)
unfolding generated
generated_distinct size few =
    let classes : List Noted = flat_map axioms_of_class (range_with_len 1 size) in
    rising_distinct 0 (map declaration (range_with_len 0 (size + 1)) ++ classes)
    (declarations_rise 0 (size + 1) classes (omega arith) (from_lower 20003 20000 classes (omega arith) (classes_rise 1 size (omega arith))))
