-- Rows by the tests of their members.
use Rattle.std.proofs.Common.{◌≡◌, ◌≢◌, ℕ, zero, suc, ◌+◌, ◌≤◌, ◌<◌, Bool, true, false, not, cond, ◌&&◌, ◌||◌, List, [], ◌∷◌, ◌++◌, add_assoc, length, set, replicate, refl, ap, sym, ◌∙◌, arith, inl, inr}
use Rattle.std.proofs.lemmas.List.{get_or-set_same, get_or-set_other, get_or-replicate, get_or_past, length-replicate, same_lists, get_or_default}
use Rattle.std.proofs.lemmas.Bool.{cases_lt, cases_Bool, both_ways, true≢false, false≢true, or_left, or_right, or_cases, and_parts, false_from_ne_true}
use Rattle.ad_bits.specs.Rows.{has, union, minus, member_count, IsSubset, Meets}

-- ---- the members after a change

-- above its size a row has no member
pub has_past : (row : List Bool) (i : ℕ) → length row ≤ i → has row i ≡ false
has_past row i above = get_or_past row i false above

pub has-replicate : (n i : ℕ) → has (replicate n false) i ≡ false
has-replicate n i =
    elim (cases_lt i n) [
      | inl below ↦ get_or-replicate n i false false below
      | inr above ↦ get_or_past (replicate n false) i false (omega (arith, length-replicate n false))
    ]

pub has-union : (a b : List Bool) (i : ℕ) → has (union a b) i ≡ (has a i || has b i)
has-union [] b i = refl
has-union (x ∷ a) [] zero = elim x as (λ v. v ≡ (v || false)) [ true ↦ refl | false ↦ refl ]
has-union (x ∷ a) [] (suc i) = elim (has a i) as (λ v. v ≡ (v || false)) [ true ↦ refl | false ↦ refl ]
has-union (x ∷ a) (y ∷ b) zero = refl
has-union (x ∷ a) (y ∷ b) (suc i) = has-union a b i

pub has-minus : (a b : List Bool) (i : ℕ) → has (minus a b) i ≡ (has a i && not (has b i))
has-minus [] b i = refl
has-minus (x ∷ a) [] zero = elim x as (λ v. v ≡ (v && true)) [ true ↦ refl | false ↦ refl ]
has-minus (x ∷ a) [] (suc i) = elim (has a i) as (λ v. v ≡ (v && true)) [ true ↦ refl | false ↦ refl ]
has-minus (x ∷ a) (y ∷ b) zero = refl
has-minus (x ∷ a) (y ∷ b) (suc i) = has-minus a b i

pub has-set_same : (row : List Bool) (i : ℕ) (b : Bool) → i < length row → has (set row i b) i ≡ b
has-set_same row i b within = get_or-set_same row i b false within

pub has-set_other : (row : List Bool) (i k : ℕ) (b : Bool) → k ≢ i → has (set row i b) k ≡ has row k
has-set_other row i k b other = get_or-set_other row i k b false other

-- ---- sizes

pub length-union : (a b : List Bool) → length a ≡ length b → length (union a b) ≡ length a
length-union [] [] same = refl
length-union [] (y ∷ b) same = sym same
length-union (x ∷ a) [] same = refl
length-union (x ∷ a) (y ∷ b) same = ap suc (length-union a b (omega arith))

pub length-minus : (a b : List Bool) → length (minus a b) ≡ length a
length-minus [] b = refl
length-minus (x ∷ a) [] = refl
length-minus (x ∷ a) (y ∷ b) = ap suc (length-minus a b)

-- ---- rows with the same members

pub same_rows : (a b : List Bool) → length a ≡ length b → ((i : ℕ) → has a i ≡ has b i) → a ≡ b
same_rows a b size each =
    same_lists a b size (λ k d within. get_or_default a k d false within ∙ each k ∙ get_or_default b k false d (omega arith))

-- ---- how many members

pub member_count-le : (row : List Bool) → member_count row ≤ length row
member_count-le [] = omega arith
member_count-le (true ∷ row) = omega (arith, member_count-le row)
member_count-le (false ∷ row) = omega (arith, member_count-le row)

pub member_count-append : (a b : List Bool) → member_count (a ++ b) ≡ member_count a + member_count b
member_count-append [] b = omega arith
member_count-append (x ∷ a) b = ap (λ n. cond x 1 0 + n) (member_count-append a b) ∙ sym (add_assoc (cond x 1 0) (member_count a) (member_count b))

pub member_count-replicate : (n : ℕ) → member_count (replicate n false) ≡ 0
member_count-replicate zero = refl
member_count-replicate (suc n) = ap (λ m. 0 + m) (member_count-replicate n)

-- a new member counts
pub member_count-set : (row : List Bool) (i : ℕ) → i < length row → has row i ≡ false → member_count (set row i true) ≡ member_count row + 1
member_count-set [] i within none = absurd (omega arith)
member_count-set (true ∷ row) zero within none = absurd (true≢false none)
member_count-set (false ∷ row) zero within none = omega arith
member_count-set (x ∷ row) (suc i) within none = omega (arith, member_count-set row i (omega arith) none)

-- a member that goes counted
pub member_count-unset : (row : List Bool) (i : ℕ) → has row i ≡ true → member_count (set row i false) + 1 ≡ member_count row
member_count-unset [] i some = absurd (false≢true some)
member_count-unset (true ∷ row) zero some = omega arith
member_count-unset (false ∷ row) zero some = absurd (false≢true some)
member_count-unset (x ∷ row) (suc i) some = omega (arith, member_count-unset row i some)

pub member_count-subset : (a b : List Bool) → IsSubset a b → member_count a ≤ member_count b
member_count-subset [] b subset = omega arith
member_count-subset (true ∷ a) [] subset = absurd (false≢true (subset 0 refl))
member_count-subset (false ∷ a) [] subset = omega (arith, member_count-subset a [] (λ i member. subset (suc i) member))
member_count-subset (true ∷ a) (true ∷ b) subset = omega (arith, member_count-subset a b (λ i member. subset (suc i) member))
member_count-subset (true ∷ a) (false ∷ b) subset = absurd (false≢true (subset 0 refl))
member_count-subset (false ∷ a) (y ∷ b) subset = omega (arith, member_count-subset a b (λ i member. subset (suc i) member))

-- a row with a member outside a subset of it has more members
pub member_count-outside : (a b : List Bool) (i : ℕ) → IsSubset a b → has a i ≡ false → has b i ≡ true → member_count a < member_count b
member_count-outside a [] i subset out here = absurd (false≢true here)
member_count-outside [] (true ∷ b) zero subset out here = omega arith
member_count-outside [] (false ∷ b) zero subset out here = absurd (false≢true here)
member_count-outside [] (y ∷ b) (suc i) subset out here = omega (arith, member_count-outside [] b i (λ k member. absurd (false≢true member)) refl here)
member_count-outside (true ∷ a) (y ∷ b) zero subset out here = absurd (true≢false out)
member_count-outside (false ∷ a) (true ∷ b) zero subset out here = omega (arith, member_count-subset a b (λ k member. subset (suc k) member))
member_count-outside (false ∷ a) (false ∷ b) zero subset out here = absurd (false≢true here)
member_count-outside (true ∷ a) (true ∷ b) (suc i) subset out here = omega (arith, member_count-outside a b i (λ k member. subset (suc k) member) out here)
member_count-outside (true ∷ a) (false ∷ b) (suc i) subset out here = absurd (false≢true (subset 0 refl))
member_count-outside (false ∷ a) (y ∷ b) (suc i) subset out here = omega (arith, member_count-outside a b i (λ k member. subset (suc k) member) out here)

-- a row that has no members has none
pub none_from_count : (row : List Bool) → member_count row ≡ 0 → (i : ℕ) → has row i ≡ false
none_from_count [] none i = refl
none_from_count (true ∷ row) none i = absurd (omega arith)
none_from_count (false ∷ row) none zero = refl
none_from_count (false ∷ row) none (suc i) = none_from_count row (omega arith) i

-- ---- subsets

-- a member is below the size
pub within_size : (row : List Bool) (i : ℕ) → has row i ≡ true → i < length row
within_size row i member =
    elim (cases_lt i (length row)) [
      | inl below ↦ below
      | inr above ↦ absurd (both_ways (has row i) (has_past row i above) member)
    ]

pub subset_union_left : (a b : List Bool) → IsSubset a (union a b)
subset_union_left a b i member = has-union a b i ∙ or_left (has a i) (has b i) member

pub subset_union_right : (a b : List Bool) → IsSubset b (union a b)
subset_union_right a b i member = has-union a b i ∙ or_right (has a i) (has b i) member

pub union_subset : (a b c : List Bool) → IsSubset a c → IsSubset b c → IsSubset (union a b) c
union_subset a b c left right i member =
    elim (or_cases (has a i) (has b i) (sym (has-union a b i) ∙ member)) [ inl here ↦ left i here | inr there ↦ right i there ]

pub minus_subset : (a b : List Bool) → IsSubset (minus a b) a
minus_subset a b i member = (and_parts (has a i) (not (has b i)) (sym (has-minus a b i) ∙ member)).0

-- rows of one size that are subsets of each other are the same
pub same_from_subsets : (a b : List Bool) → length a ≡ length b → IsSubset a b → IsSubset b a → a ≡ b
same_from_subsets a b size up down =
    same_rows a b size
    (λ i.
    elim (cases_Bool (has b i)) [
      | inl member ↦ down i member ∙ sym member
      | inr none ↦ false_from_ne_true (has a i) (λ member. both_ways (has b i) none (up i member)) ∙ sym none
    ])

-- rows that don't meet
pub apart : (a b : List Bool) → ¬ Meets a b → (i : ℕ) → has a i ≡ true → has b i ≡ false
apart a b not_both i here = false_from_ne_true (has b i) (λ there. not_both (i, here, there))
