-- The members of a row are met one after the other by asking for the next.
use Rattle.std.proofs.Common.{◌≡◌, ℕ, zero, suc, ◌+◌, ◌-◌, ◌≤◌, ◌<◌, Bool, cond, List, [], ◌∷◌, get_or, drop, IsTrue, IsFalse, refl, sym, ◌∙◌, ap, subst, arith, suc-le-suc, zero-lt-suc}
use Rattle.std.proofs.lemmas.List.{drop-drop, get_or-drop}
use Rattle.ad_bits.specs.Rows.{has, IsLeastFrom, HasNoneFrom}
use Rattle.ad_theory.proofs.Members.{not_both}
use Rattle.ad_shapes.specs.Shapes.{places_where}
use Rattle.ad_atoms_text.specs.Numbered.{members, members_from}

least : (xs : List Bool) (i k : ℕ) → IsTrue (has xs k) → ((j : ℕ) → j < k → IsFalse (has xs j)) → places_where (λ b. b) i xs ≡ (i + k) ∷ places_where (λ b. b) (suc (i + k)) (drop (suc k) xs)
least [] i k t none = absurd (not_both t refl)
least (x ∷ xs) i zero t none =
    let rest : List ℕ = places_where (λ b. b) (suc i) xs in
    let same : i ≡ i + 0 = omega arith in
    ap (λ b. cond b (i ∷ rest) rest) t ∙ ap (λ n. n ∷ places_where (λ b. b) (suc n) xs) same
least (x ∷ xs) i (suc k) t none =
    let rest : List ℕ = places_where (λ b. b) (suc i) xs in
    let same : suc i + k ≡ i + suc k = omega arith in
    ap (λ b. cond b (i ∷ rest) rest) (none 0 (zero-lt-suc k)) ∙ least xs (suc i) k t (λ j l. none (suc j) (suc-le-suc l)) ∙ ap (λ n. n ∷ places_where (λ b. b) (suc n) (drop (suc k) xs)) same

none_left : (xs : List Bool) (i : ℕ) → ((j : ℕ) → IsFalse (has xs j)) → places_where (λ b. b) i xs ≡ []
none_left [] i none = refl
none_left (x ∷ xs) i none =
    let rest : List ℕ = places_where (λ b. b) (suc i) xs in
    ap (λ b. cond b (i ∷ rest) rest) (none 0) ∙ none_left xs (suc i) (λ j. none (suc j))

pub next_member : (row : List Bool) (from m : ℕ) → IsLeastFrom row from m → members_from from row ≡ m ∷ members_from (m + 1) row
next_member row from m is =
    let k : ℕ = m - from in
    let there : from + k ≡ m = omega (arith, is.at_or_above) in
    let member : IsTrue (has (drop from row) k) = get_or-drop from row k _ ∙ ap (has row) there ∙ is.member in
    let before : (j : ℕ) → j < k → IsFalse (has (drop from row) j) = λ j l. get_or-drop from row j _ ∙ is.none_between (from + j) (omega arith) (omega arith) in
    let rest : drop (suc k) (drop from row) ≡ drop (m + 1) row = drop-drop (suc k) from row ∙ ap (λ n. drop n row) (let next : from + suc k ≡ m + 1 = omega arith in next) in
    let past : suc (from + k) ≡ m + 1 = omega (arith, there) in
    least (drop from row) from k member before
    ∙ ap (λ xs. (from + k) ∷ places_where (λ b. b) (suc (from + k)) xs) rest
    ∙ ap (λ n. (from + k) ∷ places_where (λ b. b) n (drop (m + 1) row)) past
    ∙ ap (λ n. n ∷ members_from (m + 1) row) there

pub no_member : (row : List Bool) (from : ℕ) → HasNoneFrom row from → members_from from row ≡ []
no_member row from none = none_left (drop from row) from (λ j. get_or-drop from row j _ ∙ none (from + j) (omega arith))

-- from its first member on a row has all its members
pub from_first : (row : List Bool) (first : ℕ) → IsLeastFrom row 0 first → members_from first row ≡ members row
from_first row first is =
    let again : IsLeastFrom row first first = record { at_or_above = omega arith; member = is.member; none_between = λ k l m. absurd (omega (arith, l, m)) } in
    next_member row first first again ∙ sym (next_member row 0 first is)
