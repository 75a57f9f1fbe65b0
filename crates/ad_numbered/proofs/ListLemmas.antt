-- Lists with one more element, and ranges of numbers.
use Rattle.std.proofs.Common.{◌≡◌, ◌+◌, ◌<◌, ◌≤◌, ◌==◌, ℕ, zero, suc, false, IsTrue, List, [], ◌∷◌, ◌++◌, Option, None, Some, length, get_or, take, nat_eq, refl, sym, ap, ◌∙◌, inl, inr, arith, eqb-true, eq-eqb}
use Rattle.std.specs.Arc.{arc_value}
use Rattle.std.specs.declared.sync.Arc.{Arc}
use Rattle.std.specs.List.{AllByRecursion, AllZip, IsDistinct, range_with_len}
use Rattle.std.proofs.lemmas.List.{get_or-map, length-map, take_all, take_more}
use Rattle.std.proofs.lemmas.List.Concat.{flat_map-append}
use Rattle.std.proofs.lemmas.List.Elements.{filter-append}
use Rattle.ad_tree.specs.declared.axioms.Noted.{Noted}
use Rattle.ad_theory.specs.Numbers.{among}
use Rattle.ad_theory.proofs.Members.{either, not_both, or_left, or_right}
use Rattle.ad_syntax_laws.specs.OntologyModule.{is_logical_axiom, logical, values}
use Rattle.ad_signature.specs.Firsts.{signature_of}
use Rattle.ad_numbered.specs.Numbered.{signatures, given}

-- shared axioms

pub length-values : {Z : Type 0} (arcs : List (Arc Noted Z)) → length (values arcs) ≡ length arcs
length-values {Z} arcs = length-map arcs (λ (a : Arc Noted Z). arc_value a)

-- the values of the shared axioms up to the one at a place, and that one
pub value_more : {Z : Type 0} (arcs : List (Arc Noted Z)) (i : ℕ) (arc : Arc Noted Z) → i < length arcs → arc ≡ get_or arcs i arc
    → (a : Noted) → a ≡ arc_value arc → take (i + 1) (values arcs) ≡ take i (values arcs) ++ a ∷ []
value_more {Z} arcs i arc within read a is =
    let long : length (values arcs) ≡ length arcs = length-values arcs in
    let here : get_or (values arcs) i a ≡ arc_value arc = get_or-map (λ (a : Arc Noted Z). arc_value a) arcs i arc a within ∙ ap (λ (a : Arc Noted Z). arc_value a) (sym read) in
    take_more (values arcs) i a (omega arith) ∙ ap (λ a. take i (values arcs) ++ a ∷ []) (here ∙ sym is)

-- up to the last place these are the values of all
pub values_all : {Z : Type 0} (arcs : List (Arc Noted Z)) (i : ℕ) → length arcs ≤ i → take i (values arcs) ≡ values arcs
values_all {Z} arcs i past = let long : length (values arcs) ≡ length arcs = length-values arcs in take_all i (values arcs) (omega arith)

-- the logical axioms

pub logical-append : (xs ys : List Noted) → logical (xs ++ ys) ≡ logical xs ++ logical ys
logical-append xs ys = filter-append is_logical_axiom xs ys

pub signatures-append : (xs ys : List Noted) → signatures (xs ++ ys) ≡ signatures xs ++ signatures ys
signatures-append xs ys = flat_map-append (λ a. signature_of a.axiom) xs ys

pub signatures_logical-append : (xs ys : List Noted) → signatures (logical (xs ++ ys)) ≡ signatures (logical xs) ++ signatures (logical ys)
signatures_logical-append xs ys = ap signatures (logical-append xs ys) ∙ signatures-append (logical xs) (logical ys)

-- slots that there are

pub given-append : (xs ys : List (Option ℕ)) → given (xs ++ ys) ≡ given xs ++ given ys
given-append [] ys = refl
given-append (None ∷ xs) ys = given-append xs ys
given-append (Some x ∷ xs) ys = ap (λ l. x ∷ l) (given-append xs ys)

-- the slots up to the one at a place, and that one
pub given_more : (slots : List (Option ℕ)) (i : ℕ) (d : Option ℕ) (front : List ℕ) → front ≡ given (take i slots) → i < length slots
    → front ++ given (get_or slots i d ∷ []) ≡ given (take (i + 1) slots)
given_more slots i d front is within =
    ap (λ l. l ++ given (get_or slots i d ∷ [])) is ∙ sym (given-append (take i slots) (get_or slots i d ∷ []))
    ∙ ap given (sym (take_more slots i d within))

-- one more of each list

pub zip_more : {A B : Type 0} (R : A → B → Type 0) (xs : List A) (ys : List B) (x : A) (y : B) → AllZip R xs ys → R x y → AllZip R (xs ++ x ∷ []) (ys ++ y ∷ [])
zip_more R [] [] x y all r = (r, tt)
zip_more R [] (z ∷ ys) x y all r = absurd all
zip_more R (w ∷ xs) [] x y all r = absurd all
zip_more R (w ∷ xs) (z ∷ ys) x y all r = (all.0, zip_more R xs ys x y all.1 r)

pub zip_weaker : {A B : Type 0} (R S : A → B → Type 0) (xs : List A) (ys : List B) → ((x : A) (y : B) → R x y → S x y) → AllZip R xs ys → AllZip S xs ys
zip_weaker R S [] [] h all = tt
zip_weaker R S [] (y ∷ ys) h all = absurd all
zip_weaker R S (x ∷ xs) [] h all = absurd all
zip_weaker R S (x ∷ xs) (y ∷ ys) h all = (h x y all.0, zip_weaker R S xs ys h all.1)

-- ranges of numbers

range_suc : (a n : ℕ) → range_with_len a (suc n) ≡ range_with_len a n ++ (a + n) ∷ []
range_suc a zero = let same : a ≡ a + 0 = omega arith in ap (λ k. k ∷ []) same
range_suc a (suc n) = let same : a + 1 + n ≡ a + suc n = omega arith in ap (λ l. a ∷ l) (range_suc (a + 1) n ∙ ap (λ k. range_with_len (a + 1) n ++ k ∷ []) same)

pub range_more : (a n : ℕ) → range_with_len a (n + 1) ≡ range_with_len a n ++ (a + n) ∷ []
range_more a n = let one : n + 1 ≡ suc n = omega arith in ap (range_with_len a) one ∙ range_suc a n

pub range_among : (a n i : ℕ) → a ≤ i → i < a + n → IsTrue (among (range_with_len a n) i)
range_among a zero i l m = absurd (omega arith)
range_among a (suc n) i l m = elim (either (a == i)) [
  | inl t ↦ or_left (a == i) (among (range_with_len (a + 1) n) i) t
  | inr f ↦ or_right (a == i) (among (range_with_len (a + 1) n) i) (
      let other : a ≡ i → ⊥ = λ e. not_both (eq-eqb a i e) f in
      range_among (a + 1) n i (omega (arith, other)) (omega arith))
]

other_number : (a b : ℕ) → a < b → nat_eq a b ≡ false
other_number a b l = elim (either (nat_eq a b)) [ inl t ↦ (let e : a ≡ b = eqb-true a b t in absurd (omega arith)) | inr f ↦ f ]

range_above : (x a n : ℕ) → x < a → AllByRecursion (λ y. nat_eq x y ≡ false) (range_with_len a n)
range_above x a zero l = tt
range_above x a (suc n) l = (other_number x a l, range_above x (a + 1) n (omega arith))

pub range_distinct : (a n : ℕ) → IsDistinct nat_eq (range_with_len a n)
unfolding IsDistinct
range_distinct a zero = tt
range_distinct a (suc n) = (range_above a (a + 1) n (omega arith), range_distinct (a + 1) n)
