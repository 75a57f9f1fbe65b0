-- Keys: lists have the same members exactly where they have the same key; and what a map has after one key more.
use Rattle.std.proofs.Common.{◌≡◌, ◌==◌, ℕ, ◌<◌, Bool, true, false, cond, List, [], ◌∷◌, Option, IsTrue, inl, inr, refl, sym, subst, ◌∙◌, eqb-true, eq-eqb, arith}
use Rattle.std.specs.List.{AllByRecursion, list_all}
use Rattle.std.specs.List.Sorted.{IsStrictlySortedBy}
use Rattle.std.specs.Ordering.{nat_cmp, is_eq}
use Rattle.std.specs.declared.cmp.Ordering.TheVariants.{Less}
use Rattle.std.specs.Cmp.{ranked}
use Rattle.std.specs.Cmp.Lexicographic.{slice_cmp, bytes_decides}
use Rattle.std.specs.Str.{bytes_eq}
use Rattle.std.specs.BTreeMap.{BTreeMap, UpdatesBy}
use Rattle.std.specs.Map.{lookup, IsKeyTest, AreApart, KeepsOthers}
use Rattle.std.specs.declared.vec.Vec.{Vec}
use Rattle.std.proofs.lemmas.Bool.{cond-true, cond-false}
use Rattle.std.proofs.lemmas.Cmp.{eq_by_cmp_equiv, nat_list_cmp_total}
use Rattle.std.proofs.lemmas.Map.Keys.{sorted_head, sorted_tail}
use Rattle.std.proofs.lemmas.Map.Text.{is_eq-slice_cmp}
use Rattle.ad_theory.specs.Numbers.{among}
use Rattle.ad_theory.proofs.Members.{Has, has_of_contains, contains_of_has, has_of_any, any_of_has, and_intro, and_left, and_right, either, not_both}
use Rattle.ad_groups.specs.Signatures.{same_members}
use Rattle.ad_groups.specs.Keys.{IsKeyOf, value_at}

-- ---- lists with the same members

-- a test that each element passes
all_of_has : (p : ℕ → Bool) (xs : List ℕ) → ((s : ℕ) → Has xs s → IsTrue (p s)) → IsTrue (list_all p xs)
all_of_has p [] f = refl
all_of_has p (x ∷ xs) f = and_intro (p x) (list_all p xs) (f x (inl refl)) (all_of_has p xs (λ s h. f s (inr h)))

has_of_all : (p : ℕ → Bool) (xs : List ℕ) → IsTrue (list_all p xs) → (s : ℕ) → Has xs s → IsTrue (p s)
has_of_all p [] t s h = absurd h
has_of_all p (x ∷ xs) t s (inl e) = subst (λ y. IsTrue (p y)) (sym e) (and_left (p x) (list_all p xs) t)
has_of_all p (x ∷ xs) t s (inr h) = has_of_all p xs (and_right (p x) (list_all p xs) t) s h

pub among_of_has : (xs : List ℕ) (s : ℕ) → Has xs s → IsTrue (among xs s)
among_of_has xs s h = any_of_has (λ x. x == s) xs s h (eq-eqb s s refl)

pub has_of_among : (xs : List ℕ) (s : ℕ) → IsTrue (among xs s) → Has xs s
has_of_among xs s t = let r = has_of_any (λ x. x == s) xs t in subst (λ y. Has xs y) (eqb-true r.0 s r.2) r.1

pub same_members_of : (xs ys : List ℕ) → ((s : ℕ) → Has xs s → Has ys s) → ((s : ℕ) → Has ys s → Has xs s) → IsTrue (same_members xs ys)
same_members_of xs ys f g = and_intro (list_all (among ys) xs) (list_all (among xs) ys)
    (all_of_has (among ys) xs (λ s h. among_of_has ys s (f s h)))
    (all_of_has (among xs) ys (λ s h. among_of_has xs s (g s h)))

pub has_there : (xs ys : List ℕ) → IsTrue (same_members xs ys) → (s : ℕ) → Has xs s → Has ys s
has_there xs ys t s h = has_of_among ys s (has_of_all (among ys) xs (and_left (list_all (among ys) xs) (list_all (among xs) ys) t) s h)

pub has_here : (xs ys : List ℕ) → IsTrue (same_members xs ys) → (s : ℕ) → Has ys s → Has xs s
has_here xs ys t s h = has_of_among xs s (has_of_all (among xs) ys (and_right (list_all (among ys) xs) (list_all (among xs) ys) t) s h)

pub same_members_turn : (xs ys : List ℕ) → IsTrue (same_members xs ys) → IsTrue (same_members ys xs)
same_members_turn xs ys t = same_members_of ys xs (has_here xs ys t) (has_there xs ys t)

pub same_members_trans : (xs ys zs : List ℕ) → IsTrue (same_members xs ys) → IsTrue (same_members ys zs) → IsTrue (same_members xs zs)
same_members_trans xs ys zs a b = same_members_of xs zs (λ s h. has_there ys zs b s (has_there xs ys a s h)) (λ s h. has_here xs ys a s (has_here ys zs b s h))

-- the same numbers stand in both
pub same_among : (xs ys : List ℕ) → IsTrue (same_members xs ys) → (s : ℕ) → among xs s ≡ among ys s
same_among xs ys t s = elim (either (among xs s)) [
  | inl a ↦ a ∙ sym (among_of_has ys s (has_there xs ys t s (has_of_among xs s a)))
  | inr a ↦ elim (either (among ys s)) [
    | inl b ↦ absurd (not_both (among_of_has xs s (has_here xs ys t s (has_of_among ys s b))) a)
    | inr b ↦ a ∙ sym b
  ]
]

-- ---- keys

above : (x : ℕ) (xs : List ℕ) → AllByRecursion (λ y. nat_cmp x y ≡ Less) xs → (s : ℕ) → Has xs s → x < s
above x [] a s h = absurd h
above x (y ∷ ys) a s (inl e) = subst (λ z. x < z) (sym e) (ranked x y Less (sym a.0))
above x (y ∷ ys) a s (inr h) = above x ys a.1 s h

-- lists that rise and have the same members are the same
same_rising : (xs ys : List ℕ) → IsStrictlySortedBy nat_cmp xs → IsStrictlySortedBy nat_cmp ys → ((s : ℕ) → Has xs s → Has ys s) → ((s : ℕ) → Has ys s → Has xs s) → xs ≡ ys
same_rising [] [] a b f g = refl
same_rising [] (y ∷ ys) a b f g = absurd (g y (inl refl))
same_rising (x ∷ xs) [] a b f g = absurd (f x (inl refl))
same_rising (x ∷ xs) (y ∷ ys) a b f g =
    let over_x : (s : ℕ) → Has xs s → x < s = above x xs (sorted_head nat_cmp x xs a) in
    let over_y : (s : ℕ) → Has ys s → y < s = above y ys (sorted_head nat_cmp y ys b) in
    let first : x ≡ y = elim (f x (inl refl)) [
      | inl e ↦ e
      | inr h ↦ elim (g y (inl refl)) [ inl e ↦ sym e | inr k ↦ (let p : y < x = over_y x h in let q : x < y = over_x y k in absurd (omega arith)) ]
    ] in
    let rest : xs ≡ ys = same_rising xs ys (sorted_tail nat_cmp x xs a) (sorted_tail nat_cmp y ys b)
    (λ s h. elim (f s (inr h)) [ inr k ↦ k | inl e ↦ (let p : x < s = over_x s h in absurd (omega arith)) ])
    (λ s h. elim (g s (inr h)) [ inr k ↦ k | inl e ↦ (let p : y < s = over_y s h in absurd (omega arith)) ]) in
    λ i. first i ∷ rest i

key_has : {xs key : List ℕ} → IsKeyOf xs key → (s : ℕ) → Has xs s → Has key s
key_has {xs} {key} k s h = has_of_contains key s ((k.members s).0 (contains_of_has xs s h))

has_key : {xs key : List ℕ} → IsKeyOf xs key → (s : ℕ) → Has key s → Has xs s
has_key {xs} {key} k s h = has_of_contains xs s ((k.members s).1 (contains_of_has key s h))

pub same_key : (xs ys p q : List ℕ) → IsKeyOf xs p → IsKeyOf ys q → IsTrue (same_members xs ys) → p ≡ q
same_key xs ys p q k l t = same_rising p q k.rises l.rises
    (λ s h. key_has l s (has_there xs ys t s (has_key k s h)))
    (λ s h. key_has k s (has_here xs ys t s (has_key l s h)))

pub key_same : (xs ys q : List ℕ) → IsKeyOf xs q → IsKeyOf ys q → IsTrue (same_members xs ys)
key_same xs ys q k l = same_members_of xs ys (λ s h. has_key l s (key_has k s h)) (λ s h. has_key k s (key_has l s h))

-- ---- a map with one key more

module _ {K : Type 0} (eq : K → K → Bool) (test : K → Bool) where
  other_entries : {X : Type 0} (old new : List (K × X)) → KeepsOthers eq test old new → (other : K → Bool) → IsKeyTest eq other → AreApart test other → lookup other new ≡ lookup other old
  unfolding KeepsOthers
  other_entries old new h = h

apart : (bs cs ks : List ℕ) → bytes_eq bs cs ≡ false → is_eq (slice_cmp nat_cmp bs ks) ≡ true → is_eq (slice_cmp nat_cmp cs ks) ≡ false
apart bs cs ks n y = elim (either (is_eq (slice_cmp nat_cmp cs ks))) [
  | inr f ↦ f
  | inl t ↦ (
      let b : bs ≡ ks = (bytes_decides bs ks).0 (sym (is_eq-slice_cmp bs ks) ∙ y) in
      let c : cs ≡ ks = (bytes_decides cs ks).0 (sym (is_eq-slice_cmp cs ks) ∙ t) in
      absurd (not_both ((bytes_decides bs cs).1 (b ∙ sym c)) n))
]

pub updated : {X Y : Type 0} (key : List ℕ) (old new : BTreeMap (Vec ℕ Y) X) (w : Option X)
    → UpdatesBy (λ (k l : Vec ℕ Y). slice_cmp nat_cmp k.items l.items) (λ k. slice_cmp nat_cmp key k.items) old new w
    → (q : List ℕ) → value_at new q ≡ cond (bytes_eq key q) w (value_at old q)
updated {X} {Y} key old new w h q = elim (either (bytes_eq key q)) [
  | inl y ↦ subst (λ l. value_at new l ≡ w) ((bytes_decides key q).0 y) h.1 ∙ sym (cond-true (bytes_eq key q) w (value_at old q) y)
  | inr n ↦ other_entries _ _ _ _ h.3 _ (λ k l. (eq_by_cmp_equiv nat_list_cmp_total).congr q k.items l.items) (λ k. apart key q k.items n)
      ∙ sym (cond-false (bytes_eq key q) w (value_at old q) n)
]
