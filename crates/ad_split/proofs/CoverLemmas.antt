-- The genuine modules of the tops cover the ontology, and none of them lies in another.
use Rattle.std.proofs.Common.{◌≡◌, ℕ, zero, suc, ◌+◌, ◌<◌, ◌≤◌, Bool, true, false, not, ◌||◌, ◌⊎◌, List, [], ◌∷◌, length, IsTrue, IsFalse, inl, inr, refl, sym, ◌∙◌, subst, arith}
use Rattle.std.specs.List.{AllByRecursion, Contains, IsDistinct, filter, list_all, list_any}
use Rattle.std.proofs.lemmas.Map.Keys.{IsDistinct-head, IsDistinct-tail}
use Rattle.ad_theory.proofs.Members.{either, not_both, not_true, false_not, Has, has_of_contains, contains_of_has, any_of_has, has_of_any, has_filter, filter_has}
use Rattle.ad_decomposition.specs.Atoms.{depends, depends_strictly, same_module, in_atoms, firsts}
use Rattle.ad_decomposition.proofs.Firsts.{firsts_distinct, has_first, length-filter-le}
use Rattle.ad_decomposition.proofs.Depends.{depends_members, members_depend, depends_trans, same_intro, same_down, same_equivalence, strictly_intro, strictly_down, strictly_not_up}
use Rattle.ad_decomposition.proofs.Classes.{has_atom}
use Rattle.ad_split.specs.Tops.{is_top, tops}

-- a weaker test keeps no fewer elements
no_fewer : {A : Type 0} (p q : A → Bool) (xs : List A) → ((a : A) → Has xs a → IsTrue (p a) → IsTrue (q a)) → length (filter p xs) ≤ length (filter q xs)
no_fewer p q [] weaker = omega arith
no_fewer p q (x ∷ xs) weaker =
    let rest : length (filter p xs) ≤ length (filter q xs) = no_fewer p q xs (λ a h. weaker a (inr h)) in
    elim (either (p x)) [
      | inl t ↦ (let u : q x ≡ true = weaker x (inl refl) t in rw (t, u) (omega arith))
      | inr f ↦ elim (either (q x)) [ inl u ↦ rw (f, u) (omega arith) | inr g ↦ rw (f, g) rest ]
    ]

-- and more, where some element passes it and not the other
more_kept : {A : Type 0} (p q : A → Bool) (xs : List A) → ((a : A) → Has xs a → IsTrue (p a) → IsTrue (q a)) → IsFalse (list_all (λ a. not (q a) || p a) xs) → length (filter p xs) < length (filter q xs)
more_kept p q [] weaker some = absurd (not_both refl some)
more_kept p q (x ∷ xs) weaker some =
    elim (either (p x)) [
      | inl t ↦ (
          let u : q x ≡ true = weaker x (inl refl) t in
          let here : (not (q x) || p x) ≡ true = rw (t, u) refl in
          let later : IsFalse (list_all (λ a. not (q a) || p a) xs) = rw here at some in
          let rest : length (filter p xs) < length (filter q xs) = more_kept p q xs (λ a h. weaker a (inr h)) later in
          rw (t, u) (omega arith)
          )
      | inr f ↦ elim (either (q x)) [
        | inl u ↦ (let rest : length (filter p xs) ≤ length (filter q xs) = no_fewer p q xs (λ a h. weaker a (inr h)) in rw (f, u) (omega arith))
        | inr g ↦ (
            let here : (not (q x) || p x) ≡ true = rw (f, g) refl in
            let later : IsFalse (list_all (λ a. not (q a) || p a) xs) = rw here at some in
            let rest : length (filter p xs) < length (filter q xs) = more_kept p q xs (λ a h. weaker a (inr h)) later in
            rw (f, g) rest
            )
      ]
    ]

-- what differs from each element isn't the same as one
pub none_same : {A : Type 0} (same : A → A → Bool) (x : A) (xs : List A) (b : A) → AllByRecursion (λ y. same x y ≡ false) xs → Has xs b → IsTrue (same x b) → ⊥
none_same same x [] b all h s = h
none_same same x (y ∷ xs) b all (inl e) s = not_both s (subst (λ z. same x z ≡ false) (sym e) all.0)
none_same same x (y ∷ xs) b all (inr h) s = none_same same x xs b all.1 h s

-- distinct elements of a list that are the same are one
one_of_distinct : {A : Type 0} (same : A → A → Bool) (xs : List A) (a b : A) → IsDistinct same xs → Has xs a → Has xs b → IsTrue (same a b) → IsTrue (same b a) → a ≡ b
one_of_distinct same [] a b distinct h k s t = absurd h
one_of_distinct same (x ∷ xs) a b distinct (inl e) (inl f) s t = e ∙ sym f
one_of_distinct same (x ∷ xs) a b distinct (inl e) (inr k) s t = absurd (none_same same x xs b (IsDistinct-head same x xs distinct) k (subst (λ y. IsTrue (same y b)) e s))
one_of_distinct same (x ∷ xs) a b distinct (inr h) (inl f) s t = absurd (none_same same x xs a (IsDistinct-head same x xs distinct) h (subst (λ y. IsTrue (same y a)) f t))
one_of_distinct same (x ∷ xs) a b distinct (inr h) (inr k) s t = one_of_distinct same xs a b (IsDistinct-tail same x xs distinct) h k s t

module _ {A : Type 0} (G : A → A → Bool) (order : List A) where
  -- the module of what depends strictly is larger
  grows : (a b : A) → IsTrue (depends_strictly G order b a) → length (filter (G a) order) < length (filter (G b) order)
  grows a b t = more_kept (G a) (G b) order
      (λ c h s. depends_members G order b a (strictly_down G order b a t) c (contains_of_has order c h) s)
      (elim (either (depends G order a b)) [ inr f ↦ f | inl u ↦ absurd (strictly_not_up G order b a t u) ])

  -- a first axiom is a top, or another atom depends on it
  top_or_up : (a : A) → Has (firsts G order) a → Has (tops G order) a ⊎ ((b : A) × Has (firsts G order) b × IsTrue (depends_strictly G order b a))
  top_or_up a h =
      let some : Bool = list_any (λ b. depends_strictly G order b a) (firsts G order) in
      elim (either some) [
        | inl t ↦ inr (has_of_any (λ b. depends_strictly G order b a) (firsts G order) t)
        | inr f ↦ inl (has_filter (is_top G order) (firsts G order) a h (false_not some f))
      ]

  -- above each first axiom there is a top
  climbs : (left : ℕ) (a : A) → Has (firsts G order) a → length order ≤ left + length (filter (G a) order) → (t : A) × Has (tops G order) t × IsTrue (depends G order t a)
  climbs zero a h few = elim (top_or_up a h) [
    | inl top ↦ (a, top, members_depend G order a a (λ c o s. s))
    | inr up ↦ (let more = grows a up.0 up.2 in let most = length-filter-le (G up.0) order in absurd (omega arith))
  ]
  climbs (suc left) a h few = elim (top_or_up a h) [
    | inl top ↦ (a, top, members_depend G order a a (λ c o s. s))
    | inr up ↦ (
        let more = grows a up.0 up.2 in
        let above = climbs left up.0 up.1 (omega arith) in
        (above.0, above.1, depends_trans G order above.0 up.0 a above.2 (strictly_down G order up.0 a up.2))
        )
  ]

  -- each axiom of an atom is in the genuine module of a top
  pub tops_cover : (a : A) → Contains order a → IsTrue (G a a) → (t : A) × Contains (tops G order) t × IsTrue (G t a)
  tops_cover a o own =
      let first = has_first (same_module G order) (same_equivalence G order) (in_atoms G order) a (has_atom G order a o own) in
      let above = climbs (length order) first.0 first.1 (omega arith) in
      let reaches : IsTrue (G first.0 a) = depends_members G order first.0 a (same_down G order first.0 a first.2) a o own in
      (above.0, contains_of_has (tops G order) above.0 above.1, depends_members G order above.0 first.0 above.2 a o reaches)

  -- no top's module lies in that of another
  pub tops_apart : (a b : A) → Contains (tops G order) a → Contains (tops G order) b → ((c : A) → Contains order c → IsTrue (G a c) → IsTrue (G b c)) → a ≡ b
  tops_apart a b m n within =
      let first = filter_has (is_top G order) (firsts G order) a (has_of_contains (tops G order) a m) in
      let second = filter_has (is_top G order) (firsts G order) b (has_of_contains (tops G order) b n) in
      let down : IsTrue (depends G order b a) = members_depend G order b a within in
      let up : IsTrue (depends G order a b) = elim (either (depends G order a b)) [
        | inl u ↦ u
        | inr f ↦ absurd (not_both
            (any_of_has (λ c. depends_strictly G order c a) (firsts G order) b second.0 (strictly_intro G order b a down (λ u. not_both u f)))
            (not_true (list_any (λ c. depends_strictly G order c a) (firsts G order)) first.1))
      ] in
      one_of_distinct (same_module G order) (firsts G order) a b (firsts_distinct (same_module G order) (in_atoms G order)) first.0 second.0
      (same_intro G order a b up down) (same_intro G order b a down up)
