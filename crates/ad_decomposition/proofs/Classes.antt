-- Atoms: each axiom that is no tautology has one, and two have the same exactly where their modules are the same.
use Rattle.std.proofs.Common.{◌≡◌, ◌↔◌, ℕ, ◌<◌, Bool, ◌&&◌, not, List, length, get_or, Some, None, IsTrue, IsFalse, inl, inr, refl, sym, ◌∙◌}
use Rattle.std.specs.List.{Contains, list_any, position}
use Rattle.ad_theory.proofs.Members.{either, not_both, and_intro, and_left, and_right, not_true, false_not, Has, has_of_contains, contains_of_has, has_get_or, any_of_has, has_of_any, has_filter, filter_has}
use Rattle.ad_decomposition.specs.Atoms.{same_module, depends_strictly, in_atoms, firsts, atom_of, covers}
use Rattle.ad_decomposition.proofs.Firsts.{firsts_has, has_first, place_is, has_place, one_place, position_same}
use Rattle.ad_decomposition.proofs.Depends.{same_equivalence, same_members, members_same, strictly_same_left, strictly_same_right}

module _ {A : Type 0} (G : A → A → Bool) (order : List A) where
  pub has_atom : (a : A) → Contains order a → IsTrue (G a a) → Has (in_atoms G order) a
  has_atom a o t = has_filter (λ a. G a a) order a (has_of_contains order a o) t

  pub atom_has : (a : A) → Has (in_atoms G order) a → Contains order a × IsTrue (G a a)
  atom_has a h = let r = filter_has (λ a. G a a) order a h in (contains_of_has order a r.0, r.1)

  pub first_has : (a : A) → Has (firsts G order) a → Contains order a × IsTrue (G a a)
  first_has a h = atom_has a (firsts_has (same_module G order) (in_atoms G order) a h)

  pub atom_of_own : (a : A) → IsTrue (G a a) → atom_of G order a ≡ position (same_module G order a) (firsts G order)
  atom_of_own a t = rw t refl

  pub atom_of_tautology : (a : A) → IsFalse (G a a) → atom_of G order a ≡ None
  atom_of_tautology a f = rw f refl

  pub numbered : (a : A) → Contains order a → IsTrue (G a a) → (k : ℕ) × (atom_of G order a ≡ Some k) × (k < length (firsts G order))
  numbered a o t =
      let p = has_place (same_module G order) (same_equivalence G order) (in_atoms G order) a (has_atom a o t) in
      (p.0, atom_of_own a t ∙ p.1, p.2)

  pub no_atom : (a : A) → Contains order a → (atom_of G order a ≡ None) ↔ IsFalse (G a a)
  no_atom a o = (
    λ e. elim (either (G a a)) [ inr f ↦ f | inl t ↦ (let p = numbered a o t in let q : Some p.0 ≡ None = sym p.1 ∙ e in cc) ],
    λ f. atom_of_tautology a f,
  )

  pub one_atom : (a b : A) → Contains order a → Contains order b → IsTrue (G a a) → IsTrue (G b b) → (atom_of G order a ≡ atom_of G order b) ↔ ((c : A) → Contains order c → G a c ≡ G b c)
  one_atom a b o q s t = (
    λ e. let p = numbered a o s in same_members G order a b (one_place (same_module G order) (same_equivalence G order) (firsts G order) a b p.0 (sym (atom_of_own a s) ∙ p.1) (sym (atom_of_own b t) ∙ sym e ∙ p.1)),
    λ f. atom_of_own a s ∙ position_same (same_module G order) (same_equivalence G order) (firsts G order) a b (members_same G order a b f) ∙ sym (atom_of_own b t),
  )

  pub atom_of_first : (k : ℕ) (d : A) → k < length (firsts G order) → atom_of G order (get_or (firsts G order) k d) ≡ Some k
  atom_of_first k d l =
      let f : A = get_or (firsts G order) k d in
      let h = first_has f (has_get_or (firsts G order) k d l) in
      atom_of_own f h.1 ∙ place_is (same_module G order) (same_equivalence G order) (in_atoms G order) k d f l ((same_equivalence G order).refl f)

  -- an axiom that stands strictly between two stands there with the first one of its atom
  first_between : (a b c : A) → Contains order c → IsTrue (G c c) → IsTrue (depends_strictly G order a c) → IsTrue (depends_strictly G order c b) → IsTrue (list_any (λ c. depends_strictly G order a c && depends_strictly G order c b) (firsts G order))
  first_between a b c o t s u =
      let r = has_first (same_module G order) (same_equivalence G order) (in_atoms G order) c (has_atom c o t) in
      any_of_has (λ c. depends_strictly G order a c && depends_strictly G order c b) (firsts G order) r.0 r.1
      (and_intro (depends_strictly G order a r.0) (depends_strictly G order r.0 b) (strictly_same_right G order a c r.0 s r.2) (strictly_same_left G order c b r.0 u r.2))

  pub covers_between : (a b : A) → IsTrue (covers G order a b) ↔ (IsTrue (depends_strictly G order a b) × ((c : A) → Contains order c → IsTrue (G c c) → IsTrue (depends_strictly G order a c) → IsFalse (depends_strictly G order c b)))
  covers_between a b =
      let strictly : Bool = depends_strictly G order a b in
      let between : A → Bool = λ c. depends_strictly G order a c && depends_strictly G order c b in
      let some : Bool = list_any between (firsts G order) in (
        λ t. (
          and_left strictly (not some) t,
          λ c o g s. elim (either (depends_strictly G order c b)) [
            | inr f ↦ f
            | inl u ↦ absurd (not_both (first_between a b c o g s u) (not_true some (and_right strictly (not some) t)))
          ],
        ),
        λ h. and_intro strictly (not some) h.0 (elim (either some) [
          | inr f ↦ false_not some f
          | inl u ↦ (
              let r = has_of_any between (firsts G order) u in
              let o = first_has r.0 r.1 in
              absurd (not_both (and_right (depends_strictly G order a r.0) (depends_strictly G order r.0 b) r.2) (h.1 r.0 o.0 o.1 (and_left (depends_strictly G order a r.0) (depends_strictly G order r.0 b) r.2)))
              )
        ]),
      )
