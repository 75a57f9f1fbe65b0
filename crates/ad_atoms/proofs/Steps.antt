-- Going through the axioms in order, and numbering the atoms by their first axioms.
use Rattle.std.proofs.Common.{◌≡◌, ℕ, ◌+◌, ◌<◌, ◌≤◌, Bool, true, false, cond, not, List, [], ◌∷◌, ◌++◌, length, get_or, map, nat_eq, Option, Some, None, is_none, IsTrue, IsFalse, inl, inr, sym, ◌∙◌, refl, ap, arith}
use Rattle.std.specs.List.{Contains, filter, list_any, position, IsDistinct}
use Rattle.std.specs.Cmp.{both_ways}
use Rattle.std.proofs.lemmas.List.{append-nil, map_push, length_push}
use Rattle.std.proofs.lemmas.List.Elements.{filter-append}
use Rattle.std.proofs.lemmas.List.Quantifiers.{position-Some}
use Rattle.ad_theory.specs.Numbers.{sum_where}
use Rattle.ad_tables.specs.Rows.{Numbered}
use Rattle.ad_theory.proofs.Members.{either, not_both, and_intro, and_left, and_right, Has, has_of_contains, contains_of_has, has_get_or, any_of_has, has_of_any, filter_has, filter_same, filter-filter}
use Rattle.ad_decomposition.specs.Atoms.{AreAtoms, firsts_among, same_module, in_atoms, size_of}
use Rattle.ad_decomposition.specs.Tables.{AreNested}
use Rattle.ad_decomposition.proofs.Firsts.{firsts_has, firsts-push, has_place, position_same, length-filter-le, length-firsts-le}
use Rattle.ad_decomposition.proofs.Depends.{same_equivalence, same_intro, same_down, same_up, depends_member, member_depends}
use Rattle.ad_atoms.specs.Numbering.{AreAtomsOf, is_mutual, done_in_atoms, done_firsts}
use Rattle.ad_atoms.proofs.Places.{position-push_some, position-push_none}
use Rattle.ad_atoms.proofs.Counts.{counted}

-- one more tautology
abbrev pub with_tautology : Numbered → Numbered
with_tautology atoms = record { atom_of = atoms.atom_of; firsts = atoms.firsts; sizes = atoms.sizes; tautologies = atoms.tautologies + 1 }

-- one more atom, with these entries, its first axiom and its size
abbrev pub with_first : Numbered → List (Option ℕ) → ℕ → ℕ → Numbered
with_first atoms entries a size = record { atom_of = entries; firsts = atoms.firsts ++ a ∷ []; sizes = atoms.sizes ++ size ∷ []; tautologies = atoms.tautologies }

-- the entry of an axiom with an atom, and of one with none
own_entry : (G : ℕ → ℕ → Bool) (a : ℕ) (o : Option ℕ) → IsTrue (G a a) → cond (G a a) o None ≡ o
own_entry G a o t = rw t refl

no_entry : (G : ℕ → ℕ → Bool) (a : ℕ) (o : Option ℕ) → IsFalse (G a a) → cond (G a a) o None ≡ None
no_entry G a o f = rw f refl

none_is : (o : Option ℕ) → IsTrue (is_none o) → o ≡ None
none_is None e = refl
none_is (Some x) e = cc

module _ (G : ℕ → ℕ → Bool) (order : List ℕ) where
  pub atoms_as : (done done' : List ℕ) (atoms atoms' : Numbered) → done' ≡ done → atoms'.firsts ≡ atoms.firsts → atoms'.sizes ≡ atoms.sizes → atoms'.tautologies ≡ atoms.tautologies → atoms'.atom_of ≡ atoms.atom_of → AreAtomsOf G order done atoms → AreAtomsOf G order done' atoms'
  atoms_as done done' atoms atoms' d f s t e h = record {
    firsts_are = f ∙ h.firsts_are ∙ sym (ap (done_firsts G order) d);
    sizes_are = s ∙ h.sizes_are ∙ sym (ap (λ xs. map (size_of G order) (done_firsts G order xs)) d);
    tautologies_are = t ∙ h.tautologies_are ∙ sym (ap (λ xs. length (filter (λ a. not (G a a)) xs)) d);
    of_axioms = λ a o. ap (λ xs. get_or xs a None) e ∙ h.of_axioms a o ∙ sym (ap (λ xs. cond (G a a) (position (same_module G order a) (done_firsts G order xs)) None) d);
    of_others = λ a n. ap (λ xs. get_or xs a None) e ∙ h.of_others a n;
  }

  -- all were gone through
  pub all_done : (done : List ℕ) (atoms atoms' : Numbered) → order ≡ done → atoms' ≡ atoms → AreAtomsOf G order done atoms → AreAtoms G order atoms'
  all_done done atoms atoms' d e h =
      let h' : AreAtomsOf G order order atoms' = atoms_as done order atoms atoms' d (ap (λ a. a.firsts) e) (ap (λ a. a.sizes) e) (ap (λ a. a.tautologies) e) (ap (λ a. a.atom_of) e) h in
      record { firsts_are = h'.firsts_are; sizes_are = h'.sizes_are; tautologies_are = h'.tautologies_are; of_axioms = h'.of_axioms; of_others = h'.of_others }

  -- how many there are
  pub length-firsts : (done : List ℕ) (atoms : Numbered) → AreAtomsOf G order done atoms → length atoms.firsts ≤ length done
  length-firsts done atoms h = omega (arith, ap length h.firsts_are, length-firsts-le (same_module G order) (done_in_atoms G done), length-filter-le (λ a. G a a) done)

  pub tautologies-le : (done : List ℕ) (atoms : Numbered) → AreAtomsOf G order done atoms → atoms.tautologies ≤ length done
  tautologies-le done atoms h = omega (arith, h.tautologies_are, length-filter-le (λ a. not (G a a)) done)

  in_atoms-push_own : (done : List ℕ) (a : ℕ) → IsTrue (G a a) → done_in_atoms G (done ++ a ∷ []) ≡ done_in_atoms G done ++ a ∷ []
  in_atoms-push_own done a t = let here : G a a ≡ true = t in filter-append (λ a. G a a) done (a ∷ []) ∙ rw here refl

  in_atoms-push_none : (done : List ℕ) (a : ℕ) → IsFalse (G a a) → done_in_atoms G (done ++ a ∷ []) ≡ done_in_atoms G done
  in_atoms-push_none done a f = let here : G a a ≡ false = f in filter-append (λ a. G a a) done (a ∷ []) ∙ rw here (append-nil (done_in_atoms G done))

  tautologies-push_own : (done : List ℕ) (a : ℕ) → IsTrue (G a a) → length (filter (λ a. not (G a a)) (done ++ a ∷ [])) ≡ length (filter (λ a. not (G a a)) done)
  tautologies-push_own done a t = let here : G a a ≡ true = t in ap length (filter-append (λ a. not (G a a)) done (a ∷ []) ∙ rw here (append-nil (filter (λ a. not (G a a)) done)))

  tautologies-push_none : (done : List ℕ) (a : ℕ) → IsFalse (G a a) → length (filter (λ a. not (G a a)) (done ++ a ∷ [])) ≡ length (filter (λ a. not (G a a)) done) + 1
  tautologies-push_none done a f = let here : G a a ≡ false = f in ap length (filter-append (λ a. not (G a a)) done (a ∷ []) ∙ rw here refl) ∙ length_push (filter (λ a. not (G a a)) done) a

  -- a tautology is counted
  pub tautology_done : (done : List ℕ) (atoms : Numbered) (a : ℕ) → AreAtomsOf G order done atoms → IsFalse (G a a) → AreAtomsOf G order (done ++ a ∷ []) (with_tautology atoms)
  tautology_done done atoms a h f =
      let same : done_firsts G order (done ++ a ∷ []) ≡ done_firsts G order done = ap (firsts_among (same_module G order)) (in_atoms-push_none done a f) in
      record {
        firsts_are = h.firsts_are ∙ sym same;
        sizes_are = h.sizes_are ∙ sym (ap (map (size_of G order)) same);
        tautologies_are = ap (λ n. n + 1) h.tautologies_are ∙ sym (tautologies-push_none done a f);
        of_axioms = λ b o. h.of_axioms b o ∙ sym (ap (λ fs. cond (G b b) (position (same_module G order b) fs) None) same);
        of_others = h.of_others;
      }

  -- whether an axiom has an atom among those gone through
  firsts-same : (done : List ℕ) (a : ℕ) → IsTrue (G a a) → done_firsts G order (done ++ a ∷ []) ≡ done_firsts G order done ++ cond (list_any (λ x. same_module G order x a) (done_in_atoms G done)) [] (a ∷ [])
  firsts-same done a t = ap (firsts_among (same_module G order)) (in_atoms-push_own done a t) ∙ firsts-push (same_module G order) (done_in_atoms G done) a

  some_same : (done : List ℕ) (a j : ℕ) → position (same_module G order a) (done_firsts G order done) ≡ Some j → IsTrue (list_any (λ x. same_module G order x a) (done_in_atoms G done))
  some_same done a j e =
      let at = position-Some (same_module G order a) (done_firsts G order done) j a e in
      let f : ℕ = get_or (done_firsts G order done) j a in
      any_of_has (λ x. same_module G order x a) (done_in_atoms G done) f (firsts_has (same_module G order) (done_in_atoms G done) f (has_get_or (done_firsts G order done) j a at.0))
      ((same_equivalence G order).symm f a ∙ at.1)

  none_same : (done : List ℕ) (a : ℕ) → position (same_module G order a) (done_firsts G order done) ≡ None → IsFalse (list_any (λ x. same_module G order x a) (done_in_atoms G done))
  none_same done a e = elim (either (list_any (λ x. same_module G order x a) (done_in_atoms G done))) [
    | inr f ↦ f
    | inl t ↦ (
        let x = has_of_any (λ x. same_module G order x a) (done_in_atoms G done) t in
        let k = has_place (same_module G order) (same_equivalence G order) (done_in_atoms G done) x.0 x.1 in
        let there : Some k.0 ≡ None = sym k.1 ∙ position_same (same_module G order) (same_equivalence G order) (done_firsts G order done) x.0 a x.2 ∙ e in
        cc
        )
  ]

  -- an axiom of an atom that was found already changes nothing
  pub member_done : (done : List ℕ) (atoms : Numbered) (a : ℕ) → AreAtomsOf G order done atoms → Contains order a → IsTrue (G a a) → IsFalse (is_none (get_or atoms.atom_of a None)) → AreAtomsOf G order (done ++ a ∷ []) atoms
  member_done done atoms a h o t taken =
      let fs : List ℕ = done_firsts G order done in
      let entry : get_or atoms.atom_of a None ≡ position (same_module G order a) fs = h.of_axioms a o ∙ own_entry G a (position (same_module G order a) fs) t in
      let some : IsTrue (list_any (λ x. same_module G order x a) (done_in_atoms G done)) = found (position (same_module G order a) fs) refl (ap is_none (sym entry) ∙ taken) in
      let same : done_firsts G order (done ++ a ∷ []) ≡ fs = firsts-same done a t ∙ ap (λ b. fs ++ cond b [] (a ∷ [])) some ∙ append-nil fs in
      record {
        firsts_are = h.firsts_are ∙ sym same;
        sizes_are = h.sizes_are ∙ sym (ap (map (size_of G order)) same);
        tautologies_are = h.tautologies_are ∙ sym (tautologies-push_own done a t);
        of_axioms = λ b p. h.of_axioms b p ∙ sym (ap (λ gs. cond (G b b) (position (same_module G order b) gs) None) same);
        of_others = h.of_others;
      }
    where
      found : (p : Option ℕ) → position (same_module G order a) (done_firsts G order done) ≡ p → IsFalse (is_none p) → IsTrue (list_any (λ x. same_module G order x a) (done_in_atoms G done))
      found None e n = absurd (not_both refl n)
      found (Some j) e n = some_same done a j e

  module _ (nest : AreNested G order) where
    -- of two axioms of atoms each is in the module of the other exactly where their modules are the same
    same_is_mutual : (a b : ℕ) → Contains order a → Contains order b → IsTrue (G a a) → IsTrue (G b b) → same_module G order a b ≡ is_mutual G a b
    same_is_mutual a b o p s t = both_ways (same_module G order a b) (is_mutual G a b)
        (λ h. and_intro (G a b) (G b a) (depends_member G order nest a b p t (same_down G order a b h)) (depends_member G order nest b a o s (same_up G order a b h)))
        (λ h. same_intro G order a b (member_depends G order nest a b o (and_left (G a b) (G b a) h)) (member_depends G order nest b a p (and_right (G a b) (G b a) h)))

    mutual_listed : (a b : ℕ) → Contains order a → IsTrue (is_mutual G a b) → Contains order b
    mutual_listed a b o h = nest.within a b o (and_left (G a b) (G b a) h)

    mutual_own : (a b : ℕ) → Contains order a → IsTrue (is_mutual G a b) → IsTrue (G b b)
    mutual_own a b o h = nest.nested b a b (mutual_listed a b o h) (and_right (G a b) (G b a) h) (and_left (G a b) (G b a) h)

    -- the first axiom of an atom that was not found yet
    module _ (done : List ℕ) (atoms : Numbered) (a : ℕ) (h : AreAtomsOf G order done atoms) (o : Contains order a) (t : IsTrue (G a a)) (free : IsTrue (is_none (get_or atoms.atom_of a None))) where
      no_place : position (same_module G order a) (done_firsts G order done) ≡ None
      no_place = sym (own_entry G a (position (same_module G order a) (done_firsts G order done)) t) ∙ sym (h.of_axioms a o) ∙ none_is (get_or atoms.atom_of a None) free

      new_firsts : done_firsts G order (done ++ a ∷ []) ≡ done_firsts G order done ++ a ∷ []
      new_firsts = firsts-same done a t ∙ ap (λ b. done_firsts G order done ++ cond b [] (a ∷ [])) (none_same done a no_place)

      same_free : (b : ℕ) → IsTrue (is_mutual G a b) → IsTrue (is_none (get_or atoms.atom_of b None))
      same_free b m =
          let p = mutual_listed a b o m in
          let s = mutual_own a b o m in
          let place : position (same_module G order a) (done_firsts G order done) ≡ position (same_module G order b) (done_firsts G order done) = position_same (same_module G order) (same_equivalence G order) (done_firsts G order done) a b (same_is_mutual a b o p t s ∙ m) in
          ap is_none (h.of_axioms b p ∙ own_entry G b (position (same_module G order b) (done_firsts G order done)) s ∙ sym place ∙ no_place)

      filter_mutual : filter (same_module G order a) (in_atoms G order) ≡ filter (is_mutual G a) order
      filter_mutual =
          let agree : (b : ℕ) → Has (in_atoms G order) b → same_module G order a b ≡ is_mutual G a b = λ b k. (let r = filter_has (λ c. G c c) order b k in same_is_mutual a b o (contains_of_has order b r.0) t r.1) in
          filter_same (same_module G order a) (is_mutual G a) (in_atoms G order) (λ b k e. sym (agree b k) ∙ e) (λ b k e. agree b k ∙ e)
          ∙ filter-filter (is_mutual G a) (λ b. G b b) order (λ b m. mutual_own a b o m)

      -- its atom has as many axioms as are in its module and it in theirs
      pub size_is : (slots : ℕ) → IsDistinct nat_eq order → ((b : ℕ) → Contains order b → b < slots) → sum_where (is_mutual G a) (λ _. 1) slots ≡ size_of G order a
      size_is slots distinct small =
          counted (is_mutual G a) order distinct (λ b m. has_of_contains order b (mutual_listed a b o m)) slots (λ b k. small b (contains_of_has order b k))
          ∙ sym (ap length filter_mutual)

      old_entry : (b : ℕ) → Contains order b → IsTrue (G b b) → (p : Option ℕ) → position (same_module G order b) (done_firsts G order done) ≡ p → get_or atoms.atom_of b None ≡ p
      old_entry b q s p e = h.of_axioms b q ∙ own_entry G b (position (same_module G order b) (done_firsts G order done)) s ∙ e

      new_place : (b : ℕ) → Contains order b → IsTrue (G b b) → (p : Option ℕ) → position (same_module G order b) (done_firsts G order done) ≡ p → cond (is_mutual G a b) (Some (length atoms.firsts)) (get_or atoms.atom_of b None) ≡ position (same_module G order b) (done_firsts G order done ++ a ∷ [])
      new_place b q s (Some j) e =
          let old : get_or atoms.atom_of b None ≡ Some j = old_entry b q s (Some j) e in
          let out : is_mutual G a b ≡ false = (elim (either (is_mutual G a b)) [ inr f ↦ f | inl m ↦ absurd (not_both (same_free b m) (ap is_none old)) ]) in
          ap (λ c. cond c (Some (length atoms.firsts)) (get_or atoms.atom_of b None)) out ∙ old ∙ sym (position-push_some (same_module G order b) (done_firsts G order done) a j e)
      new_place b q s None e =
          let old : get_or atoms.atom_of b None ≡ None = old_entry b q s None e in
          let test : is_mutual G a b ≡ same_module G order b a = sym (same_is_mutual a b o q t s) ∙ (same_equivalence G order).symm a b in
          ap (λ c. cond c (Some (length atoms.firsts)) (get_or atoms.atom_of b None)) test
          ∙ ap (λ x. cond (same_module G order b a) (Some (length atoms.firsts)) x) old
          ∙ ap (λ fs. cond (same_module G order b a) (Some (length fs)) None) h.firsts_are
          ∙ sym (position-push_none (same_module G order b) (done_firsts G order done) a e)

      not_joined : (b : ℕ) → (IsTrue (is_mutual G a b) → ⊥) → cond (is_mutual G a b) (Some (length atoms.firsts)) (get_or atoms.atom_of b None) ≡ get_or atoms.atom_of b None
      not_joined b n =
          let out : is_mutual G a b ≡ false = (elim (either (is_mutual G a b)) [ inr f ↦ f | inl m ↦ absurd (n m) ]) in
          ap (λ c. cond c (Some (length atoms.firsts)) (get_or atoms.atom_of b None)) out

      new_entry : (b : ℕ) → Contains order b → cond (is_mutual G a b) (Some (length atoms.firsts)) (get_or atoms.atom_of b None) ≡ cond (G b b) (position (same_module G order b) (done_firsts G order (done ++ a ∷ []))) None
      new_entry b q = elim (either (G b b)) [
        | inl s ↦ new_place b q s (position (same_module G order b) (done_firsts G order done)) refl ∙ sym (ap (position (same_module G order b)) new_firsts) ∙ sym (own_entry G b (position (same_module G order b) (done_firsts G order (done ++ a ∷ []))) s)
        | inr f ↦ not_joined b (λ m. not_both (mutual_own a b o m) f) ∙ h.of_axioms b q ∙ no_entry G b (position (same_module G order b) (done_firsts G order done)) f ∙ sym (no_entry G b (position (same_module G order b) (done_firsts G order (done ++ a ∷ []))) f)
      ]

      pub first_done : (entries : List (Option ℕ)) (size atom : ℕ) → atom ≡ length atoms.firsts → ((b : ℕ) → get_or entries b None ≡ cond (is_mutual G a b) (Some atom) (get_or atoms.atom_of b None)) → size ≡ size_of G order a → AreAtomsOf G order (done ++ a ∷ []) (with_first atoms entries a size)
      first_done entries size atom number given is =
          let are : (b : ℕ) → get_or entries b None ≡ cond (is_mutual G a b) (Some (length atoms.firsts)) (get_or atoms.atom_of b None) = λ b. given b ∙ ap (λ n. cond (is_mutual G a b) (Some n) (get_or atoms.atom_of b None)) number in
          record {
            firsts_are = ap (λ fs. fs ++ a ∷ []) h.firsts_are ∙ sym new_firsts;
            sizes_are = ap (λ ss. ss ++ size ∷ []) h.sizes_are ∙ ap (λ n. map (size_of G order) (done_firsts G order done) ++ n ∷ []) is ∙ sym (map_push (size_of G order) (done_firsts G order done) a) ∙ sym (ap (map (size_of G order)) new_firsts);
            tautologies_are = h.tautologies_are ∙ sym (tautologies-push_own done a t);
            of_axioms = λ b q. are b ∙ new_entry b q;
            of_others = λ b n. are b ∙ not_joined b (λ m. n (mutual_listed a b o m)) ∙ h.of_others b n;
          }
