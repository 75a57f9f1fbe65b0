-- What is marked at the end is the module, and with the carried axioms its document.
use Rattle.std.proofs.Common.{◌≡◌, ℕ, zero, suc, ◌<◌, Bool, true, false, ◌||◌, IsTrue, List, [], ◌∷◌, length, get_or, inl, inr, refl, sym, ap, ◌∙◌, le_of_suc-le-suc, not-suc-le-zero, arith}
use Rattle.std.specs.List.{filter, list_any}
use Rattle.ad_base.specs.declared.limits.Side.{Side}
use Rattle.ad_base.specs.Kinds.{kind_of}
use Rattle.ad_tree.specs.Same.{same_axiom}
use Rattle.ad_locality.specs.Signature.{in_signature}
use Rattle.ad_tree.specs.declared.axioms.Noted.{Noted}
use Rattle.ad_entity.specs.declared.entities.Entity.{Entity}
use Rattle.ad_tree.proofs.Equality.{noted_eq-is}
use Rattle.ad_theory.specs.Sweep.{chosen}
use Rattle.ad_theory.proofs.Members.{Has, either, not_both, or_left, or_right, or_cases, has_of_contains, contains_of_has, any_of_has, has_of_any, any_same, same_any}
use Rattle.ad_syntax_laws.specs.ModuleDocument.{entities_about, goes_with, stands_in, IsModuleDocumentOf}
use Rattle.ad_sweep.specs.Swept.{IsSwept, AreMarkedToo}
use Rattle.ad_sweep.proofs.ChosenLemmas.{chosen_is_module}

-- two tests are the same where each is true wherever the other is
same_truth : (a b : Bool) → (IsTrue a → IsTrue b) → (IsTrue b → IsTrue a) → a ≡ b
same_truth true b f g = sym (f refl)
same_truth false true f g = g refl
same_truth false false f g = refl

-- a marked element is among those chosen
marked_in : {A : Type 0} (marks : List Bool) (xs : List A) (k : ℕ) (d : A) → length marks ≡ length xs → k < length xs → IsTrue (get_or marks k true) → Has (chosen marks xs) (get_or xs k d)
marked_in marks [] k d e l m = absurd (not-suc-le-zero l)
marked_in [] (x ∷ xs) k d e l m = absurd (let z : 0 ≡ suc (length xs) = e in cc)
marked_in (true ∷ marks) (x ∷ xs) zero d e l m = inl refl
marked_in (false ∷ marks) (x ∷ xs) zero d e l m = absurd (not_both m refl)
marked_in (true ∷ marks) (x ∷ xs) (suc k) d e l m = inr (marked_in marks xs k d (let z : suc (length marks) ≡ suc (length xs) = e in cc) (le_of_suc-le-suc l) m)
marked_in (false ∷ marks) (x ∷ xs) (suc k) d e l m = marked_in marks xs k d (let z : suc (length marks) ≡ suc (length xs) = e in cc) (le_of_suc-le-suc l) m

-- where the marks are a test, the chosen elements are those that pass it
chosen_by : {A : Type 0} (test : A → Bool) (marks : List Bool) (xs : List A) → length marks ≡ length xs
    → ((k : ℕ) (d : A) → k < length xs → get_or marks k true ≡ test (get_or xs k d)) → chosen marks xs ≡ filter test xs
chosen_by test [] [] e is = refl
chosen_by test [] (x ∷ xs) e is = absurd (let z : 0 ≡ suc (length xs) = e in cc)
chosen_by test (b ∷ marks) [] e is = refl
chosen_by test (true ∷ marks) (x ∷ xs) e is =
    let here : test x ≡ true = sym (is 0 x (omega arith)) in
    let rest : chosen marks xs ≡ filter test xs = chosen_by test marks xs (let z : suc (length marks) ≡ suc (length xs) = e in cc) (λ k d l. is (suc k) d (omega (arith, l))) in
    rw (here, rest) refl
chosen_by test (false ∷ marks) (x ∷ xs) e is =
    let here : test x ≡ false = sym (is 0 x (omega arith)) in
    let rest : chosen marks xs ≡ filter test xs = chosen_by test marks xs (let z : suc (length marks) ≡ suc (length xs) = e in cc) (λ k d l. is (suc k) d (omega (arith, l))) in
    rw (here, rest) refl

module _ (side : Side) (seed : Entity → Bool) (O : List Noted) (marks : List Bool) (seen : Entity → Bool) (swept : IsSwept side seed O marks seen) where
  -- an axiom is marked exactly where it is among those chosen
  mark_is : (k : ℕ) (d : Noted) → k < length O → get_or marks k true ≡ stands_in (chosen marks O) (get_or O k d)
  mark_is k d l = same_truth (get_or marks k true) (stands_in (chosen marks O) (get_or O k d))
      (λ m. same_any same_axiom noted_eq-is (chosen marks O) (get_or O k d) (marked_in marks O k d swept.sweeping.long l m))
      (λ t. elim (either (get_or marks k true)) [
        | inl m ↦ m
        | inr f ↦ absurd (not_both (swept.settled k d l f) (swept.sweeping.gathered.needed (get_or O k d)
            (contains_of_has (chosen marks O) (get_or O k d) (any_same same_axiom noted_eq-is (chosen marks O) (get_or O k d) t))))
      ])

  -- what was seen is the seed with the signatures of those chosen
  seen_is : (e : Entity) → seen e ≡ entities_about seed (chosen marks O) e
  seen_is e = same_truth (seen e) (entities_about seed (chosen marks O) e)
      (λ t. elim (swept.sweeping.gathered.only e t) [
        | inl s ↦ or_left (seed e) (list_any (λ a. in_signature a.axiom e) (chosen marks O)) s
        | inr r ↦ or_right (seed e) (list_any (λ a. in_signature a.axiom e) (chosen marks O))
            (any_of_has (λ a. in_signature a.axiom e) (chosen marks O) r.0 (has_of_contains (chosen marks O) r.0 r.1) r.2)
      ])
      (λ t. elim (or_cases (seed e) (list_any (λ a. in_signature a.axiom e) (chosen marks O)) t) [
        | inl s ↦ swept.sweeping.gathered.has_seed e s
        | inr h ↦ let r = has_of_any (λ a. in_signature a.axiom e) (chosen marks O) h in
            swept.sweeping.gathered.has_symbols r.0 e (contains_of_has (chosen marks O) r.0 r.1) r.2
      ])

  -- with the axioms that go with what was seen, they are the document
  pub document_ends : (marks' : List Bool) → length marks' ≡ length O → AreMarkedToo seen O marks marks' → IsModuleDocumentOf (kind_of side) seed O (chosen marks' O)
  document_ends marks' long too = (
    chosen marks O,
    chosen_is_module side seed O marks seen swept,
    chosen_by (λ a. stands_in (chosen marks O) a || goes_with (entities_about seed (chosen marks O)) a.axiom) marks' O long (λ k d l.
        too k d l
        ∙ ap (λ b. b || goes_with seen (get_or O k d).axiom) (mark_is k d l)
        ∙ ap (λ entities. stands_in (chosen marks O) (get_or O k d) || goes_with entities (get_or O k d).axiom) (λ i. λ e. seen_is e i)),
  )
