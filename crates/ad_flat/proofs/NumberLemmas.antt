-- The numbers of the entities of a list.
use Rattle.std.proofs.Common.{◌≡◌, ◌==◌, ◌||◌, ℕ, Bool, true, false, IsTrue, List, [], ◌∷◌, Option, None, Some, Result, Ok, Err, IfOk, refl, sym, ap, ◌∙◌, subst, inl, inr, eqb-true, eq-eqb}
use Rattle.std.proofs.lemmas.List.Folds.{list_any-append}
use Rattle.ad_theory.specs.Numbers.{among}
use Rattle.ad_theory.proofs.Members.{not_both, or_left, or_right, or_cases}
use Rattle.ad_entity.specs.Entities.{same_entity, has_entity}
use Rattle.ad_entity.specs.declared.entities.Entity.{Entity}
use Rattle.ad_syntax_laws.proofs.EntityLemmas.{same_entity_is, same_entity_refl}
use Rattle.ad_codes.specs.Laws.{number_list, numbers_of}

module _ (number : Entity → Option ℕ) where
  pub at_number : (o : Option ℕ) (n : ℕ) → IsTrue (among (number_list o) n) → o ≡ Some n
  at_number None n t = absurd (not_both t refl)
  at_number (Some m) n t = elim (or_cases (m == n) false t) [ inl e ↦ ap Some (eqb-true m n e) | inr f ↦ absurd (not_both f refl) ]

  split : (x : Entity) (es : List Entity) (n : ℕ) → among (numbers_of number (x ∷ es)) n ≡ (among (number_list (number x)) n || among (numbers_of number es) n)
  split x es n = list_any-append (λ k. k == n) (number_list (number x)) (numbers_of number es)

  pub entity_of : (es : List Entity) (n : ℕ) → IsTrue (among (numbers_of number es) n) → (e : Entity) × IsTrue (has_entity es e) × (number e ≡ Some n)
  entity_of [] n t = absurd (not_both t refl)
  entity_of (x ∷ es) n t = elim (or_cases (among (number_list (number x)) n) (among (numbers_of number es) n) (sym (split x es n) ∙ t)) [
    | inl a ↦ (x, or_left (same_entity x x) (has_entity es x) (same_entity_refl x), at_number (number x) n a)
    | inr b ↦ (let r = entity_of es n b in (r.0, or_right (same_entity x r.0) (has_entity es r.0) r.1, r.2))
  ]

  pub number_there : (o : Option ℕ) (n : ℕ) → o ≡ Some n → IsTrue (among (number_list o) n)
  number_there o n e = subst (λ p. IsTrue (among (number_list p) n)) (sym e) (or_left (n == n) false (eq-eqb n n refl))

  pub number_among : (es : List Entity) (e : Entity) (n : ℕ) → IsTrue (has_entity es e) → number e ≡ Some n → IsTrue (among (numbers_of number es) n)
  number_among [] e n t is = absurd (not_both t refl)
  number_among (x ∷ es) e n t is = split x es n ∙ elim (or_cases (same_entity x e) (has_entity es e) t) [
    | inl a ↦ or_left (among (number_list (number x)) n) (among (numbers_of number es) n) (number_there (number x) n (ap number (same_entity_is x e a) ∙ is))
    | inr b ↦ or_right (among (number_list (number x)) n) (among (numbers_of number es) n) (number_among es e n b is)
  ]

  same_truth : (a b : Bool) → (IsTrue a → IsTrue b) → (IsTrue b → IsTrue a) → a ≡ b
  same_truth true b f g = sym (f refl)
  same_truth false true f g = g refl
  same_truth false false f g = refl

  -- lists of the same entities have the same numbers
  pub same_numbers : (es fs : List Entity) → ((e : Entity) → has_entity es e ≡ has_entity fs e) → (n : ℕ) → among (numbers_of number es) n ≡ among (numbers_of number fs) n
  same_numbers es fs same n = same_truth (among (numbers_of number es) n) (among (numbers_of number fs) n)
      (λ t. let r = entity_of es n t in number_among fs r.0 n (sym (same r.0) ∙ r.1) r.2)
      (λ t. let r = entity_of fs n t in number_among es r.0 n (same r.0 ∙ r.1) r.2)

-- what holds of a value that was found holds of it in other words
pub found_more : {A E : Type 0} (r : Result A E) (P Q : A → Type 0) → ((x : A) → P x → Q x) → IfOk r P → IfOk r Q
found_more (Ok x) P Q more p = more x p
found_more (Err e) P Q more p = p
