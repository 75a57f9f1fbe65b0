-- Entities that were entered have numbers, those that had one keep it, and no others get one; and why one was not entered.
use Rattle.std.proofs.Common.{◌≡◌, ◌||◌, ◌<◌, ◌+◌, ℕ, zero, suc, Bool, false, cond, IsTrue, IsFalse, List, [], ◌∷◌, length, take, get_or, Option, None, Some, refl, sym, ap, ◌∙◌, subst, inl, inr, arith}
use Rattle.std.specs.Option.{MatchOption, IsSome}
use Rattle.std.proofs.lemmas.List.{take_more}
use Rattle.std.proofs.lemmas.List.Folds.{list_any-append}
use Rattle.ad_theory.proofs.Members.{either, not_both, or_left, or_right, or_cases}
use Rattle.ad_entity.specs.Entities.{same_entity, has_entity}
use Rattle.ad_entity.specs.declared.entities.Entity.{Entity}
use Rattle.ad_syntax_laws.proofs.EntityLemmas.{same_entity_is, same_entity_refl}
use Rattle.ad_signature.specs.Numbering.{number_in, count}
use Rattle.ad_signature.specs.Refused.{IsRefusedFor}
use Rattle.ad_signature.specs.declared.refused.SymbolRefused.{SymbolRefused}
use Rattle.ad_signature.specs.declared.refused.SymbolRefused.TheVariants.{Full, Memory}
use Rattle.ad_flat.specs.Refused.{IsRefusedForOneOf}
use Rattle.ad_signature.specs.Entered.{IsGiven, IsEntered}
use Rattle.ad_signature.specs.declared.numbers.EntityNumbers.{EntityNumbers}

module _ (limit : ℕ) (before : EntityNumbers) (entity : Entity) (after : EntityNumbers) (n : ℕ) where
  number_after : (had : Option ℕ) → number_in before entity ≡ had → MatchOption had (IsGiven limit before entity after n) (λ m. (n ≡ m) × (after ≡ before)) → number_in after entity ≡ Some n
  number_after None e g = g.names entity ∙ ap (λ b. cond b (Some n) (number_in before entity)) (same_entity_refl entity)
  number_after (Some m) e g = ap (λ k. number_in k entity) g.1 ∙ e ∙ ap Some (sym g.0)

  pub entered_number : IsEntered limit before entity after n → number_in after entity ≡ Some n
  entered_number g = number_after (number_in before entity) refl g

  kept_after : (had : Option ℕ) → number_in before entity ≡ had → MatchOption had (IsGiven limit before entity after n) (λ m. (n ≡ m) × (after ≡ before))
      → (e : Entity) (m : ℕ) → number_in before e ≡ Some m → number_in after e ≡ Some m
  kept_after None h g e m k = elim (either (same_entity entity e)) [
    | inl t ↦ (let z : None ≡ Some m = sym h ∙ ap (number_in before) (same_entity_is entity e t) ∙ k in cc)
    | inr f ↦ g.names e ∙ ap (λ b. cond b (Some n) (number_in before e)) f ∙ k
  ]
  kept_after (Some l) h g e m k = ap (λ z. number_in z e) g.1 ∙ k

  pub entered_kept : IsEntered limit before entity after n → (e : Entity) (m : ℕ) → number_in before e ≡ Some m → number_in after e ≡ Some m
  entered_kept g = kept_after (number_in before entity) refl g

  other_after : (had : Option ℕ) → MatchOption had (IsGiven limit before entity after n) (λ m. (n ≡ m) × (after ≡ before)) → (e : Entity) → IsFalse (same_entity entity e) → number_in after e ≡ number_in before e
  other_after None g e f = g.names e ∙ ap (λ b. cond b (Some n) (number_in before e)) f
  other_after (Some l) g e f = ap (λ z. number_in z e) g.1

  pub entered_other : IsEntered limit before entity after n → (e : Entity) → IsFalse (same_entity entity e) → number_in after e ≡ number_in before e
  entered_other g = other_after (number_in before entity) g

has_at : (es : List Entity) (k : ℕ) (x e : Entity) → k < length es → x ≡ get_or es k x → IsTrue (same_entity x e) → IsTrue (has_entity es e)
has_at [] k x e l is t = absurd (omega arith)
has_at (y ∷ es) zero x e l is t = or_left (same_entity y e) (has_entity es e) (subst (λ z. IsTrue (same_entity z e)) is t)
has_at (y ∷ es) (suc k) x e l is t = or_right (same_entity y e) (has_entity es e) (has_at es k x e (omega arith) is t)

-- an entity that isn't in the list is none of its members
pub none_at : (es : List Entity) (k : ℕ) (x e : Entity) → k < length es → x ≡ get_or es k x → IsFalse (has_entity es e) → IsFalse (same_entity x e)
none_at es k x e l is none = elim (either (same_entity x e)) [
  | inl t ↦ absurd (not_both (has_at es k x e l is t) none)
  | inr f ↦ f
]

some_is_some : {A : Type 0} (o : Option A) (x : A) → o ≡ Some x → IsSome o
some_is_some o x e = subst IsSome (sym e) refl

still_some : (o p : Option ℕ) → ((m : ℕ) → o ≡ Some m → p ≡ Some m) → IsSome o → IsSome p
still_some None p h s = absurd (not_both s refl)
still_some (Some m) p h s = some_is_some p m (h m refl)

-- one more of the entities was entered
pub named_more : (es : List Entity) (k : ℕ) (x : Entity) (before after : EntityNumbers) (n : ℕ) → k < length es → x ≡ get_or es k x
    → ((e : Entity) → IsTrue (has_entity (take k es) e) → IsSome (number_in before e))
    → ((e : Entity) (m : ℕ) → number_in before e ≡ Some m → number_in after e ≡ Some m) → number_in after x ≡ Some n
    → (e : Entity) → IsTrue (has_entity (take (k + 1) es) e) → IsSome (number_in after e)
named_more es k x before after n l at named kept here e t =
    let split : has_entity (take (k + 1) es) e ≡ (has_entity (take k es) e || (same_entity (get_or es k x) e || false)) =
    ap (λ fs. has_entity fs e) (take_more es k x l) ∙ list_any-append (λ z. same_entity z e) (take k es) (get_or es k x ∷ []) in
    elim (or_cases (has_entity (take k es) e) (same_entity (get_or es k x) e || false) (sym split ∙ t)) [
      | inl h ↦ still_some (number_in before e) (number_in after e) (kept e) (named e h)
      | inr s ↦ elim (or_cases (same_entity (get_or es k x) e) false s) [
        | inl q ↦ some_is_some (number_in after e) n (ap (number_in after) (sym (at ∙ same_entity_is (get_or es k x) e q)) ∙ here)
        | inr f ↦ absurd (not_both f refl)
      ]
    ]

-- an entity of the list was not entered
pub refused_at : (es : List Entity) (k : ℕ) (x : Entity) (limit limit' : ℕ) (before after : EntityNumbers) (why : SymbolRefused) → k < length es → x ≡ get_or es k x
    → IsRefusedFor limit before x why → limit ≡ limit' → after ≡ before → IsRefusedForOneOf (has_entity es) limit' after why
refused_at es k x limit limit' before after (Full n) l is refused bound same =
    ((x, has_at es k x x l is (same_entity_refl x), ap (λ m. number_in m x) same ∙ refused.0), ap count same ∙ refused.1 ∙ bound, refused.2 ∙ bound)
refused_at es k x limit limit' before after Memory l is refused bound same = tt

-- entities that the other test has too
pub refused_so : (f g : Entity → Bool) → ((e : Entity) → f e ≡ g e) → (limit : ℕ) (names : EntityNumbers) (why : SymbolRefused) → IsRefusedForOneOf f limit names why → IsRefusedForOneOf g limit names why
refused_so f g same limit names (Full n) refused = ((refused.0.0, sym (same refused.0.0) ∙ refused.0.1, refused.0.2), refused.1, refused.2)
refused_so f g same limit names Memory refused = refused
