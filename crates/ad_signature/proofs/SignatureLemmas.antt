-- The list of first occurrences has no entity twice, and has each entity that occurs.
use Rattle.std.proofs.Common.{◌≡◌, Bool, true, false, cond, not, ◌||◌, List, [], ◌∷◌, refl, ap, ◌∙◌}
use Rattle.std.specs.List.{AllByRecursion, IsDistinct, filter}
use Rattle.ad_entity.specs.Entities.{same_entity, has_entity}
use Rattle.ad_entity.specs.declared.entities.Entity.{Entity}
use Rattle.ad_syntax_laws.proofs.EntityLemmas.{same_entity_is}
use Rattle.ad_signature.specs.Firsts.{firsts}

-- what all have, those that pass have
each_filter : {A : Type 0} (P : A → Type 0) (p : A → Bool) (xs : List A) → AllByRecursion P xs → AllByRecursion P (filter p xs)
each_filter P p [] h = h
each_filter P p (x ∷ xs) h = elim (p x) as (λ b. AllByRecursion P (cond b (x ∷ filter p xs) (filter p xs))) [
  | true ↦ (h.0, each_filter P p xs h.1)
  | false ↦ each_filter P p xs h.1
]

distinct_filter : {A : Type 0} (same : A → A → Bool) (p : A → Bool) (xs : List A) → IsDistinct same xs → IsDistinct same (filter p xs)
unfolding IsDistinct
distinct_filter same p [] d = d
distinct_filter same p (x ∷ xs) d = elim (p x) as (λ b. IsDistinct same (cond b (x ∷ filter p xs) (filter p xs))) [
  | true ↦ (each_filter (λ y. same x y ≡ false) p xs d.0, distinct_filter same p xs d.1)
  | false ↦ distinct_filter same p xs d.1
]

-- the entities of a list but for one
abbrev but : Entity → List Entity → List Entity
but e es = filter (λ x. not (same_entity e x)) es

but_differ : (e : Entity) (xs : List Entity) → AllByRecursion (λ y. same_entity e y ≡ false) (but e xs)
but_differ e [] = tt
but_differ e (x ∷ xs) = elim (same_entity e x) as (λ b. same_entity e x ≡ b → AllByRecursion (λ y. same_entity e y ≡ false) (cond (not b) (x ∷ but e xs) (but e xs))) [
  | true ↦ λ s. but_differ e xs
  | false ↦ λ s. (s, but_differ e xs)
] refl

pub firsts_distinct : (es : List Entity) → IsDistinct same_entity (firsts es)
unfolding IsDistinct
firsts_distinct [] = tt
firsts_distinct (e ∷ es) = (but_differ e (firsts es), distinct_filter same_entity (λ x. not (same_entity e x)) (firsts es) (firsts_distinct es))

or_twice : (a b c : Bool) → (a || b) ≡ (a || c) → (a || b) ≡ (a || (a || c))
or_twice true b c h = refl
or_twice false b c h = h

or_between : (a b c d : Bool) → (a || c) ≡ (a || d) → (a || (b || c)) ≡ (a || (b || d))
or_between true b c d h = refl
or_between false b c d h = ap (λ x. b || x) h

-- with the one itself the list has what it had
has_but : (e a : Entity) (xs : List Entity) → (same_entity e a || has_entity (but e xs) a) ≡ (same_entity e a || has_entity xs a)
has_but e a [] = refl
has_but e a (x ∷ xs) = elim (same_entity e x) as (λ b. same_entity e x ≡ b
    → (same_entity e a || has_entity (cond (not b) (x ∷ but e xs) (but e xs)) a) ≡ (same_entity e a || (same_entity x a || has_entity xs a))) [
      | true ↦ λ s. or_twice (same_entity e a) (has_entity (but e xs) a) (has_entity xs a) (has_but e a xs)
          ∙ ap (λ y. same_entity e a || (same_entity y a || has_entity xs a)) (same_entity_is e x s)
      | false ↦ λ s. or_between (same_entity e a) (same_entity x a) (has_entity (but e xs) a) (has_entity xs a) (has_but e a xs)
    ] refl

pub has_firsts : (es : List Entity) (a : Entity) → has_entity (firsts es) a ≡ has_entity es a
has_firsts [] a = refl
has_firsts (e ∷ es) a = has_but e a (firsts es) ∙ ap (λ b. same_entity e a || b) (has_firsts es a)
