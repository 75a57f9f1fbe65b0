-- The numbers of a seed's entities.
use Rattle.std.proofs.Common.{◌≡◌, ◌≢◌, ◌==◌, ◌<◌, ◌+◌, ℕ, Bool, true, false, not, ◌&&◌, ◌||◌, IsTrue, IsFalse, List, [], ◌∷◌, ◌++◌, length, get_or, take, Option, None, Some, IsSome, refl, sym, ap, ◌∙◌, subst, inl, inr, eqb-true, eq-eqb}
use Rattle.std.specs.List.{list_any}
use Rattle.std.proofs.lemmas.List.{take_more}
use Rattle.std.proofs.lemmas.List.Folds.{list_any-append}
use Rattle.ad_bits.specs.Rows.{has}
use Rattle.ad_entity.specs.Builtin.{is_builtin}
use Rattle.ad_entity.specs.Entities.{has_entity, same_entity}
use Rattle.ad_entity.specs.declared.entities.Entity.{Entity}
use Rattle.ad_theory.proofs.Members.{either, not_both, or_right}
use Rattle.ad_syntax_laws.specs.OntologyLogic.{seed_test}
use Rattle.ad_syntax_laws.proofs.EntityLemmas.{same_entity_is, same_entity_of}
use Rattle.ad_numbered.specs.Numbered.{InSlots, IsNumbered, number_of}
use Rattle.ad_module_document.proofs.FoundLemmas.{or_false}

has_some : (o : Option ℕ) (n : ℕ) → o ≡ Some n → IsSome o
has_some o n e = subst (λ p. IsSome p) (sym e) refl

-- an entity without a number is none that has one
other_none : (number : Entity → Option ℕ) (x e : Entity) (n : ℕ) → number x ≡ None → number e ≡ Some n → IsFalse (same_entity x e)
other_none number x e n none some = elim (either (same_entity x e)) [
  | inl t ↦ (let same : None ≡ Some n = sym none ∙ ap number (same_entity_is x e t) ∙ some in cc)
  | inr f ↦ f
]

-- an entity with another number is another
other_number : (number : Entity → Option ℕ) (x e : Entity) (k n : ℕ) → number x ≡ Some k → number e ≡ Some n → n ≢ k → IsFalse (same_entity x e)
other_number number x e k n at_k at_n other = elim (either (same_entity x e)) [
  | inl t ↦ absurd (other (let same : Some k ≡ Some n = sym at_k ∙ ap number (same_entity_is x e t) ∙ at_n in cc))
  | inr f ↦ f
]

-- a row stays where the entity has no number
pub number_kept : (ontology : InSlots) (x e : Entity) (n : ℕ) (row : List Bool) → number_of ontology x ≡ None → number_of ontology e ≡ Some n → has row n ≡ (has row n || same_entity x e)
number_kept ontology x e n row none some = or_false (has row n) (same_entity x e) (other_none (number_of ontology) x e n none some)

-- it has one member more where the entity has a number
pub number_set : (ontology : InSlots) → IsNumbered ontology → (x e : Entity) (k n : ℕ) (before after : List Bool) → number_of ontology x ≡ Some k → number_of ontology e ≡ Some n
    → IsTrue (has after k) → ((j : ℕ) → j ≢ k → has after j ≡ has before j) → has after n ≡ (has before n || same_entity x e)
number_set ontology is x e k n before after at_k at_n member others = elim (either (n == k)) [
  | inl t ↦ (
      let same_number : n ≡ k = eqb-true n k t in
      let other_at : number_of ontology e ≡ Some k = at_n ∙ ap Some same_number in
      let same : x ≡ e = is.placed.one_to_one x e k (is.only x (has_some (number_of ontology x) k at_k)) (is.only e (has_some (number_of ontology e) n at_n)) at_k other_at in
      subst (λ j. IsTrue (has after j)) (sym same_number) member ∙ sym (or_right (has before n) (same_entity x e) (same_entity_of x e same)))
  | inr f ↦ (
      let other : n ≢ k = λ same. not_both (eq-eqb n k same) f in
      others n other ∙ or_false (has before n) (same_entity x e) (other_number (number_of ontology) x e k n at_k at_n other))
]

-- a built-in entity has no effect
pub builtin_kept : (x e : Entity) (b : Bool) → IsTrue (is_builtin x) → b ≡ (b || (same_entity x e && not (is_builtin e)))
builtin_kept x e b builtin = elim (either (same_entity x e)) [
  | inl t ↦ (let other : is_builtin e ≡ true = ap is_builtin (sym (same_entity_is x e t)) ∙ builtin in let out : (same_entity x e && not (is_builtin e)) ≡ false = rw (t, other) refl in or_false b (same_entity x e && not (is_builtin e)) out)
  | inr f ↦ (let out : (same_entity x e && not (is_builtin e)) ≡ false = rw f refl in or_false b (same_entity x e && not (is_builtin e)) out)
]

-- one that isn't has one
pub other_marked : (x e : Entity) (b : Bool) → IsFalse (is_builtin x) → (b || same_entity x e) ≡ (b || (same_entity x e && not (is_builtin e)))
other_marked x e b plain = elim (either (same_entity x e)) [
  | inl t ↦ (let other : is_builtin e ≡ false = ap is_builtin (sym (same_entity_is x e t)) ∙ plain in rw (t, other) refl)
  | inr f ↦ rw f refl
]

spread : (a s b : Bool) → ((a || (s || false)) && b) ≡ ((a && b) || (s && b))
spread true s true = refl
spread true true false = refl
spread true false false = refl
spread false true b = refl
spread false false b = refl

-- one more entity of the seed
pub seed_more : (seed : List Entity) (k : ℕ) (x e : Entity) → k < length seed → x ≡ get_or seed k x → seed_test (take (k + 1) seed) e ≡ (seed_test (take k seed) e || (same_entity x e && not (is_builtin e)))
seed_more seed k x e within read =
    let longer : take (k + 1) seed ≡ take k seed ++ x ∷ [] = take_more seed k x within ∙ ap (λ y. take k seed ++ y ∷ []) (sym read) in
    ap (λ s. seed_test s e) longer
    ∙ ap (λ b. b && not (is_builtin e)) (list_any-append (λ y. same_entity y e) (take k seed) (x ∷ []))
    ∙ spread (has_entity (take k seed) e) (same_entity x e) (not (is_builtin e))

apart : (s b rest : Bool) → ((s && not b) || (rest && not b)) ≡ ((s || rest) && not b)
apart true true true = refl
apart true true false = refl
apart true false rest = refl
apart false b rest = refl

-- an entity that isn't built in is one of the seed
pub plain_named : (seed : List Entity) (e : Entity) → list_any (λ x. same_entity x e && not (is_builtin x)) seed ≡ seed_test seed e
plain_named [] e = refl
plain_named (x ∷ seed) e =
    let here : (same_entity x e && not (is_builtin x)) ≡ (same_entity x e && not (is_builtin e)) = elim (either (same_entity x e)) [
      | inl t ↦ ap (λ (z : Entity). same_entity x e && not (is_builtin z)) (same_entity_is x e t)
      | inr f ↦ rw f refl
    ] in
    ap (λ b. b || list_any (λ x. same_entity x e && not (is_builtin x)) seed) here
    ∙ ap (λ b. (same_entity x e && not (is_builtin e)) || b) (plain_named seed e)
    ∙ apart (same_entity x e) (is_builtin e) (has_entity seed e)
