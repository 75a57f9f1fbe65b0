-- The test of entities for equality decides it.
use Rattle.std.proofs.Common.{◌≡◌, ℕ, zero, suc, List, [], ◌∷◌, ◌++◌, IsTrue, nat_eq, sym, ◌∙◌, ap, subst, refl}
use Rattle.std.proofs.lemmas.Bool.{eqb-true, eq-eqb}
use Rattle.std.proofs.lemmas.List.Folds.{list_any-append}
use Rattle.ad_base.specs.Words.{same_text}
use Rattle.ad_entity.specs.Entities.{entity, place_of, same_entity, has_entity}
use Rattle.ad_entity.specs.declared.entities.Entity.{Entity}
use Rattle.ad_entity.specs.declared.entities.EntityKind.{EntityKind}
use Rattle.ad_entity.specs.declared.entities.EntityKind.TheVariants as kinds
use Rattle.ad_tree.proofs.Equality.{entity_eq, entity_eq-is}
use Rattle.std.specs.Cmp.{both_ways}
use Rattle.ad_theory.proofs.Members.{and_intro, and_left, and_right, or_left, or_right}

pub same_text_refl : (xs : List ℕ) → IsTrue (same_text xs xs)
same_text_refl [] = refl
same_text_refl (x ∷ xs) = and_intro _ _ (eq-eqb x x refl) (same_text_refl xs)

pub same_text_is : (xs ys : List ℕ) → IsTrue (same_text xs ys) → xs ≡ ys
same_text_is [] [] h = refl
same_text_is [] (y ∷ ys) h = cc
same_text_is (x ∷ xs) [] h = cc
same_text_is (x ∷ xs) (y ∷ ys) h =
    let e : x ≡ y = eqb-true x y (and_left (nat_eq x y) (same_text xs ys) h) in
    let f : xs ≡ ys = same_text_is xs ys (and_right (nat_eq x y) (same_text xs ys) h) in
    cc

-- the kind at a place
kind_at : ℕ → EntityKind
kind_at zero = kinds.Class
kind_at (suc zero) = kinds.Datatype
kind_at (suc (suc zero)) = kinds.ObjectProperty
kind_at (suc (suc (suc zero))) = kinds.DataProperty
kind_at (suc (suc (suc (suc zero)))) = kinds.AnnotationProperty
kind_at (suc (suc (suc (suc (suc n))))) = kinds.NamedIndividual

kind_at-place_of : (k : EntityKind) → kind_at (place_of k) ≡ k
unfolding kind_at
kind_at-place_of kinds.Class = refl
kind_at-place_of kinds.Datatype = refl
kind_at-place_of kinds.ObjectProperty = refl
kind_at-place_of kinds.DataProperty = refl
kind_at-place_of kinds.AnnotationProperty = refl
kind_at-place_of kinds.NamedIndividual = refl

same_kind_is : (a b : EntityKind) → place_of a ≡ place_of b → a ≡ b
same_kind_is a b e = sym (kind_at-place_of a) ∙ ap kind_at e ∙ kind_at-place_of b

pub same_entity_refl : (a : Entity) → IsTrue (same_entity a a)
same_entity_refl a = and_intro _ _ (eq-eqb (place_of a.kind) (place_of a.kind) refl) (same_text_refl a.name)

pub same_entity_is : (a b : Entity) → IsTrue (same_entity a b) → a ≡ b
same_entity_is a b h =
    let k : a.kind ≡ b.kind = same_kind_is a.kind b.kind (eqb-true _ _ (and_left _ _ h)) in
    let n : a.name ≡ b.name = same_text_is a.name b.name (and_right _ _ h) in
    ap (λ z. entity z a.name) k ∙ ap (entity b.kind) n

pub same_entity_of : (a b : Entity) → a ≡ b → IsTrue (same_entity a b)
same_entity_of a b e = subst (λ z. IsTrue (same_entity a z)) e (same_entity_refl a)

-- it answers as the derived `==` does
pub entity_eq-same : (a b : Entity) → entity_eq a b ≡ same_entity a b
entity_eq-same a b = both_ways (entity_eq a b) (same_entity a b) (λ h. same_entity_of a b ((entity_eq-is a b).0 h)) (λ h. (entity_eq-is a b).1 (same_entity_is a b h))

-- members of joined lists
pub has_entity_left : (xs ys : List Entity) (e : Entity) → IsTrue (has_entity xs e) → IsTrue (has_entity (xs ++ ys) e)
has_entity_left xs ys e h = rw (list_any-append (λ x. same_entity x e) xs ys) (or_left _ _ h)

pub has_entity_right : (xs ys : List Entity) (e : Entity) → IsTrue (has_entity ys e) → IsTrue (has_entity (xs ++ ys) e)
has_entity_right xs ys e h = rw (list_any-append (λ x. same_entity x e) xs ys) (or_right _ _ h)
