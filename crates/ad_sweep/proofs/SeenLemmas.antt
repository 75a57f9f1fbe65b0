-- What a sweep has seen, and where its axioms stand.
use Rattle.std.proofs.Common.{◌≡◌, ℕ, Bool, true, false, cond, not, ◌&&◌, ◌||◌, ◌⊎◌, IsFalse, List, [], ◌∷◌, get_or, map, inl, inr, refl, sym, ap, ◌∙◌}
use Rattle.std.specs.List.{fold, flat_map}
use Rattle.std.proofs.Math.ListN.{get_or-map}
use Rattle.std.proofs.lemmas.List.Folds.{list_any-append}
use Rattle.std.proofs.lemmas.List.Concat.{flat_map-cons}
use Rattle.ad_entity.specs.Entities.{same_entity, has_entity}
use Rattle.ad_entity.specs.Builtin.{is_builtin}
use Rattle.ad_locality.specs.Signature.{named}
use Rattle.ad_tree.specs.declared.axioms.Noted.{Noted}
use Rattle.ad_entity.specs.declared.entities.Entity.{Entity}
use Rattle.ad_theory.specs.Sweep.{HasAlso}
use Rattle.ad_syntax_laws.specs.OntologyLogic.{seed_test}
use Rattle.ad_syntax_laws.proofs.EntityLemmas.{same_entity_is}
use Rattle.ad_names.specs.declared.names.Names.{Names}
use Rattle.ad_names.specs.Names.{is_member, with_entity}
use Rattle.ad_names.proofs.MemberLemmas.{member-fold}

or_other : (a b : Bool) → (a || b) ≡ true → (b ≡ true) ⊎ (a ≡ true)
or_other true b h = inr refl
or_other false b h = inl h

or_first : (a b : Bool) → a ≡ true → (a || b) ≡ true
or_first a b h = ap (λ x. x || b) h

or_second : (a b : Bool) → b ≡ true → (a || b) ≡ true
or_second true b h = refl
or_second false b h = h

-- after some entities were taken, the members are those before and these
pub also_taken : (names names' : Names) (es : List Entity) → names' ≡ fold with_entity names es → HasAlso (is_member names) (has_entity es) (is_member names')
also_taken names names' es taken e =
    let is : is_member names' e ≡ (has_entity es e || is_member names e) = ap (λ n. is_member n e) taken ∙ member-fold names es e in (
      (λ h. or_other (has_entity es e) (is_member names e) (sym is ∙ h)),
      (λ h. is ∙ elim h [ inl m ↦ or_second (has_entity es e) (is_member names e) m | inr s ↦ or_first (has_entity es e) (is_member names e) s ]),
    )

pub noted_at : {X : Type 0} (lent : X → Noted) (owners : List X) (k : ℕ) (x : X) → x ≡ get_or owners k x → lent x ≡ get_or (map lent owners) k (lent x)
noted_at lent owners k x at = ap lent at ∙ sym (get_or-map lent owners k x)

seed_step : (s b b' h : Bool) → (s ≡ true → b ≡ b') → (cond b false (s || false) || (h && not b')) ≡ ((s || h) && not b')
seed_step true true true h same = elim h as (λ x. (x && false) ≡ false) [ true ↦ refl | false ↦ refl ]
seed_step true true false h same = let z : true ≡ false = same refl in cc
seed_step true false true h same = sym (same refl)
seed_step true false false h same = refl
seed_step false true b' h same = refl
seed_step false false b' h same = refl

has_named : (x e : Entity) → has_entity (named x.kind x.name) e ≡ cond (is_builtin x) false (same_entity x e || false)
has_named x e = elim (is_builtin x) as (λ b. has_entity (cond b [] (x ∷ [])) e ≡ cond b false (same_entity x e || false)) [ true ↦ refl | false ↦ refl ]

-- the entities of a seed that aren't built in
pub seed_named : (xs : List Entity) (e : Entity) → has_entity (flat_map (λ x. named x.kind x.name) xs) e ≡ seed_test xs e
seed_named [] e = refl
seed_named (x ∷ xs) e =
    ap (λ l. has_entity l e) (flat_map-cons (λ x. named x.kind x.name) x xs)
    ∙ list_any-append (λ y. same_entity y e) (named x.kind x.name) (flat_map (λ x. named x.kind x.name) xs)
    ∙ ap (λ b. b || has_entity (flat_map (λ x. named x.kind x.name) xs) e) (has_named x e)
    ∙ ap (λ b. cond (is_builtin x) false (same_entity x e || false) || b) (seed_named xs e)
    ∙ seed_step (same_entity x e) (is_builtin x) (is_builtin e) (has_entity xs e) (λ s. ap is_builtin (same_entity_is x e s))

or_none : (b c : Bool) → c ≡ false → (b || c) ≡ b
or_none true c h = refl
or_none false c h = h

-- a set without members has taken the entities of a seed
pub seed_seen : (none names : Names) (xs seed : List Entity) → ((e : Entity) → IsFalse (is_member none e))
    → names ≡ fold with_entity none (flat_map (λ x. named x.kind x.name) xs) → xs ≡ seed → (e : Entity) → is_member names e ≡ seed_test seed e
seed_seen none names xs seed empty taken is e =
    ap (λ n. is_member n e) taken
    ∙ member-fold none (flat_map (λ x. named x.kind x.name) xs) e
    ∙ or_none (has_entity (flat_map (λ x. named x.kind x.name) xs) e) (is_member none e) (empty e)
    ∙ seed_named xs e
    ∙ ap (λ l. seed_test l e) is
