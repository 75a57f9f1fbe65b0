-- The members of a set of entities, after some were taken.
use Rattle.std.proofs.Common.{◌≡◌, ℕ, Bool, true, false, ◌||◌, ◌⊎◌, ◌↔◌, IsTrue, IsFalse, List, [], ◌∷◌, nat_eq, refl, sym, ap, ◌∙◌, subst, inl, inr}
use Rattle.std.specs.List.{fold, list_any}
use Rattle.std.specs.FinSet as set
use Rattle.std.specs.FinSet.{FinSet}
use Rattle.std.specs.Cmp.Lexicographic.{nat_list_cmp_total, nat_list_eq_equiv, texts_ties}
use Rattle.ad_base.specs.Words.{same_text, text_order}
use Rattle.ad_entity.specs.Entities.{same_entity, has_entity}
use Rattle.ad_entity.specs.declared.entities.EntityKind.{EntityKind}
use Rattle.ad_entity.specs.declared.entities.EntityKind.TheVariants as kinds
use Rattle.ad_entity.specs.declared.entities.Entity.{Entity}
use Rattle.ad_names.specs.declared.names.Names.{Names}
use Rattle.ad_names.specs.Names.{is_member, with_name, with_entity}

contains-insert_text : (s : FinSet text_order) (k q : List ℕ) → set.contains (set.insert s k) q ≡ (same_text k q || set.contains s q)
contains-insert_text s k q =
    set.contains-insert nat_list_cmp_total s k q
    ∙ ap (λ b. b || set.contains s q) (sym (texts_ties q k) ∙ nat_list_eq_equiv.symm q k)

member-with_name : (names : Names) (k : EntityKind) (n : List ℕ) (k' : EntityKind) (q : List ℕ)
    → is_member (with_name names k n) (record { kind = k'; name = q }) ≡ (same_entity (record { kind = k; name = n }) (record { kind = k'; name = q }) || is_member names (record { kind = k'; name = q }))
member-with_name names kinds.Class n kinds.Class q = contains-insert_text _ n q
member-with_name names kinds.Class n kinds.Datatype q = refl
member-with_name names kinds.Class n kinds.ObjectProperty q = refl
member-with_name names kinds.Class n kinds.DataProperty q = refl
member-with_name names kinds.Class n kinds.AnnotationProperty q = refl
member-with_name names kinds.Class n kinds.NamedIndividual q = refl
member-with_name names kinds.Datatype n kinds.Class q = refl
member-with_name names kinds.Datatype n kinds.Datatype q = contains-insert_text _ n q
member-with_name names kinds.Datatype n kinds.ObjectProperty q = refl
member-with_name names kinds.Datatype n kinds.DataProperty q = refl
member-with_name names kinds.Datatype n kinds.AnnotationProperty q = refl
member-with_name names kinds.Datatype n kinds.NamedIndividual q = refl
member-with_name names kinds.ObjectProperty n kinds.Class q = refl
member-with_name names kinds.ObjectProperty n kinds.Datatype q = refl
member-with_name names kinds.ObjectProperty n kinds.ObjectProperty q = contains-insert_text _ n q
member-with_name names kinds.ObjectProperty n kinds.DataProperty q = refl
member-with_name names kinds.ObjectProperty n kinds.AnnotationProperty q = refl
member-with_name names kinds.ObjectProperty n kinds.NamedIndividual q = refl
member-with_name names kinds.DataProperty n kinds.Class q = refl
member-with_name names kinds.DataProperty n kinds.Datatype q = refl
member-with_name names kinds.DataProperty n kinds.ObjectProperty q = refl
member-with_name names kinds.DataProperty n kinds.DataProperty q = contains-insert_text _ n q
member-with_name names kinds.DataProperty n kinds.AnnotationProperty q = refl
member-with_name names kinds.DataProperty n kinds.NamedIndividual q = refl
member-with_name names kinds.AnnotationProperty n kinds.Class q = refl
member-with_name names kinds.AnnotationProperty n kinds.Datatype q = refl
member-with_name names kinds.AnnotationProperty n kinds.ObjectProperty q = refl
member-with_name names kinds.AnnotationProperty n kinds.DataProperty q = refl
member-with_name names kinds.AnnotationProperty n kinds.AnnotationProperty q = contains-insert_text _ n q
member-with_name names kinds.AnnotationProperty n kinds.NamedIndividual q = refl
member-with_name names kinds.NamedIndividual n kinds.Class q = refl
member-with_name names kinds.NamedIndividual n kinds.Datatype q = refl
member-with_name names kinds.NamedIndividual n kinds.ObjectProperty q = refl
member-with_name names kinds.NamedIndividual n kinds.DataProperty q = refl
member-with_name names kinds.NamedIndividual n kinds.AnnotationProperty q = refl
member-with_name names kinds.NamedIndividual n kinds.NamedIndividual q = contains-insert_text _ n q

or_regroup : (a b c : Bool) → (a || (b || c)) ≡ ((b || a) || c)
or_regroup true true c = refl
or_regroup true false c = refl
or_regroup false true c = refl
or_regroup false false c = refl

-- after some entities were taken, the members are these and those before
pub member-fold : (names : Names) (es : List Entity) (e : Entity) → is_member (fold with_entity names es) e ≡ (has_entity es e || is_member names e)
member-fold names [] e = refl
member-fold names (x ∷ es) e =
    member-fold (with_entity names x) es e
    ∙ ap (λ b. has_entity es e || b) (member-with_name names x.kind x.name e.kind e.name)
    ∙ or_regroup (has_entity es e) (same_entity x e) (is_member names e)

no_name : (names : Names) (k : EntityKind) (q : List ℕ)
    → names.classes ≡ set.empty → names.datatypes ≡ set.empty → names.object_properties ≡ set.empty → names.data_properties ≡ set.empty
    → names.annotation_properties ≡ set.empty → names.individuals ≡ set.empty → IsFalse (is_member names (record { kind = k; name = q }))
no_name names kinds.Class q a b c d e f = ap (λ s. set.contains s q) a ∙ set.contains-empty text_order q
no_name names kinds.Datatype q a b c d e f = ap (λ s. set.contains s q) b ∙ set.contains-empty text_order q
no_name names kinds.ObjectProperty q a b c d e f = ap (λ s. set.contains s q) c ∙ set.contains-empty text_order q
no_name names kinds.DataProperty q a b c d e f = ap (λ s. set.contains s q) d ∙ set.contains-empty text_order q
no_name names kinds.AnnotationProperty q a b c d e f = ap (λ s. set.contains s q) e ∙ set.contains-empty text_order q
no_name names kinds.NamedIndividual q a b c d e f = ap (λ s. set.contains s q) f ∙ set.contains-empty text_order q

-- a set of six empty sets has no member
pub no_member : (names : Names) (x : Entity)
    → names.classes ≡ set.empty → names.datatypes ≡ set.empty → names.object_properties ≡ set.empty → names.data_properties ≡ set.empty
    → names.annotation_properties ≡ set.empty → names.individuals ≡ set.empty → IsFalse (is_member names x)
no_member names x a b c d e f = no_name names x.kind x.name a b c d e f
