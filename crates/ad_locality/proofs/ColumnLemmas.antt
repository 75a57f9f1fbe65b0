-- A name has columns of its own exactly where it is built in.
use Rattle.std.proofs.Common.{◌≡◌, ℕ, Bool, true, false, cond, ◌||◌, List, ◌++◌, None, Some, is_some, codes, refl}
use Rattle.ad_base.specs.Words.{same_text}
use Rattle.ad_entity.specs.Builtin.{owl, is_reserved, is_builtin}
use Rattle.ad_entity.specs.Entities.{entity}
use Rattle.ad_entity.specs.declared.entities.EntityKind.{EntityKind}
use Rattle.ad_entity.specs.declared.entities.EntityKind.TheVariants as kinds
use Rattle.ad_locality.specs.Columns.{builtin}
use Rattle.ad_locality.specs.declared.surely.Surely.{Surely}

one_of_two : (a b : Bool) (x y : Surely) → is_some (cond a (Some x) (cond b (Some y) None)) ≡ (a || b)
one_of_two true b x y = refl
one_of_two false true x y = refl
one_of_two false false x y = refl

where_true : (a : Bool) (x : Surely) → is_some (cond a (Some x) None) ≡ a
where_true true x = refl
where_true false x = refl

pub has_columns : (kind : EntityKind) (name : List ℕ) → is_some (builtin kind name) ≡ is_builtin (entity kind name)
has_columns kinds.Class name = one_of_two (same_text name (owl ++ codes "Thing")) (same_text name (owl ++ codes "Nothing")) _ _
has_columns kinds.Datatype name = where_true (is_reserved name) _
has_columns kinds.ObjectProperty name = one_of_two (same_text name (owl ++ codes "topObjectProperty")) (same_text name (owl ++ codes "bottomObjectProperty")) _ _
has_columns kinds.DataProperty name = one_of_two (same_text name (owl ++ codes "topDataProperty")) (same_text name (owl ++ codes "bottomDataProperty")) _ _
has_columns kinds.AnnotationProperty name = where_true (is_reserved name) _
has_columns kinds.NamedIndividual name = refl
