-- Entities as pairs of a kind and a name.
use Rattle.std.specs.Prelude.{ℕ, Bool, ◌&&◌, List, [], ◌∷◌, nat_eq}
use Rattle.std.specs.List.{list_any}
use Rattle.ad_base.specs.Words.{same_text}
use Rattle.ad_entity.specs.declared.entities.EntityKind.{EntityKind}
use Rattle.ad_entity.specs.declared.entities.EntityKind.TheVariants as kinds
use Rattle.ad_entity.specs.declared.entities.Entity.{Entity}

-- the entity of this kind and name
abbrev pub entity : EntityKind → List ℕ → Entity
entity kind name = record { kind = kind; name = name }

-- the kinds of entity
abbrev pub all_kinds : List EntityKind
all_kinds = kinds.Class ∷ kinds.Datatype ∷ kinds.ObjectProperty ∷ kinds.DataProperty ∷ kinds.AnnotationProperty ∷ kinds.NamedIndividual ∷ []

-- where a kind stands in the list of kinds
abbrev pub place_of : EntityKind → ℕ
place_of kinds.Class = 0
place_of kinds.Datatype = 1
place_of kinds.ObjectProperty = 2
place_of kinds.DataProperty = 3
place_of kinds.AnnotationProperty = 4
place_of kinds.NamedIndividual = 5

-- whether two entities are the same
abbrev pub same_entity : Entity → Entity → Bool
same_entity a b = nat_eq (place_of a.kind) (place_of b.kind) && same_text a.name b.name

-- whether an entity stands in a list
abbrev pub has_entity : List Entity → Entity → Bool
has_entity entities e = list_any (λ x. same_entity x e) entities
