-- A set of entities, as one set of names for each kind.
use Rattle.std.specs.Prelude.{ℕ, Bool, List}
use Rattle.std.specs.FinSet as set
use Rattle.ad_base.specs.Words.{text_order}
use Rattle.ad_entity.specs.declared.entities.EntityKind.{EntityKind}
use Rattle.ad_entity.specs.declared.entities.EntityKind.TheVariants as kinds
use Rattle.ad_entity.specs.declared.entities.Entity.{Entity}
use Rattle.ad_names.specs.declared.names.Names.{Names}

-- the names of a kind
abbrev pub names_of : Names → EntityKind → set.FinSet text_order
names_of names kinds.Class = names.classes
names_of names kinds.Datatype = names.datatypes
names_of names kinds.ObjectProperty = names.object_properties
names_of names kinds.DataProperty = names.data_properties
names_of names kinds.AnnotationProperty = names.annotation_properties
names_of names kinds.NamedIndividual = names.individuals

-- whether an entity is a member
abbrev pub is_member : Names → Entity → Bool
is_member names e = set.contains (names_of names e.kind) e.name

abbrev pub with_name : Names → EntityKind → List ℕ → Names
with_name names kinds.Class name = record names { classes = set.insert names.classes name }
with_name names kinds.Datatype name = record names { datatypes = set.insert names.datatypes name }
with_name names kinds.ObjectProperty name = record names { object_properties = set.insert names.object_properties name }
with_name names kinds.DataProperty name = record names { data_properties = set.insert names.data_properties name }
with_name names kinds.AnnotationProperty name = record names { annotation_properties = set.insert names.annotation_properties name }
with_name names kinds.NamedIndividual name = record names { individuals = set.insert names.individuals name }

-- the set with one more entity, which may have been a member
abbrev pub with_entity : Names → Entity → Names
with_entity names e = with_name names e.kind e.name
