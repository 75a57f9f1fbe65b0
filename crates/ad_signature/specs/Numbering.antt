-- Entities with their numbers, as one list of names with numbers for each kind.
use Rattle.std.specs.Prelude.{ℕ, ◌+◌, List, [], Option, length}
use Rattle.std.specs.Map.{lookup}
use Rattle.ad_base.specs.Words.{same_text}
use Rattle.ad_entity.specs.declared.entities.EntityKind.{EntityKind}
use Rattle.ad_entity.specs.declared.entities.EntityKind.TheVariants as kinds
use Rattle.ad_entity.specs.declared.entities.Entity.{Entity}
use Rattle.ad_signature.specs.declared.numbers.EntityNumbers.{EntityNumbers}

-- the number of a name of a kind
abbrev pub number_at : EntityNumbers → EntityKind → List ℕ → Option ℕ
number_at m kinds.Class name = lookup (same_text name) m.classes
number_at m kinds.Datatype name = lookup (same_text name) m.datatypes
number_at m kinds.ObjectProperty name = lookup (same_text name) m.object_properties
number_at m kinds.DataProperty name = lookup (same_text name) m.data_properties
number_at m kinds.AnnotationProperty name = lookup (same_text name) m.annotation_properties
number_at m kinds.NamedIndividual name = lookup (same_text name) m.individuals

-- the number of an entity
abbrev pub number_in : EntityNumbers → Entity → Option ℕ
number_in m e = number_at m e.kind e.name

-- no entity has a number
abbrev pub no_entities : EntityNumbers
no_entities = record { classes = []; datatypes = []; object_properties = []; data_properties = []; annotation_properties = []; individuals = [] }

-- how many entities have numbers
abbrev pub count : EntityNumbers → ℕ
count m = length m.classes + length m.datatypes + length m.object_properties + length m.data_properties + length m.annotation_properties + length m.individuals
