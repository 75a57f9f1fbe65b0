-- The document of a module that is found over slots.
use Rattle.std.specs.Prelude.{◌≡◌, ℕ, Bool, List, Option, None, Some, IsTrue, length, map}
use Rattle.std.specs.List.{filter, zip}
use Rattle.ad_base.specs.declared.limits.Kind.{Kind}
use Rattle.ad_bits.specs.Rows.{has}
use Rattle.ad_entity.specs.declared.entities.Entity.{Entity}
use Rattle.ad_io.specs.Sink.{Puts}
use Rattle.ad_io.specs.declared.writes.Wrote.{Wrote}
use Rattle.ad_numbered.specs.Numbered.{InSlots, number_of}
use Rattle.ad_slots.specs.Places.{is_held, held_symbols, is_held_local}
use Rattle.ad_syntax_laws.specs.ModuleDocument.{IsModuleDocumentOf, goes_with}
use Rattle.ad_syntax_laws.specs.OntologyLogic.{seed_test}
use Rattle.ad_theory.specs.Numbers.{IsNumberedModule}
use Rattle.ad_tree.specs.declared.axioms.Noted.{Noted}
use Rattle.ad_write.specs.Canonical.{canon_document}
use Rattle.ad_module_document.specs.declared.room.Room.{Room}

-- whether an entity with this number, if it has one, is in the closure; one without a number is where the seed has it
abbrev pub is_about_number : List Entity → List Bool → Entity → Option ℕ → Bool
is_about_number seed closure e (Some n) = has closure n
is_about_number seed closure e None = seed_test seed e

-- whether an entity is of the seed, or in the signature of an axiom of the module, by the row of the module's closure
abbrev pub is_about : InSlots → List Entity → List Bool → Entity → Bool
is_about ontology seed closure e = is_about_number seed closure e (number_of ontology e)

-- whether an axiom with this slot, if it has one, is in the document: a logical one where its slot is a member, and a
-- carried one where it goes with the entities
abbrev pub is_chosen : InSlots → List Entity → List Bool → List Bool → Noted → Option ℕ → Bool
is_chosen ontology seed members closure a (Some slot) = has members slot
is_chosen ontology seed members closure a None = goes_with (is_about ontology seed closure) a.axiom

-- the axioms that a test of an axiom and its slot, if it has one, takes, in the ontology's order
abbrev pub taken_of : (Noted → Option ℕ → Bool) → InSlots → List Noted
taken_of takes ontology = map (λ p. p.0) (filter (λ p. takes p.0 p.1) (zip ontology.axioms ontology.slots))

-- the document, by the rows of a module and of its closure
abbrev pub document_in : InSlots → List Entity → List Bool → List Bool → List Noted
document_in ontology seed members closure = taken_of (is_chosen ontology seed members closure) ontology

-- of the numbers of entities, these are those of the seed's entities
abbrev pub AreSeedNumbers : InSlots → List Entity → (ℕ → Bool) → Type 0
AreSeedNumbers ontology seed numbers = (e : Entity) (n : ℕ) → number_of ontology e ≡ Some n → numbers n ≡ seed_test seed e

-- the rows hold the module of this kind for the numbers of the seed, and its closure: these numbers with those in the
-- module's signatures
pub record HoldModule (kind : Kind) (ontology : InSlots) (seed : List Entity) (members closure : List Bool) : Type 0 where
  pub numbers : ℕ → Bool
  pub numbered : AreSeedNumbers ontology seed numbers
  pub is : IsNumberedModule kind (held_symbols ontology.held) (is_held_local ontology.held) numbers (λ i. IsTrue (is_held ontology.held i)) (has members) (has closure)

-- the document of the ontology's module for the seed was written, or a front of it
pub record PutsDocument (kind : Kind) (seed : List Entity) (ontology : List Noted) (old new : Option (List ℕ)) (wrote : Wrote) : Type 0 where
  pub axioms : List Noted
  pub is : IsModuleDocumentOf kind (seed_test seed) ontology axioms
  pub puts : Puts old new wrote (canon_document axioms)

-- the rows are as long as there may be slots, and as there may be numbers
pub record IsRoomFor (most symbols : ℕ) (room : Room) : Type 0 where
  pub seed : length room.seed ≡ symbols
  pub members : length room.members ≡ most
  pub closure : length room.closure ≡ symbols
