-- The parts of an ontology whose logical axioms are in slots, by their rows.
use Rattle.std.specs.Prelude.{ℕ, Bool, false, ◌&&◌, List, ◌++◌, Option, None, Some, length}
use Rattle.std.specs.List.{filter, flat_map, list_any}
use Rattle.ad_entity.specs.declared.entities.Entity.{Entity}
use Rattle.ad_module_document.specs.Documents.{taken_of}
use Rattle.ad_numbered.specs.Numbered.{InSlots, number_of, order_of}
use Rattle.ad_slots.specs.Places.{held_symbols}
use Rattle.ad_syntax_laws.specs.ModuleDocument.{goes_with}
use Rattle.ad_theory.specs.Numbers.{among}
use Rattle.ad_tree.specs.declared.axioms.Noted.{Noted}
use Rattle.ad_split.specs.Parts.{head_line, numbered, part_with}
use Rattle.ad_split.specs.Tops.{tops}

-- whether a number, if there is one, is in the closure
abbrev pub is_number_in : (ℕ → Bool) → Option ℕ → Bool
is_number_in closure None = false
is_number_in closure (Some n) = closure n

-- whether the number of an entity, if it has one, is in the closure
abbrev pub is_about : InSlots → (ℕ → Bool) → Entity → Bool
is_about ontology closure e = is_number_in closure (number_of ontology e)

-- whether an axiom with this slot, if it has one, is in the document: a logical one where its slot is a member, and a
-- carried one where it goes with the entities whose numbers are in the closure
abbrev pub is_in_part : InSlots → (ℕ → Bool) → (ℕ → Bool) → Noted → Option ℕ → Bool
is_in_part ontology members closure a (Some slot) = members slot
is_in_part ontology members closure a None = goes_with (is_about ontology closure) a.axiom

-- the document of the axioms in these slots, and of the carried ones that go with the entities of these numbers
abbrev pub document_by : InSlots → (ℕ → Bool) → (ℕ → Bool) → List Noted
document_by ontology members closure = taken_of (is_in_part ontology members closure) ontology

-- whether a number is in the signature of one of these slots that is a member
abbrev pub closure_of : (ℕ → List ℕ) → List ℕ → (ℕ → Bool) → ℕ → Bool
closure_of symbols slots members n = list_any (λ i. members i && among (symbols i) n) slots

-- G says which slots are in the row of one
module _ (ontology : InSlots) (G : ℕ → ℕ → Bool) where
  -- what is in the document of the part of a slot
  abbrev pub slot_document : ℕ → List Noted
  slot_document slot = document_by ontology (G slot) (closure_of (held_symbols ontology.held) (order_of ontology) (G slot))

  -- the part of this number, whose atom begins with the slot
  abbrev pub slot_text : ℕ × ℕ → List ℕ
  slot_text part = part_with part.0 (length (filter (G part.1) (order_of ontology))) (slot_document part.1)

  -- the text: the first line, and the parts
  abbrev pub slots_text : List ℕ
  slots_text = head_line (length (tops G (order_of ontology))) ++ flat_map slot_text (numbered (tops G (order_of ontology)))
