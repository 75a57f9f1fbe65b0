-- Ontologies whose logical axioms stand in numbered slots, and whose entities have numbers.
use Rattle.std.specs.Prelude.{◌≡◌, ℕ, ◌<◌, ◌≤◌, List, [], ◌∷◌, Option, None, Some, is_some, IsSome, IsTrue, length, map, nat_eq, refl}
use Rattle.std.specs.Coded.{Coded, code_by, coded×, coded_ℕ, coded_list, coded_option}
use Rattle.std.specs.List.{AllZip, IsDistinct, flat_map}
use Rattle.ad_entity.specs.declared.entities.Entity.{Entity}
use Rattle.ad_tree.specs.declared.axioms.Noted.{Noted}
use Rattle.ad_syntax_laws.specs.OntologyModule.{is_logical_axiom, logical}
use Rattle.ad_signature.specs.Firsts.{firsts, signature_of}
use Rattle.ad_signature.specs.Numbering.{number_in, count}
use Rattle.ad_signature.specs.contracts.numbers.EntityNumbers as names_row
use Rattle.ad_signature.specs.declared.numbers.EntityNumbers.{EntityNumbers}
use Rattle.ad_slots.specs.Held.{Held}
use Rattle.ad_slots.specs.contracts.slot.Slot as slot_row
use Rattle.ad_tree.specs.contracts.axioms.Noted as noted_row
use Rattle.ad_flat.specs.Trees.{ArePlaced, in_signatures}
use Rattle.ad_flat.specs.Universes.{held_in, most_in, symbols_in}
use Rattle.ad_flat.specs.declared.flat.FlatUniverse.{FlatUniverse}

-- the signatures of these axioms, one after the other
abbrev pub signatures : List Noted → List Entity
signatures axioms = flat_map (λ a. signature_of a.axiom) axioms

-- the entities in the signatures of these axioms, each once, in the order in which they first occur
abbrev pub entities_of : List Noted → List Entity
entities_of axioms = firsts (signatures axioms)

-- An ontology with the slot of each axiom, where it has one; the numbers of its entities; what the slots hold; and how
-- many slots and numbers there may be.
pub record InSlots : Type 0 where
  pub axioms : List Noted
  pub slots : List (Option ℕ)
  pub names : EntityNumbers
  pub held : List (Option Held)
  pub most : ℕ
  pub symbols : ℕ

-- the axioms with these slots and numbers, in the slots of this universe
abbrev pub in_slots : List Noted → List (Option ℕ) → EntityNumbers → FlatUniverse → InSlots
in_slots axioms slots names universe =
    record { axioms = axioms; slots = slots; names = names; held = held_in universe; most = most_in universe; symbols = symbols_in universe }

-- an ontology in slots is told apart by all of these
abbrev pub in_slots_code : Coded InSlots
in_slots_code =
    code_by (List Noted × (List (Option ℕ) × (EntityNumbers × (List (Option Held) × (ℕ × ℕ)))))
    (coded× (coded_list noted_row.the_row.coded) (coded× (coded_list (coded_option coded_ℕ)) (coded× names_row.the_row.coded (coded× (coded_list (coded_option slot_row.the_row.coded)) (coded× coded_ℕ coded_ℕ)))))
    (λ o. (o.axioms, (o.slots, (o.names, (o.held, (o.most, o.symbols))))))
    (λ p. record { axioms = p.0; slots = p.1.0; names = p.1.1.0; held = p.1.1.1.0; most = p.1.1.1.1.0; symbols = p.1.1.1.1.1 }) (λ _. refl)

-- the number of an entity
abbrev pub number_of : InSlots → Entity → Option ℕ
number_of ontology e = number_in ontology.names e

-- the slots that there are in a list
abbrev pub given : List (Option ℕ) → List ℕ
given [] = []
given (None ∷ slots) = given slots
given (Some slot ∷ slots) = slot ∷ given slots

-- the slots of the logical axioms, in the ontology's order
abbrev pub order_of : InSlots → List ℕ
order_of ontology = given ontology.slots

-- What the type keeps. The logical axioms have slots, each its own, and carried axioms have none. No other slot is live,
-- and each holds its axiom under the numbers of the entities. Just the entities in the signatures of the logical axioms
-- have numbers, different ones different numbers.
pub record IsNumbered (ontology : InSlots) : Type 0 where
  pub slotted : AllZip (λ a slot. is_some slot ≡ is_logical_axiom a) ontology.axioms ontology.slots
  pub placed : ArePlaced (number_of ontology) ontology.held (order_of ontology) (logical ontology.axioms)
  pub apart : IsDistinct nat_eq (order_of ontology)
  pub only : (e : Entity) → IsSome (number_of ontology e) → IsTrue (in_signatures (logical ontology.axioms) e)
  pub counted : count ontology.names ≡ length (entities_of (logical ontology.axioms))
  pub below : (e : Entity) (n : ℕ) → number_of ontology e ≡ Some n → n < ontology.symbols
  pub few_slots : ontology.most ≤ 65536
  pub few_symbols : ontology.symbols ≤ 65536
  pub within : length (logical ontology.axioms) ≤ ontology.most
  pub entities_within : length (entities_of (logical ontology.axioms)) ≤ ontology.symbols
