-- While an ontology is numbered: the entities that were entered so far, and the axioms that were placed so far.
use Rattle.std.specs.Prelude.{◌≡◌, ◌≢◌, ℕ, ◌<◌, true, false, List, Option, None, Some, is_some, IsTrue, length}
use Rattle.std.specs.List.{AllZip, range_with_len}
use Rattle.ad_entity.specs.Entities.{has_entity}
use Rattle.ad_entity.specs.declared.entities.Entity.{Entity}
use Rattle.ad_tree.specs.declared.axioms.Noted.{Noted}
use Rattle.ad_syntax_laws.specs.OntologyModule.{is_logical_axiom, logical}
use Rattle.ad_signature.specs.Firsts.{firsts}
use Rattle.ad_signature.specs.Numbering.{number_in, count}
use Rattle.ad_signature.specs.declared.numbers.EntityNumbers.{EntityNumbers}
use Rattle.ad_signature.specs.declared.refused.SymbolRefused.{SymbolRefused}
use Rattle.ad_signature.specs.declared.refused.SymbolRefused.TheVariants.{Full, Memory}
use Rattle.ad_slots.specs.Held.{Held}
use Rattle.ad_slots.specs.Places.{slot_at, is_held, least_free}
use Rattle.ad_flat.specs.Holds.{Holds}
use Rattle.ad_numbered.specs.Numbered.{given}

-- just the entities of the list have numbers
pub record AreEntered (entities : List Entity) (names : EntityNumbers) : Type 0 where
  pub named : (e : Entity) → is_some (number_in names e) ≡ has_entity entities e
  pub counted : count names ≡ length (firsts entities)

-- why not all entities of the list are entered: there are more than the limit; want of memory comes at any time
abbrev pub AreTooMany : ℕ → List Entity → SymbolRefused → Type 0
AreTooMany limit entities (Full n) = limit < length (firsts entities)
AreTooMany limit entities Memory = Unit {0}

-- a logical axiom was put into the least free slot, which is its slot; with a carried one nothing was done
abbrev pub IsPut : (Entity → Option ℕ) → Noted → List (Option Held) → List (Option Held) → Option ℕ → Type 0
IsPut number a before after None = (is_logical_axiom a ≡ false) × (after ≡ before)
IsPut number a before after (Some i) =
    (is_logical_axiom a ≡ true) × (i ≡ least_free before) × Holds number after i a.axiom × ((j : ℕ) → j ≢ i → slot_at after j ≡ slot_at before j)

-- the logical axioms stand in the first slots, in order, and no other slot holds one
pub record AreInOrder (number : Entity → Option ℕ) (axioms : List Noted) (slots : List (Option ℕ)) (held : List (Option Held)) : Type 0 where
  pub slotted : AllZip (λ a slot. is_some slot ≡ is_logical_axiom a) axioms slots
  pub rising : given slots ≡ range_with_len 0 (length (logical axioms))
  pub holding : AllZip (λ i a. Holds number held i a.axiom) (given slots) (logical axioms)
  pub live : (i : ℕ) → IsTrue (is_held held i) → i < length (logical axioms)
  pub next : least_free held ≡ length (logical axioms)
