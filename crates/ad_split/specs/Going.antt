-- How axioms go into the documents of parts.
use Rattle.std.specs.Prelude.{◌≡◌, ℕ, ◌<◌, Bool, false, List, Option, None, Some, length, slice_index_or}
use Rattle.ad_numbered.specs.Numbered.{InSlots}
use Rattle.ad_syntax_laws.specs.ModuleDocument.{goes_with}
use Rattle.ad_tree.specs.declared.axioms.Noted.{Noted}
use Rattle.ad_split.specs.declared.going.Going.{Going}
use Rattle.ad_split.specs.declared.going.Going.TheVariants.{Logical, With, Never, Asked}
use Rattle.ad_split.specs.Slots.{is_about}

-- what tells of a test of closures whether it passes: that a number is in the closure, or that it never passes; what is to
-- be asked for tells nothing
abbrev pub Tells : ℕ → ((ℕ → Bool) → Bool) → Going → Type 0
Tells numbers test (Logical slot) = ⊥
Tells numbers test (With n) = (n < numbers) × ((closure : ℕ → Bool) → test closure ≡ closure n)
Tells numbers test Never = (closure : ℕ → Bool) → test closure ≡ false
Tells numbers test Asked = Unit {0}

-- an axiom with this slot, if it has one, goes so: a logical one by its slot
abbrev pub GoesAs : InSlots → Noted → Option ℕ → Going → Type 0
GoesAs ontology a None going = Tells ontology.symbols (λ closure. goes_with (is_about ontology closure) a.axiom) going
GoesAs ontology a (Some slot) (Logical i) = (slot ≡ i) × (slot < ontology.most)
GoesAs ontology a (Some slot) _ = ⊥

-- the axiom at this place goes so
abbrev pub GoesAt : InSlots → ℕ → Going → Type 0
GoesAt ontology place going = (a : Noted) → a ≡ slice_index_or ontology.axioms place a → GoesAs ontology a (slice_index_or ontology.slots place None) going

-- this is how each axiom of the ontology goes
pub record AreGoing (ontology : InSlots) (going : List Going) : Type 0 where
  pub long : length going ≡ length ontology.axioms
  pub each : (place : ℕ) → place < length ontology.axioms → GoesAt ontology place (slice_index_or going place Never)
