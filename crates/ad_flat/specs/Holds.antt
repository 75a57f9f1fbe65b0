-- Which axioms slots hold.
use Rattle.std.specs.Prelude.{◌≡◌, ◌<◌, ℕ, List, Option, Some, IsTrue}
use Rattle.std.specs.Ordering.{nat_cmp}
use Rattle.std.specs.List.Sorted.{IsStrictlySortedBy}
use Rattle.ad_theory.specs.Numbers.{among}
use Rattle.ad_locality.specs.Signature.{occurrences, in_signature}
use Rattle.ad_tree.specs.declared.axioms.Axiom.{Axiom}
use Rattle.ad_entity.specs.declared.entities.Entity.{Entity}
use Rattle.ad_codes.specs.Encoded.{test_of, code_of}
use Rattle.ad_codes.specs.Laws.{numbers_of}
use Rattle.ad_slots.specs.Held.{Held}
use Rattle.ad_slots.specs.Places.{slot_at}

-- this is the axiom where entities have these numbers; its symbols are the numbers of its entities, rising, each once
pub record IsHeldBy (number : Entity → Option ℕ) (a : Axiom) (h : Held) : Type 0 where
  pub test : h.test ≡ test_of a
  pub code : h.code ≡ code_of number a
  pub rising : IsStrictlySortedBy nat_cmp h.symbols
  pub symbols : (n : ℕ) → among h.symbols n ≡ among (numbers_of number (occurrences a)) n

-- slot i holds this axiom
abbrev pub Holds : (Entity → Option ℕ) → List (Option Held) → ℕ → Axiom → Type 0
Holds number slots i a = (h : Held) × (slot_at slots i ≡ Some h) × IsHeldBy number a h

-- the numbers of the axiom's entities are below the bound
abbrev pub IsNumberedBelow : ℕ → (Entity → Option ℕ) → Axiom → Type 0
IsNumberedBelow bound number a = (e : Entity) (n : ℕ) → IsTrue (in_signature a e) → number e ≡ Some n → n < bound
