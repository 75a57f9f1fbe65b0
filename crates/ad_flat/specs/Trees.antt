-- The axioms and entities behind the numbers of slots.
use Rattle.std.specs.Prelude.{◌≡◌, ℕ, Bool, List, map, Option, Some, IsSome, IsTrue}
use Rattle.std.specs.List.{AllZip, filter, list_any, zip}
use Rattle.ad_locality.specs.Signature.{in_signature}
use Rattle.ad_tree.specs.declared.axioms.Noted.{Noted}
use Rattle.ad_entity.specs.declared.entities.Entity.{Entity}
use Rattle.ad_theory.specs.Numbers.{among}
use Rattle.ad_slots.specs.Held.{Held}
use Rattle.ad_slots.specs.Places.{is_held}
use Rattle.ad_flat.specs.Holds.{Holds}

-- whether an entity is in the signature of one of the axioms
abbrev pub in_signatures : List Noted → Entity → Bool
in_signatures axioms e = list_any (λ a. in_signature a.axiom e) axioms

-- Each place is a slot that holds the axiom beside it in the list, and each slot that holds an axiom is one of the places.
-- Each entity in the axioms' signatures has a number, and different ones have different numbers.
pub record ArePlaced (number : Entity → Option ℕ) (slots : List (Option Held)) (places : List ℕ) (axioms : List Noted) : Type 0 where
  pub held : AllZip (λ i a. Holds number slots i a.axiom) places axioms
  pub live : (i : ℕ) → IsTrue (is_held slots i) → IsTrue (among places i)
  pub numbered : (e : Entity) → IsTrue (in_signatures axioms e) → IsSome (number e)
  pub one_to_one : (e f : Entity) (n : ℕ) → IsTrue (in_signatures axioms e) → IsTrue (in_signatures axioms f) → number e ≡ Some n → number f ≡ Some n → e ≡ f

-- of the entities in the axioms' signatures, the sets have the same, the one by their numbers
abbrev pub IsSameSeed : (Entity → Option ℕ) → List Noted → (Entity → Bool) → (ℕ → Bool) → Type 0
IsSameSeed number axioms names seed = (e : Entity) (n : ℕ) → IsTrue (in_signatures axioms e) → number e ≡ Some n → names e ≡ seed n

-- the axioms whose places are in the set, in their order
abbrev pub axioms_where : (ℕ → Bool) → List ℕ → List Noted → List Noted
axioms_where M places axioms = map (λ p. p.1) (filter (λ p. M p.0) (zip places axioms))
