-- What codes have to do with the axioms that they stand for.
use Rattle.std.specs.Prelude.{◌≡◌, ℕ, IsTrue, Bool, false, List, [], ◌∷◌, Option, None, Some}
use Rattle.std.specs.List.{flat_map}
use Rattle.ad_base.specs.declared.limits.Side.{Side}
use Rattle.ad_theory.specs.Numbers.{among}
use Rattle.ad_locality.specs.Locality.{local}
use Rattle.ad_locality.specs.Signature.{occurrences, in_signature}
use Rattle.ad_entity.specs.declared.entities.Entity.{Entity}
use Rattle.ad_tree.specs.declared.axioms.Axiom.{Axiom}
use Rattle.ad_cells.specs.Codes.{is_local_code, symbols_of}
use Rattle.ad_codes.specs.Encoded.{test_of, code_of}

-- whether an entity is seen, where its number tells; one without a number is not
abbrev pub is_seen : (ℕ → Bool) → Option ℕ → Bool
is_seen seen None = false
is_seen seen (Some n) = seen n

-- the numbers of entities that have one, in order and with repeats
abbrev pub number_list : Option ℕ → List ℕ
number_list None = []
number_list (Some n) = n ∷ []

abbrev pub numbers_of : (Entity → Option ℕ) → List Entity → List ℕ
numbers_of number entities = flat_map (λ e. number_list (number e)) entities

-- the code of an axiom is local exactly where the axiom is, whatever the numbers are
abbrev pub CodesAreTrees : Type 0
CodesAreTrees = (number : Entity → Option ℕ) (side : Side) (seen : ℕ → Bool) (a : Axiom) → is_local_code side seen (test_of a) (code_of number a) ≡ local side (λ e. is_seen seen (number e)) a

-- the numbers in the code of an axiom are those of entities in its signature
abbrev pub CodesAreWithinSignatures : Type 0
CodesAreWithinSignatures = (number : Entity → Option ℕ) (a : Axiom) (n : ℕ) → IsTrue (among (symbols_of (code_of number a)) n) → IsTrue (among (numbers_of number (occurrences a)) n)

-- two numberings that agree on an axiom's signature give it the same code
abbrev pub CodesStay : Type 0
CodesStay = (number other : Entity → Option ℕ) (a : Axiom) → ((e : Entity) → IsTrue (in_signature a e) → number e ≡ other e) → code_of number a ≡ code_of other a
