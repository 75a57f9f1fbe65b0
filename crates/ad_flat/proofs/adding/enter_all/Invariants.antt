-- So far the first entities of the list were entered, and no others.
use Rattle.std.proofs.Common.{◌≡◌, ℕ, Some, IsSome, take, IsTrue, IsFalse}
use Rattle.ad_entity.specs.Entities.{has_entity}
use Rattle.ad_entity.specs.declared.entities.Entity.{Entity}
use Rattle.ad_signature.specs.Numbering.{number_in}
use Rattle.ad_flat.proofs.adding.enter_all.Given as goal

abbrev pub invariant-loop-entity : goal.invariant-loop-entity
invariant-loop-entity l = record {
  named : (e : Entity) → IsTrue (has_entity (take l.entity-index l.entities) e) → IsSome (number_in l.symbols.names e);
  only : (e : Entity) → IsFalse (has_entity l.entities e) → number_in l.symbols.names e ≡ number_in l.initial.symbols.names e;
  kept : (e : Entity) (n : ℕ) → number_in l.initial.symbols.names e ≡ Some n → number_in l.symbols.names e ≡ Some n;
  limit : l.symbols.limit ≡ l.initial.symbols.limit;
}
