-- What entering and releasing an entity do to the entities that have numbers.
use Rattle.std.specs.Prelude.{◌≡◌, ◌≢◌, ◌<◌, ◌+◌, ℕ, cond, None, Some, is_some, if◌then◌else◌, MatchOption}
use Rattle.ad_entity.specs.Entities.{same_entity}
use Rattle.ad_entity.specs.declared.entities.Entity.{Entity}
use Rattle.ad_signature.specs.declared.numbers.EntityNumbers.{EntityNumbers}
use Rattle.ad_signature.specs.Numbering.{number_in, count}

-- the entity was given a number below the limit that no entity had, and the others have theirs
pub record IsGiven (limit : ℕ) (before : EntityNumbers) (entity : Entity) (after : EntityNumbers) (number : ℕ) : Type 0 where
  pub below : number < limit
  pub unused : (e : Entity) → number_in before e ≢ Some number
  pub names : (e : Entity) → number_in after e ≡ cond (same_entity entity e) (Some number) (number_in before e)
  pub counted : count after ≡ count before + 1

-- the number is the one that the entity has, or was given
abbrev pub IsEntered : ℕ → EntityNumbers → Entity → EntityNumbers → ℕ → Type 0
IsEntered limit before entity after number = MatchOption (number_in before entity) (IsGiven limit before entity after number) (λ n. (number ≡ n) × (after ≡ before))

-- the entity has no number, and the others have theirs
pub record IsReleased (before : EntityNumbers) (entity : Entity) (after : EntityNumbers) : Type 0 where
  pub names : (e : Entity) → number_in after e ≡ cond (same_entity entity e) None (number_in before e)
  pub counted : count after + (if is_some (number_in before entity) then 1 else 0) ≡ count before
