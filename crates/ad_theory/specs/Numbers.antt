-- Axioms that are numbers (slots) and entities that are numbers (symbols).
use Rattle.std.specs.Prelude.{◌≡◌, ◌==◌, ℕ, zero, suc, ◌+◌, Bool, List, if◌then◌else◌}
use Rattle.std.specs.List.{list_any}
use Rattle.ad_base.specs.declared.limits.Kind.{Kind}
use Rattle.ad_base.specs.declared.limits.Limits.{Limits}
use Rattle.ad_base.specs.declared.limits.Side.{Side}
use Rattle.ad_base.specs.declared.limits.Side.TheVariants.{Bottom, Top}
use Rattle.ad_theory.specs.Kinds.{IsModuleOfKind}
use Rattle.ad_theory.specs.Module.{Logic}

-- whether the number stands in the list
abbrev pub among : List ℕ → ℕ → Bool
among numbers n = list_any (λ x. x == n) numbers

-- the logic of axioms whose symbols are listed
abbrev pub logic_of : (ℕ → List ℕ) → ((ℕ → Bool) → ℕ → Bool) → Logic ℕ ℕ
logic_of symbols local = record { sig = λ i s. among (symbols i) s; local = local }

-- M is the module of this kind of the numbered axioms O for the seed, and S the seed with what stands in M's signatures
abbrev pub IsNumberedModule : Kind → (ℕ → List ℕ) → (Side → (ℕ → Bool) → ℕ → Bool) → (ℕ → Bool) → (ℕ → Type 0) → (ℕ → Bool) → (ℕ → Bool) → Type 0
IsNumberedModule kind symbols local seed O M S = IsModuleOfKind kind (logic_of symbols (local Bottom)) (logic_of symbols (local Top)) seed O M S

-- the sum of f over the numbers below n that pass the test
abbrev pub sum_where : (ℕ → Bool) → (ℕ → ℕ) → ℕ → ℕ
sum_where test f zero = 0
sum_where test f (suc n) = (if test n then f n else 0) + sum_where test f n

-- so many slots and symbols are those of the limits
pub record AreSizesOf (limits : Limits) (slots symbols : ℕ) : Type 0 where
  pub axioms : slots ≡ limits.axioms
  pub entities : symbols ≡ limits.entities
