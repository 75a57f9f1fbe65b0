-- What a sweep does at one axiom.
use Rattle.std.specs.Prelude.{ℕ, Bool, true, List, IsTrue, IsFalse, slice_index_or}
use Rattle.ad_base.specs.declared.limits.Side.{Side}
use Rattle.ad_tree.specs.declared.axioms.Noted.{Noted}
use Rattle.ad_entity.specs.declared.entities.Entity.{Entity}
use Rattle.ad_locality.specs.Locality.{local}
use Rattle.ad_theory.specs.Sweep.{IsSweeping}
use Rattle.ad_syntax_laws.specs.OntologyLogic.{axiom_logic}

-- where a sweep stood before, one stands after, for every seed
abbrev pub KeepsSweeping : Side → List Noted → List Bool → (Entity → Bool) → List Bool → (Entity → Bool) → Type 0
KeepsSweeping side O marks seen marks' seen' = (seed : Entity → Bool) → IsSweeping (axiom_logic side) seed O marks seen → IsSweeping (axiom_logic side) seed O marks' seen'

-- the k-th axiom is marked, or local for what was seen
abbrev pub IsSettledAt : Side → List Noted → List Bool → (Entity → Bool) → ℕ → Type 0
IsSettledAt side O marks seen k = (d : Noted) → IsFalse (slice_index_or marks k true) → IsTrue (local side seen (slice_index_or O k d).axiom)
