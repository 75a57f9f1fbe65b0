-- What a sweep has at its end, and how the marks of carried axioms come in.
use Rattle.std.specs.Prelude.{◌≡◌, ◌<◌, ◌||◌, ℕ, Bool, true, List, length, slice_index_or}
use Rattle.ad_base.specs.declared.limits.Side.{Side}
use Rattle.ad_tree.specs.declared.axioms.Noted.{Noted}
use Rattle.ad_entity.specs.declared.entities.Entity.{Entity}
use Rattle.ad_theory.specs.Sweep.{IsSweeping, IsSettledBelow}
use Rattle.ad_syntax_laws.specs.OntologyLogic.{axiom_logic}
use Rattle.ad_syntax_laws.specs.ModuleDocument.{goes_with}

-- a sweep has ended here: each axiom is marked, or local for what was seen
pub record IsSwept (side : Side) (seed : Entity → Bool) (O : List Noted) (marks : List Bool) (seen : Entity → Bool) : Type 0 where
  pub sweeping : IsSweeping (axiom_logic side) seed O marks seen
  pub settled : IsSettledBelow (axiom_logic side) O marks seen (length O)

-- the axioms that go with these entities are marked too
abbrev pub AreMarkedToo : (Entity → Bool) → List Noted → List Bool → List Bool → Type 0
AreMarkedToo entities O marks marks' = (k : ℕ) (d : Noted) → k < length O
    → slice_index_or marks' k true ≡ (slice_index_or marks k true || goes_with entities (slice_index_or O k d).axiom)
