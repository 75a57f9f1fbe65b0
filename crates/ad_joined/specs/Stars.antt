-- What finds star modules.
use Rattle.std.specs.Prelude.{◌≡◌, ◌≤◌, ℕ, Bool, List, length, vec_capacity}
use Rattle.std.specs.Arc.{arc_value}
use Rattle.ad_base.specs.declared.limits.Side.{Side}
use Rattle.ad_theory.specs.Numbers.{AreSizesOf}
use Rattle.ad_joined.specs.Known.{IsKnown}
use Rattle.ad_joined.specs.declared.stars.Stars.{Stars}

-- the room is of these sizes, and what is known is a star module of these axioms
pub record AreStars (symbols : ℕ → List ℕ) (local : Side → (ℕ → Bool) → ℕ → Bool) (live : ℕ → Bool) (slots symbol_count : ℕ) (stars : Stars) : Type 0 where
  pub limits : AreSizesOf stars.starred.half.limits slots symbol_count
  pub seed : length stars.seed ≡ symbol_count
  pub closure : length stars.closure ≡ symbol_count
  pub start : length stars.start ≡ slots
  pub out : length stars.out ≡ slots
  pub room : symbol_count ≤ vec_capacity stars.pending
  pub known : IsKnown symbols local live slots symbol_count (arc_value stars.known.row) stars.known.closure stars.known.same
