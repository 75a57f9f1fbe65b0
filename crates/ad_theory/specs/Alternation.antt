-- Finding a star module: the bottom module, the top module of it, and so on.
use Rattle.std.specs.Prelude.{Bool, List, IsTrue}
use Rattle.ad_theory.specs.Module.{Logic, IsFixed}
use Rattle.ad_theory.specs.Listed.{IsListedModule}

-- what is left of O after some rounds, each of which takes the bottom module and then the top module of it
pub data IsLeftAfterRounds {A E : Type 0} (B T : Logic A E) (seed : E → Bool) (O : List A) : List A → Type 0 where
  none : IsLeftAfterRounds B T seed O O
  round : {X M N : List A} → IsLeftAfterRounds B T seed O X → IsListedModule B seed X M → IsListedModule T seed M N → IsLeftAfterRounds B T seed O N

-- M contains each part of O that is its own module on both sides
pub record IsAboveStar {A E : Type 0} (B T : Logic A E) (seed : E → Bool) (O : A → Type 0) (M : A → Bool) : Type 0 where
  pub above : (N : A → Bool) → ((a : A) → IsTrue (N a) → O a) → IsFixed B seed N → IsFixed T seed N → (a : A) → IsTrue (N a) → IsTrue (M a)
