-- Genuine modules: those for an axiom's own signature.
use Rattle.std.specs.Prelude.{ℕ, Bool, List, IsTrue, IsFalse}
use Rattle.ad_base.specs.declared.limits.Kind.{Kind}
use Rattle.ad_base.specs.declared.limits.Kind.TheVariants as kinds
use Rattle.ad_base.specs.declared.limits.Side.{Side}
use Rattle.ad_base.specs.declared.limits.Side.TheVariants.{Bottom, Top}
use Rattle.ad_theory.specs.Numbers.{among, IsNumberedModule}

-- M is the genuine module of this kind of the numbered axiom i: the module of the live axioms for its own signature
abbrev pub IsGenuine : Kind → (ℕ → List ℕ) → (Side → (ℕ → Bool) → ℕ → Bool) → (ℕ → Bool) → ℕ → (ℕ → Bool) → Type 0
IsGenuine kind symbols local live i M = (S : ℕ → Bool) × IsNumberedModule kind symbols local (among (symbols i)) (λ k. IsTrue (live k)) M S

-- the numbered axiom i is not local for its own signature, on each side that the kind has
abbrev pub IsNoTautology : Kind → (ℕ → List ℕ) → (Side → (ℕ → Bool) → ℕ → Bool) → ℕ → Type 0
IsNoTautology kinds.Bottom symbols local i = IsFalse (local Bottom (among (symbols i)) i)
IsNoTautology kinds.Top symbols local i = IsFalse (local Top (among (symbols i)) i)
IsNoTautology kinds.Star symbols local i = IsFalse (local Bottom (among (symbols i)) i) × IsFalse (local Top (among (symbols i)) i)
