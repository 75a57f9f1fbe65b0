-- The modules of the three kinds.
use Rattle.std.specs.Prelude.{Bool, List}
use Rattle.ad_base.specs.declared.limits.Kind.{Kind}
use Rattle.ad_base.specs.declared.limits.Kind.TheVariants.{Bottom, Top, Star}
use Rattle.ad_theory.specs.Module.{Logic, IsModule, IsStar, IsClosure}
use Rattle.ad_theory.specs.Listed.{IsListedModule, IsListedStar}

-- M is the module of this kind of O for the seed, and S is the seed with what stands in M's signatures. B is the
-- logic of the bottom side and T that of the top side; their signatures are the same.
abbrev pub IsModuleOfKind : {A E : Type 0} → Kind → Logic A E → Logic A E → (E → Bool) → (A → Type 0) → (A → Bool) → (E → Bool) → Type 0
IsModuleOfKind Bottom B T seed O M S = IsModule B seed O M S
IsModuleOfKind Top B T seed O M S = IsModule T seed O M S
IsModuleOfKind Star B T seed O M S = IsStar B T seed O M × IsClosure B seed M S

-- M lists the module of this kind of the axioms of O for the seed
abbrev pub IsListedOfKind : {A E : Type 0} → Kind → Logic A E → Logic A E → (E → Bool) → List A → List A → Type 0
IsListedOfKind Bottom B T seed O M = IsListedModule B seed O M
IsListedOfKind Top B T seed O M = IsListedModule T seed O M
IsListedOfKind Star B T seed O M = IsListedStar B T seed O M
