-- A change of an ontology, and which modules it leaves as they are.
use Rattle.std.specs.Prelude.{◌≡◌, ◌⊎◌, ◌&&◌, Bool, not, IsTrue, IsFalse}
use Rattle.ad_theory.specs.Module.{Logic, IsClosure}

-- O becomes O': some axioms left and some are new, an axiom that left and came again is both, and the others stay
-- as they are. The logics are two, since a name of an axiom that left may be that of a new one.
pub record IsChange {A E : Type 0} (L L' : Logic A E) (O O' : A → Type 0) (left new : A → Bool) : Type 0 where
  pub stays : (a : A) → O a → IsFalse (left a) → O' a
  pub stayed : (a : A) → O' a → IsFalse (new a) → O a × IsFalse (left a)
  pub sigs : (a : A) (e : E) → O a → IsFalse (left a) → L.sig a e ≡ L'.sig a e
  pub locals : (a : A) (T : E → Bool) → O a → IsFalse (left a) → L.local T a ≡ L'.local T a

-- each new axiom is local for T
abbrev pub IsNewLocal : {A E : Type 0} → Logic A E → (A → Type 0) → (A → Bool) → (E → Bool) → Type 0
IsNewLocal {A} L' O' new T = (a : A) → O' a → IsTrue (new a) → IsTrue (L'.local T a)

-- the change leaves the module M with closure S alone: none of its axioms left, and each new one is local for S
pub record IsUntouched {A E : Type 0} (L' : Logic A E) (O' : A → Type 0) (left new : A → Bool) (M : A → Bool) (S : E → Bool) : Type 0 where
  pub none_left : (a : A) → IsTrue (M a) → IsFalse (left a)
  pub new_local : IsNewLocal L' O' new S

-- each new axiom is local for the seed with the signatures of those axioms of M that did not leave
abbrev pub IsNewLocalForRest : {A E : Type 0} → Logic A E → Logic A E → (A → Type 0) → (A → Bool) → (A → Bool) → (E → Bool) → (A → Bool) → Type 0
IsNewLocalForRest {A} {E} L L' O' left new seed M = (Q : E → Bool) × IsClosure L seed (λ a. M a && not (left a)) Q × IsNewLocal L' O' new Q

-- the change leaves the star module M alone: none of its axioms left, and on one side the new ones are local for
-- the seed with the signatures of the rest of that side's module
pub record IsStarUntouched {A E : Type 0} (B B' T T' : Logic A E) (O' : A → Type 0) (left new : A → Bool) (seed : E → Bool) (M bottom top : A → Bool) : Type 0 where
  pub none_left : (a : A) → IsTrue (M a) → IsFalse (left a)
  pub side : IsNewLocalForRest B B' O' left new seed bottom ⊎ IsNewLocalForRest T T' O' left new seed top
