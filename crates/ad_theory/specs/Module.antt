-- What a module is. Axioms and entities are of any type. What is searched for is a test, and so is a
-- set of entities; the ontology that it is taken from is a fact on axioms.
use Rattle.std.specs.Prelude.{◌↔◌, Bool, ◌⊎◌, IsTrue}

-- which entities stand in an axiom's signature, and which axioms are local for a set of entities
pub record Logic (A E : Type 0) : Type 0 where
  pub sig : A → E → Bool
  pub local : (E → Bool) → A → Bool

-- an axiom that is local for a set is local for each set with no more of the axiom's own entities
pub record IsAntitone {A E : Type 0} (L : Logic A E) : Type 0 where
  pub shrinks : (S T : E → Bool) (a : A) → ((e : E) → IsTrue (L.sig a e) → IsTrue (S e) → IsTrue (T e)) → IsTrue (L.local T a) → IsTrue (L.local S a)

-- T has the seed and what stands in N's signatures, and each axiom of O is in N or local for T
pub record IsClosed {A E : Type 0} (L : Logic A E) (seed : E → Bool) (O : A → Type 0) (N : A → Bool) (T : E → Bool) : Type 0 where
  pub has_seed : (e : E) → IsTrue (seed e) → IsTrue (T e)
  pub has_symbols : (a : A) (e : E) → IsTrue (N a) → IsTrue (L.sig a e) → IsTrue (T e)
  pub rest : (a : A) → O a → IsTrue (N a) ⊎ IsTrue (L.local T a)

-- M is the module of O for the seed, and S is the seed with what stands in M's signatures
pub record IsModule {A E : Type 0} (L : Logic A E) (seed : E → Bool) (O : A → Type 0) (M : A → Bool) (S : E → Bool) : Type 0 where
  pub within : (a : A) → IsTrue (M a) → O a
  pub only : (e : E) → IsTrue (S e) → IsTrue (seed e) ⊎ ((a : A) × IsTrue (M a) × IsTrue (L.sig a e))
  pub closed : IsClosed L seed O M S
  pub least : (N : A → Bool) (T : E → Bool) → IsClosed L seed O N T → (a : A) → IsTrue (M a) → IsTrue (N a)

-- Q is the seed with what stands in M's signatures
abbrev pub IsClosure : {A E : Type 0} → Logic A E → (E → Bool) → (A → Bool) → (E → Bool) → Type 0
IsClosure {A} {E} L seed M Q = (e : E) → IsTrue (Q e) ↔ (IsTrue (seed e) ⊎ ((a : A) × IsTrue (M a) × IsTrue (L.sig a e)))

-- M is its own module
abbrev pub IsFixed : {A E : Type 0} → Logic A E → (E → Bool) → (A → Bool) → Type 0
IsFixed {A} {E} L seed M = (S : E → Bool) × IsModule L seed (λ a. IsTrue (M a)) M S

-- M is its own module on both sides, and contains each part of O that is
pub record IsStar {A E : Type 0} (B T : Logic A E) (seed : E → Bool) (O : A → Type 0) (M : A → Bool) : Type 0 where
  pub within : (a : A) → IsTrue (M a) → O a
  pub bottom : IsFixed B seed M
  pub top : IsFixed T seed M
  pub greatest : (N : A → Bool) → ((a : A) → IsTrue (N a) → O a) → IsFixed B seed N → IsFixed T seed N → (a : A) → IsTrue (N a) → IsTrue (M a)
