-- Modules of ontologies that are lists of axioms: the module is listed in the ontology's order.
use Rattle.std.specs.Prelude.{◌≡◌, ◌↔◌, ◌||◌, ◌∷◌, ◌⊎◌, [], Bool, List, IsTrue}
use Rattle.std.specs.List.{Contains, filter, list_any}
use Rattle.ad_theory.specs.Module.{Logic, IsModule, IsStar}

-- M lists the module of the axioms of O for the seed
pub record IsListedModule {A E : Type 0} (L : Logic A E) (seed : E → Bool) (O M : List A) : Type 0 where
  pub test : A → Bool
  pub closure : E → Bool
  pub is_module : IsModule L seed (Contains O) test closure
  pub listed : M ≡ filter test O

-- M lists the star module of the axioms of O for the seed
pub record IsListedStar {A E : Type 0} (B T : Logic A E) (seed : E → Bool) (O M : List A) : Type 0 where
  pub test : A → Bool
  pub is_star : IsStar B T seed (Contains O) test
  pub listed : M ≡ filter test O

-- xs is ys with some elements left out
abbrev pub IsSublist : {A : Type 0} → List A → List A → Type 0
IsSublist xs [] = xs ≡ []
IsSublist {A} xs (y ∷ ys) = IsSublist xs ys ⊎ ((zs : List A) × (xs ≡ y ∷ zs) × IsSublist zs ys)

-- the seed with what stands in the signatures of these axioms
abbrev pub seed_with : {A E : Type 0} → Logic A E → (E → Bool) → List A → E → Bool
seed_with L seed M e = seed e || list_any (λ a. L.sig a e) M

-- each axiom of O outside M is local for the seed with M's signature
abbrev pub IsOutsideLocal : {A E : Type 0} → Logic A E → (E → Bool) → List A → List A → Type 0
IsOutsideLocal {A} L seed O M = (a : A) → Contains O a → ¬ Contains M a → IsTrue (L.local (seed_with L seed M) a)

-- the module in plain words: M is a sublist of O with that property, and lies in each sublist that has it
pub record IsLiteralModule {A E : Type 0} (L : Logic A E) (seed : E → Bool) (O M : List A) : Type 0 where
  pub part : IsSublist M O
  pub outside : IsOutsideLocal L seed O M
  pub least : (N : List A) → IsSublist N O → IsOutsideLocal L seed O N → (a : A) → Contains M a → Contains N a

-- the test says which axioms are equal
abbrev pub IsEqualityTest : {A : Type 0} → (A → A → Bool) → Type 0
IsEqualityTest {A} same = (a b : A) → IsTrue (same a b) ↔ (a ≡ b)
