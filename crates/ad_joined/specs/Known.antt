-- A star module that was found before.
use Rattle.std.specs.Prelude.{◌≡◌, ℕ, Bool, List, IsTrue, IsFalse, length}
use Rattle.ad_base.specs.declared.limits.Side.{Side}
use Rattle.ad_base.specs.declared.limits.Side.TheVariants.{Bottom, Top}
use Rattle.ad_bits.specs.Rows.{has}
use Rattle.ad_theory.specs.Module.{Logic, IsFixed, IsStar}
use Rattle.ad_theory.specs.Numbers.{among, logic_of}

-- these axioms are in M, and M is its own module for the signature of each of them
abbrev pub HasFixed : {A E : Type 0} → Logic A E → (A → Bool) → (A → Bool) → Type 0
HasFixed {A} L M same = (a : A) → IsTrue (same a) → IsTrue (M a) × IsFixed L (L.sig a) M

-- one of these axioms isn't local for what was reached
abbrev pub IsMet : {A E : Type 0} → ((E → Bool) → A → Bool) → (A → Bool) → (E → Bool) → Type 0
IsMet {A} local same reached = (a : A) × IsTrue (same a) × IsFalse (local reached a)

-- the row is the star module for the signatures of some of its axioms, and the closure has the symbols of its axioms
pub record IsKnown (symbols : ℕ → List ℕ) (local : Side → (ℕ → Bool) → ℕ → Bool) (live : ℕ → Bool) (slots symbol_count : ℕ) (row closure same : List Bool) : Type 0 where
  pub row_size : length row ≡ slots
  pub closure_size : length closure ≡ symbol_count
  pub same_size : length same ≡ slots
  pub has_symbols : (a s : ℕ) → IsTrue (has row a) → IsTrue (among (symbols a) s) → IsTrue (has closure s)
  pub only : (s : ℕ) → IsTrue (has closure s) → (a : ℕ) × IsTrue (has row a) × IsTrue (among (symbols a) s)
  pub each : (a : ℕ) → IsTrue (has same a) → IsTrue (has row a)
      × IsStar (logic_of symbols (local Bottom)) (logic_of symbols (local Top)) (among (symbols a)) (λ i. IsTrue (live i)) (has row)

-- the row is its own module on both sides for the seed, and the star module for the signature of one of its axioms
pub record IsPart (symbols : ℕ → List ℕ) (local : Side → (ℕ → Bool) → ℕ → Bool) (live : ℕ → Bool) (seed : ℕ → Bool) (row : List Bool) : Type 0 where
  pub bottom : IsFixed (logic_of symbols (local Bottom)) seed (has row)
  pub top : IsFixed (logic_of symbols (local Top)) seed (has row)
  pub of : ℕ
  pub star : IsStar (logic_of symbols (local Bottom)) (logic_of symbols (local Top)) (among (symbols of)) (λ i. IsTrue (live i)) (has row)
