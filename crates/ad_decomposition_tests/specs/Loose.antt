-- A universe for tests: slots 0 and 1 hold axioms, each has its own number for its one symbol, and is local where that is
-- not seen.
use Rattle.std.specs.Prelude.{◌↔◌, ◌<◌, ◌==◌, ℕ, ◌||◌, not, Bool, false, List, [], ◌∷◌, nat_lt, if◌then◌else◌, IsTrue, IsFalse}
use Rattle.std.proofs.Common.{arith}
use Rattle.std.proofs.lemmas.Bool.Decides.{nat_tests}
use Rattle.ad_theory.specs.Module.{IsAntitone}
use Rattle.ad_theory.specs.Numbers.{among, logic_of}

abbrev pub is_live : ℕ → Bool
is_live i = nat_lt i 2

abbrev pub symbols_of : ℕ → List ℕ
symbols_of i = i ∷ []

abbrev pub slots_of : ℕ → List ℕ
slots_of s = if nat_lt s 2 then s ∷ [] else []

abbrev pub is_local : (ℕ → Bool) → ℕ → Bool
is_local seen i = not (nat_lt i 2) || not (seen i)

pub symbols_below : (i s : ℕ) → IsTrue (is_live i) → IsTrue (among (symbols_of i) s) → s < 2
symbols_below i s live h = grind (arith, nat_tests)

pub occurrences : (s i : ℕ) → IsTrue (among (slots_of s) i) ↔ (IsTrue (is_live i) × IsTrue (among (symbols_of i) s))
occurrences s i = (λ h. grind (arith, nat_tests), λ h. grind (arith, nat_tests))

pub globals : (i : ℕ) → IsTrue (among [] i) ↔ (IsTrue (is_live i) × IsFalse (is_local (λ _. false) i))
globals i = (λ h. grind (arith, nat_tests), λ h. grind (arith, nat_tests))

shrinks : (S T : ℕ → Bool) (i : ℕ) → (IsTrue (i == i || false) → IsTrue (S i) → IsTrue (T i)) → IsTrue (is_local T i) → IsTrue (is_local S i)
shrinks S T i more h = grind (arith, nat_tests)

pub antitone : IsAntitone (logic_of symbols_of is_local)
antitone = record { shrinks = λ S T i more h. shrinks S T i (more i) h }
