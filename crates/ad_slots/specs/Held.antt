-- Axioms in slots.
use Rattle.std.specs.Prelude.{ℕ, Bool, not, false, List, IsTrue}
use Rattle.ad_base.specs.declared.limits.Side.{Side}
use Rattle.ad_theory.specs.Numbers.{among}
use Rattle.ad_cells.specs.declared.cell.Cell.{Cell}
use Rattle.ad_cells.specs.declared.cell.Test.{Test}
use Rattle.ad_cells.specs.Codes.{is_local_code, symbols_of}

-- an axiom as a test and a code, and the numbers of the entities in its signature
pub record Held : Type 0 where
  pub test : Test
  pub code : List Cell
  pub symbols : List ℕ

-- the numbers of the code are among those of the signature
abbrev pub IsCovered : List Cell → List ℕ → Type 0
IsCovered code symbols = (n : ℕ) → IsTrue (among (symbols_of code) n) → IsTrue (among symbols n)

-- whether the axiom is local for these numbers
abbrev pub is_local_held : Side → (ℕ → Bool) → Held → Bool
is_local_held side seen h = is_local_code side seen h.test h.code
