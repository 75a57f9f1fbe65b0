-- What a scan of a code from right to left finds: the operands on top of the stack that the first cells leave, and how many
-- cells leave the stack under them.
use Rattle.std.specs.Prelude.{◌≡◌, ℕ, ◌-◌, ◌≤◌, Bool, List, [], take}
use Rattle.ad_base.specs.declared.limits.Side.{Side}
use Rattle.ad_locality.specs.declared.surely.Surely.{Surely}
use Rattle.ad_cells.specs.declared.cell.Cell.{Cell}
use Rattle.ad_cells.specs.declared.scan.Gathered.{Gathered}
use Rattle.ad_cells.specs.declared.scan.Scanned.{Scanned}
use Rattle.ad_cells.specs.declared.scan.ScannedPair.{ScannedPair}
use Rattle.ad_cells.specs.Codes.{blank, top, under, taken, run}

-- the stack after the first cells, so many
abbrev pub stack_after : Side → (ℕ → Bool) → List Cell → ℕ → List Surely
stack_after side seen code end = run side seen [] (take end code)

-- the operand on top
pub record Scans (side : Side) (seen : ℕ → Bool) (code : List Cell) (end : ℕ) (found : Scanned) : Type 0 where
  pub surely : found.surely ≡ top (stack_after side seen code end)
  pub rest : stack_after side seen code found.rest ≡ under (stack_after side seen code end)
  pub shorter : found.rest ≤ end - 1

-- the operand on top, which is the second of an operator, and the one under it
pub record ScansPair (side : Side) (seen : ℕ → Bool) (code : List Cell) (end : ℕ) (found : ScannedPair) : Type 0 where
  pub second : found.second ≡ top (stack_after side seen code end)
  pub first : found.first ≡ top (under (stack_after side seen code end))
  pub rest : stack_after side seen code found.rest ≡ under (under (stack_after side seen code end))
  pub shorter : found.rest ≤ end

-- so many operands
pub record Gathers (side : Side) (seen : ℕ → Bool) (code : List Cell) (end count : ℕ) (found : Gathered) : Type 0 where
  pub operands : found.operands ≡ (taken count blank (stack_after side seen code end)).operands
  pub rest : stack_after side seen code found.rest ≡ (taken count blank (stack_after side seen code end)).left
  pub shorter : found.rest ≤ end
