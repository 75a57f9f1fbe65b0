-- What is put into a buffer. Where it has failed, nothing is said of its cells, and it stays failed.
use Rattle.std.specs.Prelude.{◌≡◌, ℕ, false, List, ◌++◌}
use Rattle.ad_cells.specs.declared.cell.Cell.{Cell}
use Rattle.ad_codes.specs.declared.buffer.Buffer.{Buffer}

-- where the buffer hasn't failed, this code was put behind what it had
pub record Adds (old new : Buffer) (code : List Cell) : Type 0 where
  pub holds : new.failed ≡ false → (old.failed ≡ false) × (new.cells.items ≡ old.cells.items ++ code)

-- where the buffer hasn't failed, this is the number of so many, and nothing was put
pub record Counts (old new : Buffer) (many count : ℕ) : Type 0 where
  pub holds : new.failed ≡ false → (old.failed ≡ false) × (new.cells.items ≡ old.cells.items) × (count ≡ many)
