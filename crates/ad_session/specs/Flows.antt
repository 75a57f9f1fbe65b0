-- The bytes of a session: those that are left of its input, and those that were written, with the counts of faults.
use Rattle.std.specs.Prelude.{ℕ, List, Option}

pub record Flow : Type 0 where
  pub left : Option (List ℕ)
  pub read_faults : ℕ
  pub written : Option (List ℕ)
  pub write_faults : ℕ

abbrev pub flow : Option (List ℕ) → ℕ → Option (List ℕ) → ℕ → Flow
flow left read_faults written write_faults = record { left = left; read_faults = read_faults; written = written; write_faults = write_faults }
