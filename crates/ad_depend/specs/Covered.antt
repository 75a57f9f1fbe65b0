-- What is found of the covers between atoms.
use Rattle.std.specs.Prelude.{Bool, List}

-- for each atom the row of those that it covers, and the row of those on which no other depends
pub record Covered : Type 0 where
  pub rows : List (List Bool)
  pub tops : List Bool
