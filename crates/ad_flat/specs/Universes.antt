-- What a universe holds.
use Rattle.std.specs.Prelude.{ℕ, List, Option}
use Rattle.ad_slots.specs.Held.{Held}
use Rattle.ad_flat.specs.declared.flat.FlatUniverse.{FlatUniverse}

-- what each slot holds; those past the end are free
abbrev pub held_in : FlatUniverse → List (Option Held)
held_in universe = universe.slots.entries

-- how many slots there may be
abbrev pub most_in : FlatUniverse → ℕ
most_in universe = universe.slots.most

-- how many symbols there may be: numbers of entities
abbrev pub symbols_in : FlatUniverse → ℕ
symbols_in universe = universe.slots.symbols
