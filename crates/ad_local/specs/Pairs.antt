-- What is sure of two operands together.
use Rattle.std.specs.Prelude.{◌&&◌, ◌||◌}
use Rattle.ad_locality.specs.declared.surely.Surely.{Surely}

-- the intersection of two
abbrev pub both_of : Surely → Surely → Surely
both_of a b = record { empty = a.empty || b.empty; whole = a.whole && b.whole; nonempty = (a.nonempty && b.whole) || (a.whole && b.nonempty) }

-- the union of two
abbrev pub either_of : Surely → Surely → Surely
either_of a b = record { empty = a.empty && b.empty; whole = a.whole || b.whole; nonempty = a.nonempty || b.nonempty }
