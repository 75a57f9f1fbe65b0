-- The atoms of an edition, whose axioms stand in slots.
use Rattle.std.specs.Prelude.{ℕ, Bool, false, List, Option, None, Some, slice_index_or}
use Rattle.ad_base.specs.declared.limits.Kind.{Kind}
use Rattle.ad_decompose.specs.Decomposed.{genuine_of}
use Rattle.ad_edition.specs.Edition.{Whole}
use Rattle.ad_numbered.specs.Numbered.{order_of}
use Rattle.ad_shapes.specs.Shapes.{Shape, shape_of}
use Rattle.ad_reply.specs.Bodies.{is_of_atom}

-- what is seen of the edition's atoms of a kind
abbrev pub shape_in : Kind → Whole → Shape
shape_in kind edition = shape_of (genuine_of edition.found kind) (order_of edition.numbered)

-- whether the axiom in this slot, if it is in one, is in the atom of this number, by the atoms of slots
abbrev pub is_slot_of : List (Option ℕ) → ℕ → Option ℕ → Bool
is_slot_of atoms atom None = false
is_slot_of atoms atom (Some slot) = is_of_atom atom (slice_index_or atoms slot None)
