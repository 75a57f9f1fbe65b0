-- The atoms on which no other depends. G says which axioms are in the genuine module of an axiom (G a b: b is in that of
-- a), and order lists the ontology's logical axioms.
use Rattle.std.specs.Prelude.{ℕ, Bool, not, List}
use Rattle.std.specs.List.{filter, list_any}
use Rattle.ad_decomposition.specs.Atoms.{depends_strictly, firsts}
use Rattle.ad_shapes.specs.Shapes.{places_where}

module _ {A : Type 0} (G : A → A → Bool) (order : List A) where
  -- no other atom depends on the one that begins with a
  abbrev pub is_top : A → Bool
  is_top a = not (list_any (λ b. depends_strictly G order b a) (firsts G order))

  -- the axioms that begin the atoms on which no other depends, in the order of the atoms
  abbrev pub tops : List A
  tops = filter is_top (firsts G order)

  -- the numbers of these atoms, rising
  abbrev pub top_atoms : List ℕ
  top_atoms = places_where is_top 0 (firsts G order)
