-- What is seen of an ontology's atoms by their numbers alone, whatever its axioms are.
use Rattle.std.specs.Prelude.{ℕ, suc, Bool, cond, List, [], ◌∷◌, Option, map}
use Rattle.ad_decomposition.specs.Atoms.{atom_of, covers, firsts, size_of, tautologies}

-- of each axiom its atom, where it is in one; of each atom how many axioms it has and which atoms it covers; and how many
-- axioms are in no atom
pub record Shape : Type 0 where
  pub atoms : List (Option ℕ)
  pub sizes : List ℕ
  pub covers : List (List ℕ)
  pub tautologies : ℕ

-- the places of the elements that pass the test, rising, where the first element of the list has the place i
abbrev pub places_where : {A : Type 0} → (A → Bool) → ℕ → List A → List ℕ
places_where test i [] = []
places_where test i (x ∷ xs) = cond (test x) (i ∷ places_where test (suc i) xs) (places_where test (suc i) xs)

-- G says which axioms are in the genuine module of an axiom (G a b: b is in that of a), and order lists the axioms
module _ {A : Type 0} (G : A → A → Bool) (order : List A) where
  -- the numbers of the atoms that the one that begins with this axiom covers, rising
  abbrev pub covered_by : A → List ℕ
  covered_by first = places_where (covers G order first) 0 (firsts G order)

  abbrev pub shape_of : Shape
  shape_of = record { atoms = map (atom_of G order) order; sizes = map (size_of G order) (firsts G order); covers = map covered_by (firsts G order); tautologies = tautologies G order }
