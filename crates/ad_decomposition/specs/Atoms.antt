-- Atoms. G says which axioms are in the genuine module of an axiom (G a b: b is in that of a), and order lists the
-- ontology's logical axioms.
use Rattle.std.specs.Prelude.{◌≡◌, ℕ, ◌<◌, ◌&&◌, ◌||◌, not, Bool, List, [], ◌∷◌, Option, None, length, map, if◌then◌else◌, slice_index_or}
use Rattle.std.specs.List.{Contains, filter, list_all, list_any, position}
use Rattle.ad_bits.specs.Rows.{has}
use Rattle.ad_tables.specs.Rows.{Numbered}

module _ {A : Type 0} (G : A → A → Bool) (order : List A) where
  -- a depends on b: the genuine module of b lies in that of a
  abbrev pub depends : A → A → Bool
  depends a b = list_all (λ c. not (G b c) || G a c) order

  abbrev pub same_module : A → A → Bool
  same_module a b = depends a b && depends b a

  -- a depends on b, and is in another atom
  abbrev pub depends_strictly : A → A → Bool
  depends_strictly a b = depends a b && not (depends b a)

-- the elements that are the same as none before them
abbrev pub firsts_among : {A : Type 0} → (A → A → Bool) → List A → List A
firsts_among same [] = []
firsts_among same (a ∷ rest) = a ∷ filter (λ b. not (same a b)) (firsts_among same rest)

module _ {A : Type 0} (G : A → A → Bool) (order : List A) where
  -- the axioms that are no tautologies: those in their own genuine modules
  abbrev pub in_atoms : List A
  in_atoms = filter (λ a. G a a) order

  -- the first axiom of each atom, which numbers it
  abbrev pub firsts : List A
  firsts = firsts_among (same_module G order) in_atoms

  -- the atom of an axiom: that of the axioms with the same genuine module. A tautology is in none.
  abbrev pub atom_of : A → Option ℕ
  atom_of a = if G a a then position (same_module G order a) firsts else None

  -- how many axioms the atom has that begins with this one
  abbrev pub size_of : A → ℕ
  size_of first = length (filter (same_module G order first) in_atoms)

  abbrev pub tautologies : ℕ
  tautologies = length (filter (λ a. not (G a a)) order)

  -- The atom that begins with a covers the one that begins with b: it depends on it, and no third atom stands between.
  abbrev pub covers : A → A → Bool
  covers a b = depends_strictly G order a b && not (list_any (λ c. depends_strictly G order a c && depends_strictly G order c b) firsts)

-- the numbered atoms of axioms that are slots, listed in the ontology's order
pub record AreAtoms (G : ℕ → ℕ → Bool) (order : List ℕ) (atoms : Numbered) : Type 0 where
  pub firsts_are : atoms.firsts ≡ firsts G order
  pub sizes_are : atoms.sizes ≡ map (size_of G order) (firsts G order)
  pub tautologies_are : atoms.tautologies ≡ tautologies G order
  pub of_axioms : (a : ℕ) → Contains order a → slice_index_or atoms.atom_of a None ≡ atom_of G order a
  pub of_others : (a : ℕ) → ¬ Contains order a → slice_index_or atoms.atom_of a None ≡ None

-- for each atom the row of those that it covers, by their numbers
pub record AreCovers (G : ℕ → ℕ → Bool) (order : List ℕ) (rows : List (List Bool)) : Type 0 where
  pub atoms_are : length rows ≡ length (firsts G order)
  pub sizes_are : (i : ℕ) → i < length rows → length (slice_index_or rows i []) ≡ length rows
  pub covers_are : (i j d : ℕ) → i < length rows → j < length rows → has (slice_index_or rows i []) j ≡ covers G order (slice_index_or (firsts G order) i d) (slice_index_or (firsts G order) j d)

-- no other atom depends on the one that begins with a
abbrev pub is_top : (ℕ → ℕ → Bool) → List ℕ → ℕ → Bool
is_top G order a = not (list_any (λ b. depends_strictly G order b a) (firsts G order))
