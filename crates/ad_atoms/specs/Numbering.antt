-- Numbering the atoms while the ontology's axioms are gone through in order. G says which axioms are in the genuine
-- module of an axiom (G a b: b is in that of a).
use Rattle.std.specs.Prelude.{◌≡◌, ℕ, ◌&&◌, not, Bool, List, None, length, map, if◌then◌else◌, slice_index_or}
use Rattle.std.specs.List.{Contains, filter, position}
use Rattle.ad_base.specs.declared.limits.Kind.{Kind}
use Rattle.ad_tables.specs.Rows.{Tables, Numbered, of_kind}
use Rattle.ad_decomposition.specs.Atoms.{firsts_among, same_module, size_of}
use Rattle.ad_decomposition.specs.Tables.{AreNested, HaveRows, is_in_row_of}

-- each is in the module of the other
abbrev pub is_mutual : (ℕ → ℕ → Bool) → ℕ → ℕ → Bool
is_mutual G a b = G a b && G b a

-- the slot stands in some order of axioms with rows, which nest
abbrev pub IsListed : Tables → Kind → ℕ → Type 0
IsListed tables kind slot = (order : List ℕ) × Contains order slot × HaveRows tables kind (length (of_kind tables kind)) order × AreNested (is_in_row_of tables kind) order

-- the axioms of atoms among those gone through
abbrev pub done_in_atoms : (ℕ → ℕ → Bool) → List ℕ → List ℕ
done_in_atoms G done = filter (λ a. G a a) done

-- the first axioms of the atoms among those gone through
abbrev pub done_firsts : (ℕ → ℕ → Bool) → List ℕ → List ℕ → List ℕ
done_firsts G order done = firsts_among (same_module G order) (done_in_atoms G done)

-- the atoms of these axioms are numbered: each axiom of them has its number, also where it stands later in the order
pub record AreAtomsOf (G : ℕ → ℕ → Bool) (order done : List ℕ) (atoms : Numbered) : Type 0 where
  pub firsts_are : atoms.firsts ≡ done_firsts G order done
  pub sizes_are : atoms.sizes ≡ map (size_of G order) (done_firsts G order done)
  pub tautologies_are : atoms.tautologies ≡ length (filter (λ a. not (G a a)) done)
  pub of_axioms : (a : ℕ) → Contains order a → slice_index_or atoms.atom_of a None ≡ (if G a a then position (same_module G order a) (done_firsts G order done) else None)
  pub of_others : (a : ℕ) → ¬ Contains order a → slice_index_or atoms.atom_of a None ≡ None
