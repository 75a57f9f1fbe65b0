-- The atoms of an edition are those of its ontology.
use Rattle.std.proofs.Common.{◌≡◌, ℕ, suc, ◌≤◌, ◌<◌, ◌^◌, true, false, cond, List, [], ◌∷◌, Option, None, Some, is_some, length, map, slice_index_or, refl, sym, ap, ◌∙◌, subst, inl, inr, arith}
use Rattle.std.specs.List.{AllZip, IsDistinct, filter, zip}
use Rattle.std.proofs.lemmas.List.{length-map}
use Rattle.ad_theory.proofs.Members.{Has, contains_of_has}
use Rattle.ad_base.specs.declared.limits.Kind.{Kind}
use Rattle.ad_apply.specs.Same as edits
use Rattle.ad_tree.specs.Same.{same_axiom}
use Rattle.ad_tree.specs.declared.axioms.Noted.{Noted}
use Rattle.ad_syntax_laws.specs.OntologyModule.{is_logical_axiom, logical}
use Rattle.ad_entity.specs.declared.entities.Entity.{Entity}
use Rattle.ad_slots.specs.Held.{Held}
use Rattle.ad_tables.specs.Rows.{Numbered, Tables}
use Rattle.ad_decomposition.specs.Tables.{AreGenuine, is_in_row_of}
use Rattle.ad_decompose.specs.Decomposed.{genuine_of}
use Rattle.ad_decompose.specs.Decomposed.{atomic_of}
use Rattle.ad_decomposition.specs.Atoms.{atom_of, firsts, size_of}
use Rattle.ad_module_document.specs.Documents.{taken_of}
use Rattle.ad_numbered.specs.Numbered.{InSlots, given, number_of, order_of}
use Rattle.ad_reply.specs.Atoms.{is_slot_of, shape_in}
use Rattle.ad_reply.specs.Bodies.{HasAtoms, IsAtomBody, axioms_of_atom, is_of_atom}
use Rattle.ad_flat.specs.Trees.{ArePlaced}
use Rattle.ad_slots.specs.Places.{is_held, held_symbols, is_held_local}
use Rattle.ad_shapes.specs.Shapes.{shape_of}
use Rattle.ad_ontology_atoms.specs.OntologyAtoms.{IsShapeOf}
use Rattle.ad_apply.proofs.AppliedLemmas.{distinct-filter}
use Rattle.ad_write.specs.Canonical.{canon_document}
use Rattle.ad_edition.specs.Edition.{Whole, IsEdition}

opened : (axioms : List Noted) → IsDistinct edits.same_axiom axioms → IsDistinct same_axiom axioms
unfolding edits.same_axiom
opened axioms d = d

-- what is proved of the atoms over slots
abbrev pub ShapesOfSlots : Type 0
ShapesOfSlots = (number : Entity → Option ℕ) (slots : List (Option Held)) (places : List ℕ) (ontology : List Noted) (kind : Kind) (n : ℕ) (tables : Tables) →
    ArePlaced number slots places (logical ontology) → IsDistinct same_axiom (logical ontology) →
    AreGenuine (held_symbols slots) (is_held_local slots) (is_held slots) n tables →
    IsShapeOf kind ontology (shape_of (is_in_row_of tables kind) places)

-- the shape of the edition's atoms is that of its ontology's
pub edition_shape : (kind : Kind) (edition : Whole) → IsEdition edition → ShapesOfSlots → IsShapeOf kind edition.shown.axioms (shape_in kind edition)
edition_shape kind edition is law =
    let o = edition.numbered in
    let distinct : IsDistinct same_axiom (logical o.axioms) = opened (logical o.axioms) (distinct-filter is_logical_axiom o.axioms (subst (IsDistinct edits.same_axiom) (sym is.axioms) is.distinct)) in
    subst (λ axioms. IsShapeOf kind axioms (shape_of (genuine_of edition.found kind) (order_of o))) is.axioms
    (law (number_of o) o.held (order_of o) o.axioms kind o.most edition.found.tables is.numbered.placed distinct is.decomposed.genuine)

-- of the axioms with their slots those in an atom are of the logical ones, with their atoms, those in the atom
kept_slots : (atoms : List (Option ℕ)) (atom : ℕ) (xs : List Noted) (slots : List (Option ℕ)) → AllZip (λ a slot. is_some slot ≡ is_logical_axiom a) xs slots
    → map (λ p. p.0) (filter (λ p. is_slot_of atoms atom p.1) (zip xs slots)) ≡ map (λ p. p.0) (filter (λ p. is_of_atom atom p.1) (zip (logical xs) (map (λ slot. slice_index_or atoms slot None) (given slots))))
kept_slots atoms atom [] [] all = refl
kept_slots atoms atom [] (slot ∷ slots) all = absurd all
kept_slots atoms atom (x ∷ xs) [] all = absurd all
kept_slots atoms atom (x ∷ xs) (None ∷ slots) all =
    let carried : is_logical_axiom x ≡ false = sym all.0 in
    let rest : logical (x ∷ xs) ≡ logical xs = rw carried refl in
    kept_slots atoms atom xs slots all.1 ∙ ap (λ l. map (λ p. p.0) (filter (λ p. is_of_atom atom p.1) (zip l (map (λ slot. slice_index_or atoms slot None) (given slots))))) (sym rest)
kept_slots atoms atom (x ∷ xs) (Some slot ∷ slots) all =
    let of_logic : is_logical_axiom x ≡ true = sym all.0 in
    let rest : logical (x ∷ xs) ≡ x ∷ logical xs = rw of_logic refl in
    let at : Option ℕ = slice_index_or atoms slot None in
    let numbers : List (Option ℕ) = map (λ slot. slice_index_or atoms slot None) (given slots) in
    let more = kept_slots atoms atom xs slots all.1 in
    let step : map (λ p. p.0) (filter (λ p. is_slot_of atoms atom p.1) (zip (x ∷ xs) (Some slot ∷ slots))) ≡ map (λ p. p.0) (filter (λ p. is_of_atom atom p.1) (zip (x ∷ logical xs) (at ∷ numbers))) =
    elim (is_of_atom atom at) as (λ b. map (λ p. p.0) (cond b ((x, Some slot) ∷ filter (λ p. is_slot_of atoms atom p.1) (zip xs slots)) (filter (λ p. is_slot_of atoms atom p.1) (zip xs slots)))
    ≡ map (λ p. p.0) (cond b ((x, at) ∷ filter (λ p. is_of_atom atom p.1) (zip (logical xs) numbers)) (filter (λ p. is_of_atom atom p.1) (zip (logical xs) numbers)))) [
      | true ↦ ap (λ l. x ∷ l) more
      | false ↦ more
    ] in
    step ∙ ap (λ l. map (λ p. p.0) (filter (λ p. is_of_atom atom p.1) (zip l (at ∷ numbers)))) (sym rest)

map_same : {A B : Type 0} (f g : A → B) (xs : List A) → ((x : A) → Has xs x → f x ≡ g x) → map f xs ≡ map g xs
map_same f g [] same = refl
map_same f g (x ∷ xs) same = ap (λ y. y ∷ map f xs) (same x (inl refl)) ∙ ap (λ l. g x ∷ l) (map_same f g xs (λ y h. same y (inr h)))

-- the axioms that an atom's slots have are those of the atom
pub atom_taken : (kind : Kind) (edition : Whole) (atom : ℕ) → IsEdition edition
    → taken_of (λ a slot. is_slot_of (atomic_of edition.found kind).atoms.atom_of atom slot) edition.numbered ≡ axioms_of_atom (shape_in kind edition) atom edition.shown.axioms
atom_taken kind edition atom is =
    let o = edition.numbered in
    let atoms = (atomic_of edition.found kind).atoms.atom_of in
    let are = (is.decomposed.atomic kind).atoms_are in
    let numbers : map (λ slot. slice_index_or atoms slot None) (order_of o) ≡ map (atom_of (genuine_of edition.found kind) (order_of o)) (order_of o) =
    map_same (λ slot. slice_index_or atoms slot None) (atom_of (genuine_of edition.found kind) (order_of o)) (order_of o) (λ slot h. are.of_axioms slot (contains_of_has (order_of o) slot h)) in
    kept_slots atoms atom o.axioms o.slots is.numbered.slotted
    ∙ ap (λ l. map (λ p. p.0) (filter (λ p. is_of_atom atom p.1) (zip (logical o.axioms) l))) numbers
    ∙ ap (λ axioms. axioms_of_atom (shape_in kind edition) atom axioms) is.axioms

pub atom_taken_in : (kind : Kind) (edition : Whole) (atom : ℕ) (atoms : Numbered) (ontology : InSlots) → IsEdition edition → atoms ≡ (atomic_of edition.found kind).atoms → ontology ≡ edition.numbered
    → taken_of (λ a slot. is_slot_of atoms.atom_of atom slot) ontology ≡ axioms_of_atom (shape_in kind edition) atom edition.shown.axioms
atom_taken_in kind edition atom atoms ontology is same_atoms same_ontology =
    ap (λ (t : Numbered). taken_of (λ a slot. is_slot_of t.atom_of atom slot) ontology) same_atoms
    ∙ ap (λ (o : InSlots). taken_of (λ a slot. is_slot_of (atomic_of edition.found kind).atoms.atom_of atom slot) o) same_ontology
    ∙ atom_taken kind edition atom is

-- there are as many atoms as are counted
pub atoms_counted : (kind : Kind) (edition : Whole) → IsEdition edition → length (atomic_of edition.found kind).atoms.firsts ≡ length (shape_in kind edition).sizes
atoms_counted kind edition is =
    let G = genuine_of edition.found kind in
    let order = order_of edition.numbered in
    ap (λ l. length l) (is.decomposed.atomic kind).atoms_are.firsts_are ∙ sym (length-map (firsts G order) (size_of G order))

given_long : (xs : List Noted) (slots : List (Option ℕ)) → AllZip (λ a slot. is_some slot ≡ is_logical_axiom a) xs slots → length (given slots) ≡ length (logical xs)
given_long [] [] all = refl
given_long [] (slot ∷ slots) all = absurd all
given_long (x ∷ xs) [] all = absurd all
given_long (x ∷ xs) (None ∷ slots) all =
    let carried : is_logical_axiom x ≡ false = sym all.0 in
    let rest : logical (x ∷ xs) ≡ logical xs = rw carried refl in
    given_long xs slots all.1 ∙ ap (λ l. length l) (sym rest)
given_long (x ∷ xs) (Some slot ∷ slots) all =
    let of_logic : is_logical_axiom x ≡ true = sym all.0 in
    let rest : logical (x ∷ xs) ≡ x ∷ logical xs = rw of_logic refl in
    ap (λ n. suc n) (given_long xs slots all.1) ∙ ap (λ l. length l) (sym rest)

-- the order of an edition's slots isn't long
pub order_short : (edition : Whole) → IsEdition edition → length (order_of edition.numbered) ≤ 2 ^ 20
order_short edition is =
    let o = edition.numbered in
    omega (arith, given_long o.axioms o.slots is.numbered.slotted, is.numbered.within, is.numbered.few_slots)

-- the document of the axioms of an atom that there is
pub atom_body : (kind : Kind) (edition : Whole) (atom : ℕ) → IsEdition edition → ShapesOfSlots → atom < length (atomic_of edition.found kind).atoms.firsts
    → IsAtomBody kind atom edition.shown.axioms (canon_document (axioms_of_atom (shape_in kind edition) atom edition.shown.axioms))
atom_body kind edition atom is law within = record {
  shape = shape_in kind edition;
  is = edition_shape kind edition is law;
  within = subst (λ n. atom < n) (atoms_counted kind edition is) within;
  document = refl;
}

-- there are so many atoms as are counted
pub atoms_are : (kind : Kind) (edition : Whole) (count : ℕ) → IsEdition edition → ShapesOfSlots → count ≡ length (atomic_of edition.found kind).atoms.firsts → HasAtoms kind edition.shown.axioms count
atoms_are kind edition count is law counted = record {
  shape = shape_in kind edition;
  is = edition_shape kind edition is law;
  counted = counted ∙ atoms_counted kind edition is;
}
