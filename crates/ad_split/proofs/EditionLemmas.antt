-- The tops and the parts of an edition.
use Rattle.std.proofs.Common.{◌≡◌, ℕ, suc, ◌+◌, ◌<◌, Bool, true, false, cond, List, [], ◌∷◌, Option, map, length, get_or, nat_eq, IsTrue, IfOk, Result, inl, inr, refl, sym, ap, ◌∙◌, subst, arith, eq-eqb}
use Rattle.std.specs.Prelude.{Ok, Err}
use Rattle.std.specs.List.{IsDistinct, filter, range_with_len}
use Rattle.std.proofs.lemmas.List.{get_or-map, length-map}
use Rattle.std.proofs.lemmas.List.FromFn.{get_or-range_with_len, length-range_with_len}
use Rattle.std.proofs.lemmas.Slice.Zip.{get_or-zip, length-zip}
use Rattle.ad_apply.specs.Same as edits
use Rattle.ad_apply.proofs.AppliedLemmas.{distinct-filter}
use Rattle.ad_base.specs.declared.limits.Kind.{Kind}
use Rattle.ad_bits.specs.Rows.{has}
use Rattle.ad_decompose.specs.Decomposed.{atomic_of, genuine_of}
use Rattle.ad_decomposition.specs.Atoms.{firsts, in_atoms, same_module, is_top}
use Rattle.ad_decomposition.specs.Tables.{AreGenuine, is_in_row_of}
use Rattle.ad_decomposition.proofs.Firsts.{firsts_has}
use Rattle.ad_edition.specs.Edition.{Whole, IsEdition}
use Rattle.ad_entity.specs.declared.entities.Entity.{Entity}
use Rattle.ad_flat.specs.Trees.{ArePlaced}
use Rattle.ad_flat.proofs.TreeLemmas.{kept_back, pair_of_place, axiom_of_pair}
use Rattle.ad_numbered.specs.Numbered.{number_of, order_of}
use Rattle.ad_ontology_atoms.specs.OntologyAtoms.{AreGenuineModules}
use Rattle.ad_shapes.specs.Shapes.{places_where}
use Rattle.ad_slots.specs.Held.{Held}
use Rattle.ad_slots.specs.Places.{is_held, held_symbols, is_held_local}
use Rattle.ad_syntax_laws.specs.OntologyModule.{is_logical_axiom, logical}
use Rattle.ad_tables.specs.Rows.{Tables}
use Rattle.ad_theory.proofs.Members.{Has, any_of_has, contains_of_has, filter_has, has_get_or}
use Rattle.ad_tree.specs.Same.{same_axiom}
use Rattle.ad_tree.specs.declared.axioms.Noted.{Noted}
use Rattle.ad_split.specs.Parts.{ArePartsOf, IsPartsText, numbered}
use Rattle.ad_split.specs.Slots.{slots_text}
use Rattle.ad_split.specs.Tops.{tops, top_atoms}
use Rattle.ad_split.proofs.TextLemmas.{same_text, same_top_atoms}
use Rattle.ad_split.proofs.TopLemmas.{at_places_where, places_in_row}

-- the law that rows over slots are genuine modules
abbrev pub RowsAreGenuine : Type 0
RowsAreGenuine = (number : Entity → Option ℕ) (slots : List (Option Held)) (places : List ℕ) (ontology : List Noted) (kind : Kind) (n : ℕ) (tables : Tables) →
    ArePlaced number slots places (logical ontology) → IsDistinct same_axiom (logical ontology) →
    AreGenuine (held_symbols slots) (is_held_local slots) (is_held slots) n tables →
    (G : Noted → Noted → Bool) × AreGenuineModules kind ontology G
    × ((i j : ℕ) (d : Noted) → i < length places → j < length places →
    G (get_or (logical ontology) i d) (get_or (logical ontology) j d) ≡ is_in_row_of tables kind (get_or places i 0) (get_or places j 0))

opened : (axioms : List Noted) → IsDistinct edits.same_axiom axioms → IsDistinct same_axiom axioms
unfolding edits.same_axiom
opened axioms d = d

-- what holds of a value holds of it otherwise
pub ok_same : {T E : Type 0} (P Q : T → Type 0) (r : Result T E) → ((t : T) → P t → Q t) → IfOk r P → IfOk r Q
ok_same P Q (Ok t) along ok = along t ok
ok_same P Q (Err e) along ok = tt

-- the places of what passes a test are places
places_below : {A : Type 0} (test : A → Bool) (i : ℕ) (xs : List A) (k : ℕ) → Has (places_where test i xs) k → k < i + length xs
places_below test i [] k h = absurd h
places_below test i (x ∷ xs) k h =
    let rest : Has (places_where test (suc i) xs) k → k < i + suc (length xs) = λ m. let below = places_below test (suc i) xs k m in omega arith in
    let both : (b : Bool) → Has (cond b (i ∷ places_where test (suc i) xs) (places_where test (suc i) xs)) k → k < i + suc (length xs) =
    elim [ true ↦ elim [ inl e ↦ omega arith | inr m ↦ rest m ] | false ↦ rest ] in
    both (test x) h

module _ (edition : Whole) (is : IsEdition edition) (kind : Kind) where
  abbrev K : ℕ → ℕ → Bool
  K = genuine_of edition.found kind

  abbrev order : List ℕ
  order = order_of edition.numbered

  abbrev axioms : List Noted
  axioms = edition.numbered.axioms

  abbrev begins : List ℕ
  begins = (atomic_of edition.found kind).atoms.firsts

  distinct : IsDistinct same_axiom (logical axioms)
  distinct = opened (logical axioms) (distinct-filter is_logical_axiom axioms (subst (IsDistinct edits.same_axiom) (sym is.axioms) is.distinct))

  -- the numbers of the tops are those that the edition's row of tops has
  pub tops_in_row : filter (has (atomic_of edition.found kind).covers.tops) (range_with_len 0 (length begins)) ≡ top_atoms K order
  tops_in_row =
      let atomic = is.decomposed.atomic kind in
      let count : length begins ≡ length (firsts K order) = ap length atomic.atoms_are.firsts_are in
      ap (λ n. filter (has (atomic_of edition.found kind).covers.tops) (range_with_len 0 n)) count
      ∙ places_in_row (is_top K order) (atomic_of edition.found kind).covers.tops 0 (firsts K order)
      (λ j d below.
      let same : 0 + j ≡ j = omega arith in
      let within : j < length (atomic_of edition.found kind).covers.rows = omega (arith, below, atomic.covers_are.atoms_are) in
      ap (has (atomic_of edition.found kind).covers.tops) same ∙ atomic.tops_are j d within ∙ ap (λ l. is_top K order (get_or l j d)) atomic.atoms_are.firsts_are)

  pub parts_are : RowsAreGenuine → (parts : List ℕ) → parts ≡ top_atoms K order → ArePartsOf kind edition.shown.axioms parts
  parts_are law parts e =
      let r = law (number_of edition.numbered) edition.numbered.held order axioms kind edition.numbered.most edition.found.tables is.numbered.placed distinct is.decomposed.genuine in
      subst (λ o. ArePartsOf kind o parts) is.axioms (r.0, r.1, e ∙ same_top_atoms edition.numbered is.numbered r.0 K r.2)

  pub text_is : RowsAreGenuine → IsPartsText kind edition.shown.axioms (slots_text edition.numbered K)
  text_is law =
      let r = law (number_of edition.numbered) edition.numbered.held order axioms kind edition.numbered.most edition.found.tables is.numbered.placed distinct is.decomposed.genuine in
      subst (λ o. IsPartsText kind o (slots_text edition.numbered K)) is.axioms (r.0, r.1, same_text edition.numbered is.numbered r.0 K r.2)

  module _ (parts : List ℕ) (tops_are : parts ≡ top_atoms K order) where
    -- the tops are the first slots of these atoms
    tops_at : map (λ k. get_or begins k 0) parts ≡ tops K order
    tops_at =
        ap (λ l. map (λ k. get_or l k 0) parts) (is.decomposed.atomic kind).atoms_are.firsts_are
        ∙ ap (map (λ k. get_or (firsts K order) k 0)) tops_are
        ∙ at_places_where (is_top K order) (firsts K order) 0

    pub as_many_tops : length (tops K order) ≡ length parts
    as_many_tops = ap length (sym tops_at) ∙ length-map parts (λ k. get_or begins k 0)

    pub as_many_numbered : length (numbered (tops K order)) ≡ length parts
    as_many_numbered = omega (arith, as_many_tops, length-zip (range_with_len 0 (length (tops K order))) (tops K order), length-range_with_len 0 (length (tops K order)))

    -- each is an atom
    pub atom_below : (i : ℕ) → i < length parts → get_or parts i 0 < length begins
    atom_below i within =
        let there : Has (top_atoms K order) (get_or parts i 0) = subst (λ l. Has l (get_or parts i 0)) tops_are (has_get_or parts i 0 within) in
        let below : get_or parts i 0 < 0 + length (firsts K order) = places_below (is_top K order) 0 (firsts K order) (get_or parts i 0) there in
        omega (arith, below, ap length (is.decomposed.atomic kind).atoms_are.firsts_are)

    -- the slot with which it begins holds an axiom
    pub begins_live : (i : ℕ) → i < length parts → IsTrue (is_held edition.numbered.held (get_or begins (get_or parts i 0) 0))
    begins_live i within =
        let slot : ℕ = get_or begins (get_or parts i 0) 0 in
        let among_firsts : Has (firsts K order) slot = subst (λ l. Has l slot) (is.decomposed.atomic kind).atoms_are.firsts_are (has_get_or begins (get_or parts i 0) 0 (atom_below i within)) in
        let in_order : Has order slot = (filter_has (λ a. K a a) order slot (firsts_has (same_module K order) (in_atoms K order) slot among_firsts)).0 in
        let placed = is.numbered.placed in
        let pair = pair_of_place _ order (logical axioms) placed.held slot (any_of_has (λ x. nat_eq x slot) order slot in_order (eq-eqb slot slot refl)) in
        kept_back (number_of edition.numbered) edition.numbered.held order (logical axioms) placed slot pair.0 pair.1
        (contains_of_has (logical axioms) pair.0 (axiom_of_pair _ order (logical axioms) placed.held slot pair.0 pair.1))

    -- the part at a place
    pub part_at : (i : ℕ) → i < length parts → get_or (numbered (tops K order)) i (0, 0) ≡ (i, get_or begins (get_or parts i 0) 0)
    part_at i within =
        let below : i < length (tops K order) = omega (arith, as_many_tops, within) in
        get_or-zip (range_with_len 0 (length (tops K order))) (tops K order) i (0, 0) (omega (arith, below, length-range_with_len 0 (length (tops K order)))) below
        ∙ ap (λ n. (n, get_or (tops K order) i 0)) (get_or-range_with_len 0 (length (tops K order)) i 0 below ∙ omega arith)
        ∙ ap (λ s. (i, s)) (ap (λ l. get_or l i 0) (sym tops_at) ∙ get_or-map (λ k. get_or begins k 0) parts i 0 0 within)
