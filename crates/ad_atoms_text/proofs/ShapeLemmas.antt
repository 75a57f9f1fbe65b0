-- What is written of numbered atoms and the rows of their covers is the text of the shape of the axioms.
use Rattle.std.proofs.Common.{◌≡◌, ℕ, zero, suc, ◌+◌, ◌<◌, Bool, cond, List, [], ◌∷◌, ◌++◌, length, map, slice_index, slice_index_or, refl, sym, ◌∙◌, ap, arith, suc-le-suc, zero-lt-suc}
use Rattle.std.proofs.lemmas.List.{length-map}
use Rattle.ad_bits.specs.Rows.{has}
use Rattle.ad_tables.specs.Rows.{Numbered}
use Rattle.ad_depend.specs.Covered.{Covered}
use Rattle.ad_decomposition.specs.Atoms.{AreAtoms, AreCovers, covers, firsts, size_of, tautologies}
use Rattle.ad_shapes.specs.Shapes.{covered_by, places_where, shape_of}
use Rattle.ad_atoms_text.specs.AtomsText.{atom_line, atom_lines, atoms_text, head_line}
use Rattle.ad_atoms_text.specs.Numbered.{lines_of, listing, members}

-- a row has a member where an element passes the test
places_same : (test : ℕ → Bool) (row : List Bool) (xs : List ℕ) (i : ℕ) → length row ≡ length xs → ((j : ℕ) → j < length row → has row j ≡ test (slice_index_or xs j 0)) → places_where (λ b. b) i row ≡ places_where test i xs
places_same test [] [] i long same = refl
places_same test [] (x ∷ xs) i long same = absurd (omega (arith, long))
places_same test (b ∷ row) [] i long same = absurd (omega (arith, long))
places_same test (b ∷ row) (x ∷ xs) i long same =
    let rest = places_same test row xs (suc i) (omega (arith, long)) (λ j l. same (suc j) (suc-le-suc l)) in
    ap (λ c. cond c (i ∷ places_where (λ b. b) (suc i) row) (places_where (λ b. b) (suc i) row)) (same 0 (zero-lt-suc (length row)))
    ∙ ap (λ ns. cond (test x) (i ∷ ns) ns) rest

-- what is the same at each place of two lists is the same list
map_same : (f : List Bool → List ℕ) (g : ℕ → List ℕ) (rows : List (List Bool)) (xs : List ℕ) → length rows ≡ length xs → ((i : ℕ) → i < length rows → f (slice_index_or rows i []) ≡ g (slice_index_or xs i 0)) → map f rows ≡ map g xs
map_same f g [] [] long same = refl
map_same f g [] (x ∷ xs) long same = absurd (omega (arith, long))
map_same f g (row ∷ rows) [] long same = absurd (omega (arith, long))
map_same f g (row ∷ rows) (x ∷ xs) long same =
    ap (λ ns. ns ∷ map f rows) (same 0 (zero-lt-suc (length rows))) ∙ ap (λ nss. g x ∷ nss) (map_same f g rows xs (omega (arith, long)) (λ i l. same (suc i) (suc-le-suc l)))

module _ (G : ℕ → ℕ → Bool) (order : List ℕ) (rows : List (List Bool)) (are : AreCovers G order rows) where
  covers_are : map members rows ≡ map (covered_by G order) (firsts G order)
  covers_are = map_same members (covered_by G order) rows (firsts G order) are.atoms_are
      (λ i l. places_same (covers G order (slice_index_or (firsts G order) i 0)) (slice_index_or rows i []) (firsts G order) 0 (are.sizes_are i l ∙ are.atoms_are)
      (λ j k. are.covers_are i j 0 l (omega (arith, k, are.sizes_are i l))))

-- the lines by sizes and covers that are listed
lines_are : (size : ℕ → ℕ) (atom : ℕ) (sizes : List ℕ) (rows : List (List Bool)) → length sizes ≡ length rows → ((k : ℕ) → k < length sizes → size (atom + k) ≡ slice_index_or sizes k 0) → lines_of size atom rows ≡ atom_lines atom sizes (map members rows)
lines_are size atom [] [] long same = refl
lines_are size atom [] (row ∷ rows) long same = absurd (omega (arith, long))
lines_are size atom (n ∷ sizes) [] long same = absurd (omega (arith, long))
lines_are size atom (n ∷ sizes) (row ∷ rows) long same =
    let here : size atom ≡ n = ap size (let is : atom ≡ atom + 0 = omega arith in is) ∙ same 0 (zero-lt-suc (length sizes)) in
    let later : (k : ℕ) → k < length sizes → size ((atom + 1) + k) ≡ slice_index_or sizes k 0 = λ k l. ap size (let is : (atom + 1) + k ≡ atom + suc k = omega arith in is) ∙ same (suc k) (suc-le-suc l) in
    ap (λ m. atom_line atom m (members row) ++ lines_of size (atom + 1) rows) here
    ∙ ap (λ t. atom_line atom n (members row) ++ t) (lines_are size (atom + 1) sizes rows (omega (arith, long)) later)

pub listing_is : (G : ℕ → ℕ → Bool) (order : List ℕ) (atoms : Numbered) (covered : Covered) → length covered.rows ≡ length atoms.firsts → AreAtoms G order atoms → AreCovers G order covered.rows → listing atoms covered ≡ atoms_text (shape_of G order)
listing_is G order atoms covered counted are are_covers =
    let count : length atoms.firsts ≡ length (map (size_of G order) (firsts G order)) = ap length are.firsts_are ∙ sym (length-map (firsts G order) (size_of G order)) in
    let long : length atoms.sizes ≡ length covered.rows = ap length are.sizes_are ∙ sym count ∙ sym counted in
    let lines : lines_of (slice_index atoms.sizes) 0 covered.rows ≡ atom_lines 0 atoms.sizes (map members covered.rows) =
    lines_are (slice_index atoms.sizes) 0 atoms.sizes covered.rows long (λ k l. ap (slice_index atoms.sizes) (let is : 0 + k ≡ k = omega arith in is)) in
    ap (λ n. head_line n atoms.tautologies ++ lines_of (slice_index atoms.sizes) 0 covered.rows) count
    ∙ ap (λ n. head_line (length (map (size_of G order) (firsts G order))) n ++ lines_of (slice_index atoms.sizes) 0 covered.rows) are.tautologies_are
    ∙ ap (λ t. head_line (length (map (size_of G order) (firsts G order))) (tautologies G order) ++ t)
    (lines ∙ ap (λ sizes. atom_lines 0 sizes (map members covered.rows)) are.sizes_are ∙ ap (atom_lines 0 (map (size_of G order) (firsts G order))) (covers_are G order covered.rows are_covers))
