-- The members of the rows of covers are the pairs of an atom and one that it covers.
use Rattle.std.proofs.Common.{◌≡◌, ℕ, suc, ◌+◌, ◌<◌, Bool, true, false, cond, if◌then◌else◌, List, [], ◌∷◌, length, map, slice_index_or, refl, ◌∙◌, ap, arith, suc-le-suc, zero-lt-suc}
use Rattle.std.specs.List.{sum_by}
use Rattle.std.proofs.lemmas.List.Sums.{sum_by-cons}
use Rattle.ad_bits.specs.Rows.{has, member_count}
use Rattle.ad_decomposition.specs.Atoms.{AreCovers, covers, firsts}
use Rattle.ad_shapes.specs.Shapes.{covered_by, places_where, shape_of}
use Rattle.ad_summary.specs.Summary.{cover_count}

one_more : (b : Bool) (i n : ℕ) (ns : List ℕ) → n ≡ length ns → (if b then 1 else 0) + n ≡ length (cond b (i ∷ ns) ns)
one_more true i n ns same = omega (arith, same)
one_more false i n ns same = omega (arith, same)

-- a row has as many members as elements pass the test, where it has a member where an element does
members_counted : (test : ℕ → Bool) (row : List Bool) (xs : List ℕ) (i : ℕ) → length row ≡ length xs → ((j : ℕ) → j < length row → has row j ≡ test (slice_index_or xs j 0))
    → member_count row ≡ length (places_where test i xs)
members_counted test [] [] i long same = refl
members_counted test [] (x ∷ xs) i long same = absurd (omega (arith, long))
members_counted test (b ∷ row) [] i long same = absurd (omega (arith, long))
members_counted test (b ∷ row) (x ∷ xs) i long same =
    let rest = members_counted test row xs (suc i) (omega (arith, long)) (λ j l. same (suc j) (suc-le-suc l)) in
    ap (λ c. (if c then 1 else 0) + member_count row) (same 0 (zero-lt-suc (length row))) ∙ one_more (test x) i (member_count row) (places_where test (suc i) xs) rest

-- what is as many at each place of two lists is as many together
sums_same : (counted : ℕ → List ℕ) (rows : List (List Bool)) (xs : List ℕ) → length rows ≡ length xs
    → ((i : ℕ) → i < length rows → member_count (slice_index_or rows i []) ≡ length (counted (slice_index_or xs i 0)))
    → sum_by member_count rows ≡ sum_by (λ covered. length covered) (map counted xs)
sums_same counted [] [] long same = refl
sums_same counted [] (x ∷ xs) long same = absurd (omega (arith, long))
sums_same counted (row ∷ rows) [] long same = absurd (omega (arith, long))
sums_same counted (row ∷ rows) (x ∷ xs) long same =
    let here : member_count row ≡ length (counted x) = same 0 (zero-lt-suc (length rows)) in
    let rest = sums_same counted rows xs (omega (arith, long)) (λ i l. same (suc i) (suc-le-suc l)) in
    omega (
      arith,
      here,
      rest,
      sum_by-cons member_count row rows,
      sum_by-cons (λ (covered : List ℕ). length covered) (counted x) (map counted xs),
    )

-- the rows of covers have as many members as there are pairs of an atom and one that it covers
pub covers_counted : (G : ℕ → ℕ → Bool) (order : List ℕ) (rows : List (List Bool)) → AreCovers G order rows → sum_by member_count rows ≡ cover_count (shape_of G order)
covers_counted G order rows are = sums_same (covered_by G order) rows (firsts G order) are.atoms_are
    (λ i l. members_counted (covers G order (slice_index_or (firsts G order) i 0)) (slice_index_or rows i []) (firsts G order) 0 (are.sizes_are i l ∙ are.atoms_are)
    (λ j k. are.covers_are i j 0 l (omega (arith, k, are.sizes_are i l))))
