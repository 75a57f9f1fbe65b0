-- The text that lists the atoms of not too many axioms is not too long: no number in it has more than twenty digits.
use Rattle.std.proofs.Common.{◌≡◌, ℕ, zero, suc, ◌+◌, ◌*◌, ◌^◌, ◌<◌, ◌≤◌, Bool, cond, List, [], ◌∷◌, ◌++◌, length, map, codes, decimal, inl, inr, sym, ◌∙◌, ap, arith, length-append}
use Rattle.std.specs.List.{AllByRecursion, filter}
use Rattle.std.proofs.lemmas.Fmt.{length-decimal-le}
use Rattle.std.proofs.lemmas.List.{length-map}
use Rattle.ad_lines.specs.Lines.{behind}
use Rattle.ad_theory.proofs.Members.{either}
use Rattle.ad_decomposition.specs.Atoms.{covers, firsts, in_atoms, same_module, size_of, tautologies}
use Rattle.ad_decomposition.proofs.Firsts.{length-filter-le, length-firsts-le}
use Rattle.ad_shapes.specs.Shapes.{covered_by, places_where, shape_of}
use Rattle.ad_atoms_text.specs.AtomsText.{atom_line, atom_lines, atoms_text, head_line, needs_words}

-- numbers that are not too large
abbrev Small : ℕ → Type 0
Small n = n ≤ 2 ^ 20

abbrev AreSmall : List ℕ → Type 0
AreSmall = AllByRecursion Small

digits : (n : ℕ) → Small n → length (decimal n) ≤ 20
digits n small = length-decimal-le 20 n (omega arith) (omega (arith, small)) (omega (arith, small))

behind_short : (ns : List ℕ) → AreSmall ns → length (behind (map decimal ns)) ≤ 21 * length ns + 1
behind_short [] small = omega arith
behind_short (n ∷ ns) small = omega (arith, digits n small.0, behind_short ns small.1, length-append (decimal n) (behind (map decimal ns)))

needs_short : (ns : List ℕ) → AreSmall ns → length (behind (needs_words ns)) ≤ 21 * length ns + 7
needs_short [] small = omega arith
needs_short (n ∷ ns) small = omega (arith, behind_short (n ∷ ns) small)

line_short : (atom size : ℕ) (ns : List ℕ) → Small atom → Small size → AreSmall ns → length (atom_line atom size ns) ≤ 21 * length ns + 60
line_short atom size ns small_atom small_size small =
    let needs : List ℕ = behind (needs_words ns) in
    omega (
      arith,
      digits atom small_atom,
      digits size small_size,
      needs_short ns small,
      length-append (decimal atom) (32 ∷ codes "axioms" ++ 32 ∷ decimal size ++ needs),
      length-append (decimal size) needs,
    )

-- a line has at most 22,020,156 bytes: sixty, and 21 for each of 2^20 numbers
lines_short : (atom : ℕ) (sizes : List ℕ) (covers : List (List ℕ)) → AreSmall sizes → AllByRecursion (λ ns. AreSmall ns × Small (length ns)) covers → atom + length sizes ≤ 2 ^ 20 → length (atom_lines atom sizes covers) ≤ length sizes * 22020156
lines_short atom [] covers small each few = omega arith
lines_short atom (size ∷ sizes) [] small each few = omega arith
lines_short atom (size ∷ sizes) (ns ∷ covers) small each few =
    let line = line_short atom size ns (omega (arith, few)) small.0 each.0.0 in
    let rest = lines_short (atom + 1) sizes covers small.1 each.1 (omega (arith, few)) in
    omega (arith, line, rest, each.0.1, length-append (atom_line atom size ns) (atom_lines (atom + 1) sizes covers))

head_short : (atoms tautologies : ℕ) → Small atoms → Small tautologies → length (head_line atoms tautologies) ≤ 60
head_short atoms tautologies small also =
    omega (
      arith,
      digits atoms small,
      digits tautologies also,
      length-append (decimal atoms) (32 ∷ codes "tautologies" ++ 32 ∷ decimal tautologies ++ 10 ∷ []),
      length-append (decimal tautologies) (10 ∷ []),
    )

all_map : {A B : Type 0} (P : B → Type 0) (f : A → B) (xs : List A) → ((x : A) → P (f x)) → AllByRecursion P (map f xs)
all_map P f [] each = tt
all_map P f (x ∷ xs) each = (each x, all_map P f xs each)

-- places are below the end of the list, and no more than it has elements
places_small : {A : Type 0} (test : A → Bool) (i : ℕ) (xs : List A) → i + length xs ≤ 2 ^ 20 → AreSmall (places_where test i xs) × (length (places_where test i xs) ≤ length xs)
places_small test i [] few = (tt, omega arith)
places_small test i (x ∷ xs) few =
    let rest = places_small test (suc i) xs (omega (arith, few)) in
    let here : Small i = omega (arith, few) in
    elim (either (test x)) [
      | inl t ↦ rw t ((here, rest.0), omega (arith, rest.1))
      | inr f ↦ rw f (rest.0, omega (arith, rest.1))
    ]

pub text_fits : {A : Type 0} (G : A → A → Bool) (order : List A) → length order ≤ 2 ^ 20 → length (atoms_text (shape_of G order)) < 2 ^ 64
text_fits {A} G order few =
    let fs : List A = firsts G order in
    let in_order : length (in_atoms G order) ≤ length order = length-filter-le _ order in
    let count : length fs ≤ length order = omega (arith, in_order, length-firsts-le (same_module G order) (in_atoms G order)) in
    let sizes : List ℕ = map (size_of G order) fs in
    let covereds : List (List ℕ) = map (covered_by G order) fs in
    let long : length sizes ≡ length fs = length-map fs (size_of G order) in
    let small_sizes : AreSmall sizes = all_map Small (size_of G order) fs (λ first. omega (arith, few, in_order, length-filter-le (same_module G order first) (in_atoms G order))) in
    let small_covers = all_map (λ ns. AreSmall ns × Small (length ns)) (covered_by G order) fs (λ first. let h = places_small (covers G order first) 0 fs (omega (arith, few, count)) in (h.0, omega (arith, h.1, few, count))) in
    let loose : tautologies G order ≤ length order = length-filter-le _ order in
    let lines = lines_short 0 sizes covereds small_sizes small_covers (omega (arith, few, count, long)) in
    let head = head_short (length sizes) (tautologies G order) (omega (arith, few, count, long)) (omega (arith, few, loose)) in
    omega (arith, lines, head, few, count, long, length-append (head_line (length sizes) (tautologies G order)) (atom_lines 0 sizes covereds))
