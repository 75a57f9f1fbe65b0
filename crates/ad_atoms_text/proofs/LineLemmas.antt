-- The parts of an atom's line.
use Rattle.std.proofs.Common.{◌≡◌, ℕ, ◌+◌, ◌<◌, ◌≤◌, Bool, List, [], length, drop, slice_index_or, ◌∷◌, ◌++◌, decimal, map, refl, sym, ◌∙◌, ap, append_assoc, codes}
use Rattle.std.specs.List.{flat_map}
use Rattle.std.proofs.lemmas.List.{append-nil, drop_all, drop_more}
use Rattle.ad_lines.specs.Lines.{behind}
use Rattle.ad_atoms_text.specs.AtomsText.{atom_line, needs_words}
use Rattle.ad_atoms_text.specs.Numbered.{lines_of, members, numbers}

behind_numbers : (ns : List ℕ) → numbers ns ++ 10 ∷ [] ≡ behind (map decimal ns)
behind_numbers [] = refl
behind_numbers (n ∷ ns) = append_assoc (32 ∷ decimal n) (numbers ns) (10 ∷ []) ∙ ap (λ t. 32 ∷ decimal n ++ t) (behind_numbers ns)

-- the word before the covered atoms, their numbers, and the line feed
pub needs : (n : ℕ) (ns : List ℕ) → (codes " needs" ++ numbers (n ∷ ns)) ++ 10 ∷ [] ≡ behind (needs_words (n ∷ ns))
needs n ns = append_assoc (codes " needs") (numbers (n ∷ ns)) (10 ∷ []) ∙ ap (λ t. codes " needs" ++ t) (behind_numbers (n ∷ ns))

-- four parts behind each other
pub four : (a b c d : List ℕ) → ((a ++ b) ++ c) ++ d ≡ a ++ (b ++ (c ++ d))
four a b c d = append_assoc (a ++ b) c d ∙ append_assoc a b (c ++ d)

-- the line of this atom, and those of the atoms behind it
pub next_line : (size : ℕ → ℕ) (atom : ℕ) (rows : List (List Bool)) → atom < length rows →
    lines_of size atom (drop atom rows) ≡ atom_line atom (size atom) (members (slice_index_or rows atom [])) ++ lines_of size (atom + 1) (drop (atom + 1) rows)
next_line size atom rows below = ap (lines_of size atom) (drop_more rows atom [] below)

-- where no atom is left, all is done
pub all_done : (size : ℕ → ℕ) (atom : ℕ) (rows : List (List Bool)) (done : List ℕ) → length rows ≤ atom → lines_of size 0 rows ≡ done ++ lines_of size atom (drop atom rows) → done ≡ lines_of size 0 rows
all_done size atom rows done past is = sym (is ∙ ap (λ rest. done ++ lines_of size atom rest) (drop_all atom rows past) ∙ append-nil done)
