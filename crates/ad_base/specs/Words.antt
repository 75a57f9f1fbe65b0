-- The comparisons of texts, seen as the lists of their UTF-8 bytes.
use Rattle.std.specs.Prelude.{ℕ, Bool, List, nat_eq}
use Rattle.std.specs.Ordering.{nat_cmp}
use Rattle.std.specs.declared.cmp.Ordering.{Ordering}
use Rattle.std.specs.Cmp.Lexicographic.{pointwise, slice_cmp}

-- whether two texts are the same
abbrev pub same_text : List ℕ → List ℕ → Bool
same_text = pointwise nat_eq

-- byte by byte, and a text before those that it begins
abbrev pub text_order : List ℕ → List ℕ → Ordering
text_order = slice_cmp nat_cmp
