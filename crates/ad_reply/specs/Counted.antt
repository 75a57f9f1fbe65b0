-- The four counts of an edit, each as its digits.
use Rattle.std.specs.Prelude.{ℕ, List, [], ◌∷◌, codes, decimal}
use Rattle.ad_edition.specs.declared.receipts.Receipt.{Receipt}
use Rattle.ad_lines.specs.Lines.{line_of}

pub record Counted : Type 0 where
  pub added : List ℕ
  pub already : List ℕ
  pub removed : List ℕ
  pub absent : List ℕ

abbrev pub counted_in : Receipt → Counted
counted_in receipt = record { added = decimal receipt.added; already = decimal receipt.already; removed = decimal receipt.removed; absent = decimal receipt.absent }

abbrev pub counted_text : Counted → List ℕ
counted_text c = line_of (codes "added" ∷ c.added ∷ codes "already" ∷ c.already ∷ codes "removed" ∷ c.removed ∷ codes "absent" ∷ c.absent ∷ [])
