-- A document, axiom by axiom.
use Rattle.std.specs.Prelude.{ℕ, Bool, cond, List, [], Option}
use Rattle.ad_tree.specs.declared.axioms.Noted.{Noted}
use Rattle.ad_write.specs.Canonical.{canon_line}

-- the line of an axiom that is in the document; of another nothing
abbrev pub line_in : (Noted → Option ℕ → Bool) → Noted → Option ℕ → List ℕ
line_in takes noted slot = cond (takes noted slot) (canon_line noted) []
