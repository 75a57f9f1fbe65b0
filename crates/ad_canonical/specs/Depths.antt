-- How deep an axiom nests.
use Rattle.std.specs.Prelude.{ℕ, ◌≤◌, false}
use Rattle.ad_tree.specs.declared.axioms.Noted.{Noted}
use Rattle.ad_grammar.specs.Nesting.{nesting}
use Rattle.ad_grammar.specs.Shapes.{Text}
use Rattle.ad_grammar.specs.Names.{Words}
use Rattle.ad_grammar.specs.Axioms.{SpellsNoted}

-- the parentheses of an axiom nest no deeper than this, however its names are spelled
abbrev pub NestsWithin : ℕ → Noted → Type 0
NestsWithin depth a = (words : Words) (ts : Text) → SpellsNoted false words a ts → nesting ts ≤ depth
