use Rattle.std.proofs.Common.{◌≡◌, length}
use Rattle.ad_terms.specs.Stacks.{leading_notes, behind}
use Rattle.ad_terms.proofs.stack.Stack.notes.Given as goal

abbrev pub invariant-notes : goal.invariant-notes
invariant-notes l = leading_notes l.initial.self ≡ behind l.notes (leading_notes l.self)

abbrev pub decreases-notes : goal.decreases-notes
decreases-notes l = length l.self
