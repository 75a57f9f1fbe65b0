use Rattle.std.proofs.Common.{◌≡◌, length}
use Rattle.ad_terms.specs.Stacks.{leading_notes}
use Rattle.ad_terms.proofs.stack.Stack.skip_notes.Given as goal

abbrev pub invariant-notes : goal.invariant-notes
invariant-notes l = (leading_notes l.initial.self).1 ≡ (leading_notes l.self).1

abbrev pub decreases-notes : goal.decreases-notes
decreases-notes l = length l.self
