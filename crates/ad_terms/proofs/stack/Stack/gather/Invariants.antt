use Rattle.std.proofs.Common.{◌≡◌, ◌≤◌, ◌++◌, length, vec_len}
use Rattle.ad_terms.specs.Stacks.{gather, behind}
use Rattle.ad_terms.proofs.stack.Stack.gather.Given as goal

abbrev pub invariant-items : goal.invariant-items
invariant-items l = (gather l.initial.self 0 ≡ behind l.taken.items (gather l.self l.depth)) × (l.depth ≤ vec_len l.taken)

abbrev pub decreases-items : goal.decreases-items
decreases-items l = length l.self
