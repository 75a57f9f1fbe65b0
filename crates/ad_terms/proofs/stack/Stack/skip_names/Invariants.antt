use Rattle.std.proofs.Common.{◌≡◌, length}
use Rattle.ad_terms.specs.Stacks.{behind_names}
use Rattle.ad_terms.proofs.stack.Stack.skip_names.Given as goal

abbrev pub invariant-names : goal.invariant-names
invariant-names l = behind_names l.initial.self ≡ behind_names l.self

abbrev pub decreases-names : goal.decreases-names
decreases-names l = length l.self
