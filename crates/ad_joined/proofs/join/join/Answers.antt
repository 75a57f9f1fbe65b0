-- What waits of the symbols that are left waits of all.
use Rattle.std.proofs.Common.{◌∙◌}
use Rattle.ad_theory.proofs.Members.{or_left}
use Rattle.ad_joined.proofs.Joins.{waiting_more}
use Rattle.ad_joined.proofs.join.join.Goals as goal

pub returns-clause-waiting : goal.returns-clause-waiting
returns-clause-waiting c =
    waiting_more c.begin.new.pending.items c.begin.new.reached c.union_with-2.new.self c.begin.ensures.waiting
    (λ i t. c.union_with-2.ensures.members i ∙ or_left _ _ t)
