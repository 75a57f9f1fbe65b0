use Rattle.ad_slots.proofs.ChangeLemmas.{put_where, taken_where, kept_where, still_below, still_covered, no_slots}
use Rattle.ad_slots.proofs.laws.lists_change_with_slots.Goals as goal

pub returns-clause-comes : goal.returns-clause-comes
returns-clause-comes c = λ test free i slot before after list r passes w. put_where test free i slot before after r list passes w

pub returns-clause-leaves : goal.returns-clause-leaves
returns-clause-leaves c = λ test free i slot before after list r fails w. taken_where test free i slot before after r list fails w
