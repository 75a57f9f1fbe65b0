use Rattle.ad_slots.proofs.PlaceLemmas.{least_is_free, held_below_least, least_within}
use Rattle.ad_slots.proofs.laws.least_free_is_least.Goals as goal

pub returns-clause-free : goal.returns-clause-free
returns-clause-free c = least_is_free

pub returns-clause-least : goal.returns-clause-least
returns-clause-least c = held_below_least

pub returns-clause-within : goal.returns-clause-within
returns-clause-within c = least_within
