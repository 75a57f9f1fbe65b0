use Rattle.ad_slots.proofs.PlaceLemmas.{held_within, occurrences, globals, antitone}
use Rattle.ad_slots.proofs.laws.slots_make_a_universe.Goals as goal

pub returns-clause-live_below : goal.returns-clause-live_below
returns-clause-live_below c = held_within

pub returns-clause-occurrences : goal.returns-clause-occurrences
returns-clause-occurrences c = occurrences

pub returns-clause-globals : goal.returns-clause-globals
returns-clause-globals c = globals

pub returns-clause-antitone : goal.returns-clause-antitone
returns-clause-antitone c = antitone
