use Rattle.ad_slots.specs.Places.{has_symbol, is_global}
use Rattle.ad_slots.proofs.PlaceLemmas.{rising_where}
use Rattle.ad_slots.proofs.laws.lists_rise.Goals as goal

pub returns-clause-slots : goal.returns-clause-slots
returns-clause-slots c = λ slots s. rising_where (has_symbol s) slots

pub returns-clause-globals : goal.returns-clause-globals
returns-clause-globals c = λ slots side. rising_where (is_global side) slots
