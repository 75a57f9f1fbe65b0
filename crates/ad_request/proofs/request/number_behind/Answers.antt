use Rattle.ad_request.proofs.Reading.{number_found}
use Rattle.ad_request.proofs.request.number_behind.Goals as goal

pub returns-in-Some : goal.returns-in-Some
returns-in-Some c = number_found _ _ _ _ c.in-Some.ensures c.number.ensures.found c.number.ensures.none
