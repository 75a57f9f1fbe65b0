use Rattle.ad_request.proofs.Reading.{kind_found}
use Rattle.ad_request.proofs.request.kind_behind.Goals as goal

pub returns : goal.returns
returns c = kind_found _ c.args.line.now c.args.words.now c.in_ok-behind.field-0.now c.in_ok-behind.ensures c.kind_named.ensures
