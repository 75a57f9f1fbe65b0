use Rattle.ad_request.specs.declared.request.Request.TheVariants as requests
use Rattle.ad_session.proofs.QueryLemmas.{wanting_speaks}
use Rattle.ad_session.proofs.modules.look_for_axiom.Goals as goal

pub returns-in-Err-clause-speaks : goal.returns-in-Err-clause-speaks
returns-in-Err-clause-speaks g c depth i n asked spelled =
    wanting_speaks depth (g.L.Look.footing c.args.look.now) (requests.Genuine c.args.kind n) _ i _ _ c.refuse.result asked tt c.refuse.ensures.bytes
