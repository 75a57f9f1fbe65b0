use Rattle.std.proofs.Common.{subst, sym, List, ℕ}
use Rattle.ad_grammar.specs.Faults as forms
use Rattle.ad_request.specs.declared.request.Request.TheVariants as requests
use Rattle.ad_read.specs.Outcome.{Refuses}
use Rattle.ad_read.specs.Texts.{IsSeed}
use Rattle.ad_session.proofs.QueryLemmas.{unread_speaks}
use Rattle.ad_session.proofs.modules.answer_module.Goals as goal

pub returns-in-Ok-clause-speaks : goal.returns-in-Ok-clause-speaks
returns-in-Ok-clause-speaks g c i n asked payload =
    let depth = c.args.limits.now.depth in
    c.look_at_module.ensures.speaks depth i n asked (subst (λ (bytes : List ℕ). IsSeed depth bytes c.in-Ok.seed) (sym payload) c.in-Ok.ensures.read)

pub returns-in-Err-clause-speaks : goal.returns-in-Err-clause-speaks
returns-in-Err-clause-speaks g c i n asked payload =
    let depth = c.args.limits.now.depth in
    unread_speaks depth (g.L.Look.footing c.args.look.now) (requests.Module c.args.kind n) c.in-Err.cause _ i _ _ c.refuse.result asked tt (subst (λ (bytes : List ℕ). Refuses forms.seed depth bytes c.in-Err.cause) (sym payload) c.in-Err.ensures.refused) c.refuse.ensures.bytes
