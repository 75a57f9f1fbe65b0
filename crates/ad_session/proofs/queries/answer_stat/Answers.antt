use Rattle.std.proofs.Common.{subst, refl}
use Rattle.ad_io.specs.Sink.{Puts}
use Rattle.ad_request.specs.declared.request.Request.TheVariants as requests
use Rattle.ad_reply.specs.declared.refusal.Refusal.{Refusal}
use Rattle.ad_reply.specs.Replies.{refused, reply_bytes}
use Rattle.ad_session.proofs.QueryLemmas.{stat_speaks, refused_speaks}
use Rattle.ad_session.proofs.queries.answer_stat.Goals as goal

pub returns-in-Ok-clause-speaks : goal.returns-in-Ok-clause-speaks
returns-in-Ok-clause-speaks g c depth i asked =
    stat_speaks depth (g.L.Look.footing c.args.look.now) _ _ _ _ _ i _ _ c.stat_reply.result asked (record { enters = c.in-Ok.ensures.looks.0; reaches = c.in-Ok.ensures.reaches refl; lapses = c.in-Ok.ensures.looks.1 }) c.edition.ensures (c.in-Ok.ensures.shown refl) c.stat_reply.ensures.reply

pub returns-in-Err-clause-speaks : goal.returns-in-Err-clause-speaks
returns-in-Err-clause-speaks g c depth i asked =
    refused_speaks depth (g.L.Look.footing c.args.look.now) c.in-Err.cause requests.Stat _ _ i _ _ c.refuse.result asked tt c.in-Err.ensures.looks
    (subst (λ (r : Refusal). Puts (g.K.Sink.written c.args.sink.now) (g.K.Sink.written c.refuse.new.sink) c.refuse.result (reply_bytes (refused r))) c.refusal_of.ensures c.refuse.ensures.bytes)
