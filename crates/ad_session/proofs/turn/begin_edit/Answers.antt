use Rattle.std.proofs.Common.{subst, sym, List, ℕ}
use Rattle.ad_grammar.specs.Faults as forms
use Rattle.ad_request.specs.declared.request.Request.TheVariants as requests
use Rattle.ad_read.specs.Outcome.{Refuses}
use Rattle.ad_session.specs.declared.turn.Turn.{Turn}
use Rattle.ad_session.specs.Turns.{Replies}
use Rattle.ad_session.proofs.QueryLemmas.{unread_speaks}
use Rattle.ad_session.proofs.TurnLemmas.{replied}
use Rattle.ad_session.proofs.turn.begin_edit.Goals as goal

pub returns-in-Err-clause-replies : goal.returns-in-Err-clause-replies
returns-in-Err-clause-replies g c bounds footing i n seen is asked payload =
    let depth = c.args.limits.now.depth in
    let speaks = unread_speaks depth footing (requests.Edit n c.args.expected) c.in-Err.cause seen i _ _ c.refuse.result asked tt (subst (λ (bytes : List ℕ). Refuses forms.edit depth bytes c.in-Err.cause) (sym payload) c.in-Err.ensures.refused) c.refuse.ensures.bytes in
    subst (λ (t : Turn). Replies bounds depth footing i t (g.K.Sink.written c.args.sink.now) (g.K.Sink.written c.refuse.new.sink) (g.K.Sink.faults c.args.sink.now) (g.K.Sink.faults c.refuse.new.sink) seen seen) (sym c.turn_of.ensures)
    (replied bounds depth footing i c.refuse.result _ _ _ _ seen seen speaks c.refuse.ensures.cause)
