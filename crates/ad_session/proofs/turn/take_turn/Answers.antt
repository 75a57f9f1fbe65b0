-- The item that was read, and what its reply says.
use Rattle.std.proofs.Common.{subst, sym, ◌∙◌, refl, Option, Some}
use Rattle.ad_request.specs.declared.request.Request.{Request}
use Rattle.ad_items.specs.declared.item.Payload.{Payload}
use Rattle.ad_items.specs.Items.{bounds_of, item}
use Rattle.ad_items.specs.Next.{TakesItem}
use Rattle.ad_session.specs.declared.turn.Turn.{Turn}
use Rattle.ad_session.specs.Flows.{flow}
use Rattle.ad_session.specs.Turns.{TurnIs}
use Rattle.ad_session.proofs.TurnLemmas.{turned, unasked_turn, dropped_turn}
use Rattle.ad_session.proofs.turn.take_turn.Goals as goal

pub returns-in-Item-None-default-clause-turn : goal.returns-in-Item-None-default-clause-turn
returns-in-Item-None-default-clause-turn g c =
    let arm = c.in-Item-None-default in
    let takes = subst (λ (asked : Option Request). TakesItem (bounds_of c.args.limits) (g.S.Source.left c.args.source.now) (g.S.Source.left c.read_item.new.source) asked arm._payload) arm.field-0-is arm.ensures.next in
    subst (λ (t : Turn). TurnIs (bounds_of c.args.limits) c.args.limits.depth (g.L.Look.footing c.args.look.now) t (flow (g.S.Source.left c.args.source.now) (g.S.Source.faults c.args.source.now) (g.K.Sink.written c.args.sink.now) (g.K.Sink.faults c.args.sink.now)) (flow (g.S.Source.left c.read_item.new.source) (g.S.Source.faults c.read_item.new.source) (g.K.Sink.written c.refuse.new.sink) (g.K.Sink.faults c.refuse.new.sink)) (g.L.Look.sight c.args.look.now) (g.L.Look.sight c.args.look.now)) (sym c.turn_of.ensures)
    (unasked_turn (bounds_of c.args.limits) c.args.limits.depth (g.L.Look.footing c.args.look.now) arm._payload c.refuse.result _ _ _ _ _ _ _ _ (g.L.Look.sight c.args.look.now) takes c.refuse.ensures.bytes c.refuse.ensures.cause)

pub returns-in-Item-Some-Dropped-clause-turn : goal.returns-in-Item-Some-Dropped-clause-turn
returns-in-Item-Some-Dropped-clause-turn g c =
    let arm = c.in-Item-Some-Dropped in
    let refused = c.refuse-in-Item-Some-Dropped in
    let first = subst (λ (asked : Option Request). TakesItem (bounds_of c.args.limits) (g.S.Source.left c.args.source.now) (g.S.Source.left c.read_item.new.source) asked arm.field-1) arm.field-0-is arm.ensures.next in
    let takes = subst (λ (p : Payload). TakesItem (bounds_of c.args.limits) (g.S.Source.left c.args.source.now) (g.S.Source.left c.read_item.new.source) (Some arm._request) p) arm.field-1-is first in
    subst (λ (t : Turn). TurnIs (bounds_of c.args.limits) c.args.limits.depth (g.L.Look.footing c.args.look.now) t (flow (g.S.Source.left c.args.source.now) (g.S.Source.faults c.args.source.now) (g.K.Sink.written c.args.sink.now) (g.K.Sink.faults c.args.sink.now)) (flow (g.S.Source.left c.read_item.new.source) (g.S.Source.faults c.read_item.new.source) (g.K.Sink.written refused.new.sink) (g.K.Sink.faults refused.new.sink)) (g.L.Look.sight c.args.look.now) (g.L.Look.sight c.args.look.now)) (sym c.turn_of-in-Item-Some-Dropped.ensures)
    (dropped_turn (bounds_of c.args.limits) c.args.limits.depth (g.L.Look.footing c.args.look.now) arm._request refused.result _ _ _ _ _ _ _ _ (g.L.Look.sight c.args.look.now) takes refused.ensures.bytes refused.ensures.cause)

pub returns-in-Item-Some-Full-clause-turn : goal.returns-in-Item-Some-Full-clause-turn
returns-in-Item-Some-Full-clause-turn g c =
    let arm = c.in-Item-Some-Full in
    let first = subst (λ (asked : Option Request). TakesItem (bounds_of c.args.limits) (g.S.Source.left c.args.source.now) (g.S.Source.left c.read_item.new.source) asked arm.field-1) arm.field-0-is arm.ensures.next in
    let takes = subst (λ (p : Payload). TakesItem (bounds_of c.args.limits) (g.S.Source.left c.args.source.now) (g.S.Source.left c.read_item.new.source) (Some arm.request) p) arm.field-1-is first in
    let i = item takes.line (Some arm.request) takes.bytes in
    turned (bounds_of c.args.limits) c.args.limits.depth (g.L.Look.footing c.args.look.now) i c.reply.result _ _ _ _ _ _ _ _ _ _ takes.is takes.lost
    (c.reply.ensures.replies (bounds_of c.args.limits) i takes.is refl (sym takes.read ∙ sym c.as_slice-payload.ensures.value))
