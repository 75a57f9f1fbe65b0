-- The next slot is listed where it is live.
use Rattle.std.proofs.Common.{◌+◌, sym, subst, ap, ◌∙◌}
use Rattle.ad_decompose.proofs.Listed.{AreListed, none_listed, one_listed, one_passed}
use Rattle.ad_decompose.proofs.order.live_slots.Goals as goal
use Rattle.ad_decompose.proofs.order.live_slots.Goals.{then-live+in_ok-push, else-live}

pub loop-slot-init : goal.loop-slot-init
loop-slot-init g c =
    let live = g.U.Universe.is_live c.args.universe.now in
    subst (AreListed live 0) (sym c.new-order.ensures.items) (none_listed live)

pub loop-slot-preserved : goal.loop-slot-preserved
loop-slot-preserved g c =
    let live = g.U.Universe.is_live c.args.universe.now in
    let slot = c.loop-slot.slot in
    let items = c.loop-slot.order.items in
    elim c.if-live.branch [
      | then-live+in_ok-push w ↦ subst (AreListed live (slot + 1)) (sym (ap (λ v. v.items) w.order-is ∙ w.in_ok-push.ensures.items)) (one_listed live slot items c.loop-slot.invariant (sym c.live.ensures ∙ w.if-live.true))
      | else-live w ↦ subst (AreListed live (slot + 1)) (sym (ap (λ v. v.items) w.order-is)) (one_passed live slot items c.loop-slot.invariant (sym c.live.ensures ∙ w.if-live.false))
    ]
