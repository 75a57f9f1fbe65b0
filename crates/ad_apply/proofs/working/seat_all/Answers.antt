-- One more axiom is seated; at the end all are.
use Rattle.std.proofs.Common.{◌≡◌, length, arith, subst}
use Rattle.std.specs.Arc.{arc_value}
use Rattle.ad_tree.specs.declared.axioms.Noted.{Noted}
use Rattle.ad_syntax_laws.specs.OntologyModule.{values}
use Rattle.ad_apply.specs.Places.{place_in}
use Rattle.ad_apply.proofs.WorkingLemmas.{Seated, Seats, Seated-more, Seated-whole, StayNamed-seats, value_at, length-values}
use Rattle.ad_apply.proofs.working.seat_all.Goals as goal

pub loop-i-preserved : goal.loop-i-preserved
loop-i-preserved c =
    let seats = subst (λ (a : Noted). Seats (place_in c.loop-i.index) (place_in c.seat.new.index) a c.loop-i.i) c.deref.ensures c.in_ok-seat.ensures in
    let at_i = value_at c.args.old.now c.loop-i.i c.index-old-i.result (omega arith) c.index-old-i.is in (
      Seated-more _ _ (values c.args.old.now) c.loop-i.i (arc_value c.index-old-i.result) c.requires.distinct (omega (arith, length-values c.args.old.now)) at_i seats c.loop-i.invariant.0,
      λ a some. StayNamed-seats (place_in c.loop-i.index) (place_in c.seat.new.index) (arc_value c.index-old-i.result) c.loop-i.i seats a (c.loop-i.invariant.1 a some),
    )

pub returns-clause-sits : goal.returns-clause-sits
returns-clause-sits c = λ x i is.
    let at_end : c.loop-i.i ≡ length (values c.args.old.now) = omega (arith, length-values c.args.old.now) in
    let seated : Seated (place_in c.loop-i.index) (values c.args.old.now) (length (values c.args.old.now)) = subst (λ n. Seated (place_in c.loop-i.index) (values c.args.old.now) n) at_end c.loop-i.invariant.0 in
    seated.sits x i is

pub returns-clause-stands : goal.returns-clause-stands
returns-clause-stands c =
    let at_end : c.loop-i.i ≡ length (values c.args.old.now) = omega (arith, length-values c.args.old.now) in
    Seated-whole (place_in c.loop-i.index) (values c.args.old.now) (subst (λ n. Seated (place_in c.loop-i.index) (values c.args.old.now) n) at_end c.loop-i.invariant.0)
