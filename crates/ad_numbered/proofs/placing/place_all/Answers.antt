-- One more axiom was placed.
use Rattle.std.proofs.Common.{◌<◌, take, length, ◌∙◌, arith}
use Rattle.ad_syntax_laws.specs.OntologyModule.{logical, values}
use Rattle.ad_signature.specs.Numbering.{number_in}
use Rattle.ad_flat.specs.Universes.{held_in}
use Rattle.ad_numbered.proofs.ListLemmas.{value_more}
use Rattle.ad_numbered.proofs.PlacingLemmas.{fewer_at, in_order_next}
use Rattle.ad_numbered.proofs.placing.place_all.Goals as goal

pub place_one-requires-clause-room : goal.place_one-requires-clause-room
place_one-requires-clause-room c = λ one.
    let axioms = values c.args.axioms.now in
    let i = c.loop-noted.noted-index in
    let a = c.deref.result.now in
    let more = value_more c.args.axioms.now i c.noted-item.result c.loop-noted-test.true c.noted-item.is a c.deref.ensures in
    let fewer : length (logical (take i axioms)) < length (logical axioms) = fewer_at axioms i a more one in
    omega (arith, fewer, c.loop-noted.invariant.order.next, c.loop-noted.invariant.most, c.requires.room)

pub loop-noted-preserved : goal.loop-noted-preserved
loop-noted-preserved c =
    let axioms = values c.args.axioms.now in
    let i = c.loop-noted.noted-index in
    let a = c.deref.result.now in
    let more = value_more c.args.axioms.now i c.noted-item.result c.loop-noted-test.true c.noted-item.is a c.deref.ensures in
    record {
      order = in_order_next axioms i a more (number_in c.args.names.now.names) (held_in c.loop-noted.universe) (held_in c.place_one.new.universe)
          c.loop-noted.slots.items c.push.new.self.items c.in_ok-place_one.field-0 c.in_ok-push.ensures.items c.loop-noted.invariant.order c.in_ok-place_one.ensures.put;
      most = c.place_one.ensures.slots ∙ c.loop-noted.invariant.most;
      symbols = c.place_one.ensures.symbols ∙ c.loop-noted.invariant.symbols;
    }
