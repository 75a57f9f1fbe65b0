-- The line of one more axiom, or a front of it.
use Rattle.std.proofs.Common.{◌≡◌, ◌≤◌, None, length, get_or, refl, sym, subst, arith}
use Rattle.std.specs.List.{flat_map}
use Rattle.ad_bits.specs.Rows.{has}
use Rattle.ad_io.specs.Flow.{Gains}
use Rattle.ad_io.proofs.FlowLemmas.{goes_on}
use Rattle.ad_write.specs.Canonical.{canon_line}
use Rattle.ad_module_document.specs.Lines.{line_in}
use Rattle.ad_module_document.proofs.LineLemmas.{as_long, axiom_at, front_of, front_whole, lines_more, lines_stop}
use Rattle.ad_module_document.proofs.SlotLemmas.{as_many}
use Rattle.ad_split.specs.Slots.{is_in_part}
use Rattle.ad_split.proofs.part.Part.write_lines.Goals as goal

pub loop-i-preserved : goal.loop-i-preserved
loop-i-preserved g c =
    let part = c.args.self.now in
    let ontology = part.ontology.now in
    let takes = is_in_part ontology (has part.members.now) (has part.closure.now) in
    let long = as_many _ ontology.axioms ontology.slots c.laws.ensures.slotted in
    let i = c.loop-i.i in
    let noted = c.deref.result.now in
    let slot = get_or ontology.slots i None in
    let at = axiom_at c.axioms-axioms.result.now ontology.axioms i c.index-axioms-i.result noted c.axioms-axioms.ensures c.loop-i-test.true c.index-axioms-i.is c.deref.ensures in
    record {
      gained = subst (λ l. Gains (g.K.Sink.written c.args.sink.now) (g.K.Sink.written c.write_taken.new.sink) l)
          (sym (lines_more takes ontology long i noted slot at.0 at.1 refl))
          (goes_on _ _ _ (flat_map canon_line (front_of takes ontology i)) (line_in takes noted slot) c.loop-i.invariant.gained c.in-All.ensures.bytes);
      later = let sooner : g.K.Sink.faults c.args.sink.now ≤ g.K.Sink.faults c.loop-i.sink = c.loop-i.invariant.later in
          let later : g.K.Sink.faults c.loop-i.sink ≤ g.K.Sink.faults c.write_taken.new.sink = c.write_taken.ensures.cause.later in
          omega arith;
    }

pub returns-in-Failed-clause-bytes : goal.returns-in-Failed-clause-bytes
returns-in-Failed-clause-bytes g c =
    let part = c.args.self.now in
    let ontology = part.ontology.now in
    let takes = is_in_part ontology (has part.members.now) (has part.closure.now) in
    let i = c.loop-i.i in
    let noted = c.deref.result.now in
    let at = axiom_at c.axioms-axioms.result.now ontology.axioms i c.index-axioms-i.result noted c.axioms-axioms.ensures c.loop-i-test.true c.index-axioms-i.is c.deref.ensures in
    lines_stop takes ontology (as_many _ ontology.axioms ontology.slots c.laws.ensures.slotted) i noted (get_or ontology.slots i None) at.0 at.1 refl _ _ _ c.loop-i.invariant.gained c.in-Failed.ensures.bytes

pub returns-clause-bytes : goal.returns-clause-bytes
returns-clause-bytes g c =
    let part = c.args.self.now in
    let ontology = part.ontology.now in
    let takes = is_in_part ontology (has part.members.now) (has part.closure.now) in
    let i = c.loop-i.i in
    let long : length c.axioms-axioms.result.now ≡ length ontology.axioms = as_long c.axioms-axioms.result.now ontology.axioms c.axioms-axioms.ensures in
    let last : i ≡ length ontology.axioms = omega (arith, c.loop-i-test.false, c.loop-i.auto.i-end) in
    subst (λ axioms. Gains (g.K.Sink.written c.args.sink.now) (g.K.Sink.written c.loop-i.sink) (flat_map canon_line axioms))
    (front_whole takes ontology (as_many _ ontology.axioms ontology.slots c.laws.ensures.slotted) i last) c.loop-i.invariant.gained
