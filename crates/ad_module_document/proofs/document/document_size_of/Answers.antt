-- The line of one more axiom.
use Rattle.std.proofs.Common.{◌≡◌, ◌+◌, ◌-◌, ◌^◌, None, length, get_or, ap, sym, ◌∙◌, arith}
use Rattle.std.specs.Prelude.{min}
use Rattle.ad_write.specs.Canonical.{canon_document}
use Rattle.ad_module_document.specs.Lines.{line_in}
use Rattle.ad_module_document.proofs.LineLemmas.{as_long, axiom_at, capped_more, front_of, front_whole, size_more}
use Rattle.ad_module_document.proofs.document.document_size_of.Goals as goal

pub loop-i-preserved : goal.loop-i-preserved
loop-i-preserved g c =
    let takes = g.C.Choice.takes c.args.choice.now in
    let ontology = c.args.ontology.now in
    let i = c.loop-i.i in
    let noted = c.deref.result.now in
    let slot = get_or c.slots-slots.result.now i None in
    let most = 2 ^ 64 - 1 in
    let at = axiom_at c.axioms-axioms.result.now ontology.axioms i c.index-axioms-i.result noted c.axioms-axioms.ensures c.loop-i-test.true c.index-axioms-i.is c.deref.ensures in
    let slot_at : slot ≡ get_or ontology.slots i None = ap (λ l. get_or l i None) c.slots-slots.ensures in
    let so_far : c.loop-i.bytes ≡ min (length (canon_document (front_of takes ontology i))) most = c.loop-i.invariant in
    c.with_line-bytes.ensures
    ∙ ap (λ n. min (n + length (line_in takes noted slot)) most) so_far
    ∙ capped_more (length (canon_document (front_of takes ontology i))) (length (line_in takes noted slot)) most
    ∙ ap (λ n. min n most) (sym (size_more takes ontology c.slots_below.ensures.long i noted slot at.0 at.1 slot_at))

pub returns : goal.returns
returns g c =
    let takes = g.C.Choice.takes c.args.choice.now in
    let ontology = c.args.ontology.now in
    let i = c.loop-i.i in
    let most = 2 ^ 64 - 1 in
    let long : length c.axioms-axioms.result.now ≡ length ontology.axioms = as_long c.axioms-axioms.result.now ontology.axioms c.axioms-axioms.ensures in
    let so_far : c.loop-i.bytes ≡ min (length (canon_document (front_of takes ontology i))) most = c.loop-i.invariant in
    let last : i ≡ length ontology.axioms = omega (arith, c.loop-i-test.false, c.loop-i.auto.i-end) in
    so_far ∙ ap (λ axioms. min (length (canon_document axioms)) most) (front_whole takes ontology c.slots_below.ensures.long i last)
