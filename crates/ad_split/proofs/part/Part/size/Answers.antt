-- The line of one more axiom.
use Rattle.std.proofs.Common.{◌≡◌, ◌+◌, ◌-◌, ◌^◌, None, length, get_or, ap, refl, sym, ◌∙◌, arith}
use Rattle.std.specs.Prelude.{min}
use Rattle.ad_bits.specs.Rows.{has}
use Rattle.ad_write.specs.Canonical.{canon_document}
use Rattle.ad_module_document.specs.Lines.{line_in}
use Rattle.ad_module_document.proofs.LineLemmas.{as_long, axiom_at, capped_more, front_of, front_whole, size_more}
use Rattle.ad_module_document.proofs.SlotLemmas.{as_many}
use Rattle.ad_split.specs.Slots.{is_in_part}
use Rattle.ad_split.proofs.part.Part.size.Goals as goal

pub loop-i-preserved : goal.loop-i-preserved
loop-i-preserved c =
    let part = c.args.self.now in
    let ontology = part.ontology.now in
    let takes = is_in_part ontology (has part.members.now) (has part.closure.now) in
    let long = as_many _ ontology.axioms ontology.slots c.laws.ensures.slotted in
    let i = c.loop-i.i in
    let noted = c.deref.result.now in
    let slot = get_or ontology.slots i None in
    let most = 2 ^ 64 - 1 in
    let at = axiom_at c.axioms-axioms.result.now ontology.axioms i c.index-axioms-i.result noted c.axioms-axioms.ensures c.loop-i-test.true c.index-axioms-i.is c.deref.ensures in
    let so_far : c.loop-i.bytes ≡ min (length (canon_document (front_of takes ontology i))) most = c.loop-i.invariant in
    c.with_line-bytes.ensures
    ∙ ap (λ n. min (n + length (line_in takes noted slot)) most) so_far
    ∙ capped_more (length (canon_document (front_of takes ontology i))) (length (line_in takes noted slot)) most
    ∙ ap (λ n. min n most) (sym (size_more takes ontology long i noted slot at.0 at.1 refl))

pub returns : goal.returns
returns c =
    let part = c.args.self.now in
    let ontology = part.ontology.now in
    let takes = is_in_part ontology (has part.members.now) (has part.closure.now) in
    let i = c.loop-i.i in
    let most = 2 ^ 64 - 1 in
    let long : length c.axioms-axioms.result.now ≡ length ontology.axioms = as_long c.axioms-axioms.result.now ontology.axioms c.axioms-axioms.ensures in
    let so_far : c.loop-i.bytes ≡ min (length (canon_document (front_of takes ontology i))) most = c.loop-i.invariant in
    let last : i ≡ length ontology.axioms = omega (arith, c.loop-i-test.false, c.loop-i.auto.i-end) in
    so_far ∙ ap (λ axioms. min (length (canon_document axioms)) most) (front_whole takes ontology (as_many _ ontology.axioms ontology.slots c.laws.ensures.slotted) i last)
