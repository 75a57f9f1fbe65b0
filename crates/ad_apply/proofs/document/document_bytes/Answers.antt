-- The line of one more axiom.
use Rattle.std.proofs.Common.{◌≡◌, ◌+◌, ◌-◌, ◌^◌, ◌∷◌, ◌++◌, [], length, min, take, ap, ◌∙◌, append-nil, arith}
use Rattle.std.specs.Arc.{arc_value}
use Rattle.std.proofs.lemmas.List.{take_more}
use Rattle.ad_tree.specs.declared.axioms.Noted.{Noted}
use Rattle.ad_write.specs.Canonical.{canon, canon_document}
use Rattle.ad_syntax_laws.specs.OntologyModule.{values}
use Rattle.ad_apply.proofs.WorkingLemmas.{value_at, length-values}
use Rattle.ad_apply.proofs.document.document_bytes.Goals as goal

pub loop-noted-preserved : goal.loop-noted-preserved
loop-noted-preserved c =
    let all = values c.args.axioms.now in
    let i = c.loop-noted.noted-index in
    let noted = arc_value c.noted-item.result in
    let longer : take (i + 1) all ≡ take i all ++ noted ∷ [] = take_more all i noted (omega (arith, length-values c.args.axioms.now)) ∙ ap (λ (a : Noted). take i all ++ a ∷ []) (value_at c.args.axioms.now i c.noted-item.result (omega arith) c.noted-item.is noted) in
    let before : c.loop-noted.bytes ≡ min (length (canon_document (take i all))) (2 ^ 64 - 1) = c.loop-noted.invariant in
    let line : c.with_line-bytes.result ≡ min (c.loop-noted.bytes + length (canon noted) + 1) (2 ^ 64 - 1) = c.with_line-bytes.ensures ∙ ap (λ (a : Noted). min (c.loop-noted.bytes + length (canon a) + 1) (2 ^ 64 - 1)) c.deref.ensures in
    let grown : length (canon_document (take (i + 1) all)) ≡ length (canon_document (take i all)) + length (canon noted) + 1 =
    ap (λ (axioms : _). length (canon_document axioms)) longer ∙ c.document_length.ensures.each (take i all) [] noted ∙ ap (λ (axioms : _). length (canon_document axioms) + length (canon noted) + 1) (append-nil (take i all)) in
    omega (arith, line, before, grown)
