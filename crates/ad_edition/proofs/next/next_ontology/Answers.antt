-- The first limits aren't passed.
use Rattle.std.proofs.Common.{◌≡◌, ◌≤◌, length, refl, subst, sym, ap, ◌∙◌, arith}
use Rattle.ad_syntax_laws.specs.OntologyModule.{logical, values}
use Rattle.ad_edition.specs.Limit.{IsRefusedBy, document_count, passed_by_size}
use Rattle.ad_edition.proofs.LimitLemmas.{by_rest}
use Rattle.ad_edition.proofs.next.next_ontology.Goals as goal

pub returns-in-Err-clause-refused : goal.returns-in-Err-clause-refused
returns-in-Err-clause-refused c =
    let limits = c.args.limits in
    let axioms = values c.args.axioms.items in
    let counted : c.logical_count-count.result ≡ length (logical axioms) = c.logical_count-count.ensures ∙ ap (λ arcs. length (logical (values arcs))) c.as_slice.ensures.value in
    let measured : c.document_bytes-bytes.result ≡ document_count axioms = c.document_bytes-bytes.ensures ∙ ap (λ arcs. document_count (values arcs)) c.as_slice-2.ensures.value in
    let few : length (logical axioms) ≤ limits.axioms = omega (arith, c.in_ok-check.ensures.within, counted, c.into.ensures) in
    let rest = by_rest limits c.args.number axioms few (c.in_ok-ontology.ensures.within refl) in
    subst (λ first. IsRefusedBy first c.args.number c.in-Err.why) (sym rest)
    (subst (λ bytes. IsRefusedBy (passed_by_size limits c.args.number bytes) c.args.number c.in-Err.why) measured c.in-Err.ensures.refused)
