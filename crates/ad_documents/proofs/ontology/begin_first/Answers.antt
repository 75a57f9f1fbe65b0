-- The first edition shows nothing, under the standard limits, and no edition was expected.
use Rattle.std.proofs.Common.{◌≡◌, Option, None, Err, [], refl, sym, ap, ◌∙◌, subst}
use Rattle.std.proofs.lemmas.Bool.{false≢true}
use Rattle.ad_base.specs.Limits.{standard}
use Rattle.ad_apply.specs.Apply.{applied}
use Rattle.ad_edition.specs.Edition.{Limited, first_of_all, limited_of, passed_by}
use Rattle.ad_edition.specs.Limit.{IsHinderedBy, passed}
use Rattle.ad_edition.specs.declared.receipts.Refused.{Refused}
use Rattle.ad_edition.proofs.LimitLemmas.{unhindered}
use Rattle.ad_documents.specs.Causes.{IsPassedBy}
use Rattle.ad_documents.proofs.AnswerLemmas.{same_cause}
use Rattle.ad_documents.proofs.ontology.begin_first.Goals as goal

pub returns-in-Ok-begin-clause-within : goal.returns-in-Ok-begin-clause-within
returns-in-Ok-begin-clause-within c = λ ok.
    let first : limited_of c.in-Ok.first ≡ first_of_all standard = c.in-Ok.ensures ∙ ap first_of_all c.standard.ensures.standard in
    sym (ap (λ (e : Limited). passed_by e c.args.batch.now) first) ∙ c.in-Ok-begin.ensures.within ok

pub unread_by-requires : goal.unread_by-requires
unread_by-requires c =
    let hindered = IsHinderedBy None (passed_by (limited_of c.in-Ok.first) c.args.batch.now) c.in-Ok.first.shown.number in
    record { unmoved = λ edition is. false≢true (subst (λ (cause : Refused). hindered cause) is c.in-Err-begin.ensures.refused).1 }

pub returns-clause-refused : goal.returns-clause-refused
returns-clause-refused c = λ refusal is.
    let first : limited_of c.in-Ok.first ≡ first_of_all standard = c.in-Ok.ensures ∙ ap first_of_all c.standard.ensures.standard in
    c.unread_by.ensures (passed standard 0 (applied [] c.args.batch.now)) refusal
    (unhindered (passed standard 0 (applied [] c.args.batch.now)) 0 c.in-Err-begin.cause (subst (λ (e : Limited). IsHinderedBy None (passed_by e c.args.batch.now) e.shown.number c.in-Err-begin.cause) first c.in-Err-begin.ensures.refused)) (same_cause (Err c.unread_by.result) c.unread_by.result _ refl is)
