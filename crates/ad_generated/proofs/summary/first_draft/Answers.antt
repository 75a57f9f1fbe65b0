-- No limit is passed, and no edition was expected.
use Rattle.std.proofs.Common.{◌≡◌, sym, ap, ◌∙◌, subst}
use Rattle.std.specs.Prelude.{None}
use Rattle.ad_base.specs.Limits.{standard}
use Rattle.ad_edition.specs.Edition.{Limited, first_of_all, limited_of, passed_by}
use Rattle.ad_edition.specs.Limit.{IsHinderedBy}
use Rattle.ad_edition.specs.declared.receipts.Refused.{Refused}
use Rattle.ad_generated.proofs.GeneratedLemmas.{not_passed}
use Rattle.ad_generated.proofs.summary.first_draft.Goals as goal

pub wanting-requires-clause-within : goal.wanting-requires-clause-within
wanting-requires-clause-within c = λ edition count which is.
    let first : limited_of c.in_ok-first.first ≡ first_of_all standard = c.in_ok-first.ensures ∙ ap first_of_all c.standard.ensures.standard in
    let hindered = IsHinderedBy None (passed_by (limited_of c.in_ok-first.first) c.args.batch.now) c.in_ok-first.first.shown.number in
    let by = subst (λ (cause : Refused). hindered cause) is c.in-Err.ensures.refused in
    let none : passed_by (limited_of c.in_ok-first.first) c.args.batch.now ≡ None = ap (λ (e : Limited). passed_by e c.args.batch.now) first ∙ c.requires in
    not_passed _ _ none by.1.1
