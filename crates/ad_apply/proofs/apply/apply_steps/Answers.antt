-- From the edition before, through all operations, to what is kept.
use Rattle.std.proofs.Common.{length, refl, ap, sym}
use Rattle.ad_apply.specs.declared.working.Working.{Working}
use Rattle.ad_apply.specs.Apply.{applied}
use Rattle.ad_syntax_laws.specs.OntologyModule.{values}
use Rattle.ad_apply.specs.Steps.{batch_in}
use Rattle.ad_apply.specs.Working.{ComesTo}
use Rattle.ad_apply.proofs.WorkingLemmas.{length-values}
use Rattle.ad_apply.proofs.StepLemmas.{ComesTo-start, kept_all}
use Rattle.ad_apply.proofs.apply.apply_steps.Goals as goal

pub returns-clause-axioms : goal.returns-clause-axioms
returns-clause-axioms c =
    let old = values c.args.old.now in
    let before : Working = record { index = c.seat_all.new.index; base = length c.args.old.now; added = c.new.result; done = record { added = 0; already = 0; removed = 0; absent = 0 } } in
    let start : ComesTo old before old = ComesTo-start old before (sym (length-values c.args.old.now)) refl c.new.ensures.items c.in_ok-seat_all.ensures.sits c.in_ok-seat_all.ensures.stands in
    let comes = c.in_ok-take_steps.ensures.comes_to old old start in
    kept_all old (applied old (batch_in c.args.steps.now)) c.take_steps.new.working (length c.args.old.now) (values c.new-axioms.result.items) (values c.keep.new.kept.items) (values c.keep-2.new.kept.items) (values c.as_slice.result.now)
    comes (sym (length-values c.args.old.now)) (ap values c.new-axioms.ensures.items) c.in_ok-keep.ensures (ap values c.as_slice.ensures.value) c.in_ok-keep-2.ensures

pub returns-clause-counts : goal.returns-clause-counts
returns-clause-counts c =
    let old = values c.args.old.now in
    let before : Working = record { index = c.seat_all.new.index; base = length c.args.old.now; added = c.new.result; done = record { added = 0; already = 0; removed = 0; absent = 0 } } in
    let start : ComesTo old before old = ComesTo-start old before (sym (length-values c.args.old.now)) refl c.new.ensures.items c.in_ok-seat_all.ensures.sits c.in_ok-seat_all.ensures.stands in
    c.in_ok-take_steps.ensures.counts old old start
