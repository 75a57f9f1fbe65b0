-- One more symbol is a member.
use Rattle.std.proofs.Common.{◌<◌, ◌∙◌, inl, inr, refl, subst, sym, get_or, IsTrue}
use Rattle.std.proofs.lemmas.Bool.{cases_eq}
use Rattle.std.proofs.lemmas.List.{take_all}
use Rattle.ad_bits.specs.Rows.{has}
use Rattle.ad_theory.specs.Numbers.{among}
use Rattle.ad_theory.specs.Sweep.{HasAlso}
use Rattle.ad_extract.proofs.WaitingLemmas.{among_at, also_more, also_none}
use Rattle.ad_split.proofs.closure.mark.Goals as goal

pub set-requires : goal.set-requires
set-requires c =
    let i = c.loop-symbol.symbol-index in
    let xs = c.args.symbols.now in
    subst (λ n. get_or xs i 0 < n) (sym c.loop-symbol.invariant.size) (c.requires _ (among_at xs i c.loop-symbol-test.true))

pub loop-symbol-init : goal.loop-symbol-init
loop-symbol-init c = record { also = also_none c.args.symbols.now (has c.args.closure.now); size = refl }

pub loop-symbol-preserved : goal.loop-symbol-preserved
loop-symbol-preserved c =
    let xs = c.args.symbols.now in
    let i = c.loop-symbol.symbol-index in
    let x = get_or xs i 0 in
    let after = has c.set.new.self in
    let before = has c.loop-symbol.closure in
    record {
      also = also_more xs i (has c.args.closure.now) before after c.loop-symbol-test.true c.loop-symbol.invariant.also
          (λ s. elim (cases_eq s x) [
            | inl e ↦ (λ t. inr e, λ h. subst (λ k. IsTrue (after k)) (sym e) c.set.ensures.member)
            | inr ne ↦ (λ t. inl (sym (c.set.ensures.others s ne) ∙ t), λ h. elim h [ inl t ↦ c.set.ensures.others s ne ∙ t | inr e ↦ absurd (ne e) ])
          ]);
      size = c.set.ensures.size ∙ c.loop-symbol.invariant.size;
    }

pub returns-clause-also : goal.returns-clause-also
returns-clause-also c =
    subst (λ names. HasAlso (has c.args.closure.now) (among names) (has c.loop-symbol.closure)) (take_all c.loop-symbol.symbol-index c.args.symbols.now c.loop-symbol-test.false) c.loop-symbol.invariant.also
