-- Each symbol of the list is below the size.
use Rattle.std.proofs.Common.{◌<◌, ◌∙◌, refl, subst, sym, get_or}
use Rattle.std.proofs.lemmas.List.{take_all}
use Rattle.ad_bits.specs.Rows.{has}
use Rattle.ad_theory.specs.Numbers.{among}
use Rattle.ad_theory.specs.Sweep.{HasAlso}
use Rattle.ad_extract.proofs.WaitingLemmas.{among_at, also_more, also_none}
use Rattle.ad_extract.proofs.waiting.reach_all.Goals as goal

pub reach-requires-clause-symbol : goal.reach-requires-clause-symbol
reach-requires-clause-symbol c =
    let i = c.loop-symbol.symbol-index in
    let xs = c.args.symbols.now in
    subst (λ n. get_or xs i 0 < n) (sym c.loop-symbol.invariant.size) (c.requires.symbols _ (among_at xs i c.loop-symbol-test.true))

pub loop-symbol-preserved : goal.loop-symbol-preserved
loop-symbol-preserved c =
    let before = c.loop-symbol.invariant in
    let here = c.reach.ensures in
    record {
      waiting = here.waiting;
      also = also_more c.args.symbols.now c.loop-symbol.symbol-index (has c.args.reached.now) (has c.loop-symbol.reached) (has c.reach.new.reached) c.loop-symbol-test.true before.also here.also;
      settled = λ s. here.settled s ∙ before.settled s;
      room = here.room ∙ before.room;
      size = here.size ∙ before.size;
    }

pub loop-symbol-init : goal.loop-symbol-init
loop-symbol-init c = record {
  waiting = c.requires.waiting;
  also = also_none c.args.symbols.now (has c.args.reached.now);
  settled = λ s. refl;
  room = refl;
  size = refl;
}

pub returns-clause-also : goal.returns-clause-also
returns-clause-also c =
    subst (λ names. HasAlso (has c.args.reached.now) (among names) (has c.loop-symbol.reached)) (take_all c.loop-symbol.symbol-index c.args.symbols.now c.loop-symbol-test.false) c.loop-symbol.invariant.also
