-- Each of the numbers is below the row's size.
use Rattle.std.proofs.Common.{◌<◌, get_or, sym, subst}
use Rattle.ad_repair.proofs.ListLemmas.{among_at}
use Rattle.ad_repair.proofs.setting.set_each.Goals as goal

pub set-requires : goal.set-requires
set-requires c =
    let number = get_or c.args.numbers.now c.loop-number.number-index 0 in
    let below = c.requires number (among_at c.args.numbers.now c.loop-number.number-index c.loop-number-test.true) in
    subst (λ n. number < n) (sym c.loop-number.invariant.size) below
