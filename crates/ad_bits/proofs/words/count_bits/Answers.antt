use Rattle.std.proofs.Common.{arith, ◌*◌, ◌+◌}
use Rattle.ad_bits.proofs.CountLemmas.{count_bound, count_word}
use Rattle.ad_bits.proofs.words.count_bits.Goals as goal

pub loop-word-init : goal.loop-word-init
loop-word-init c = omega (arith, count_bound 0 c.args.words.now)

pub overflow_add-count : goal.overflow_add-count
overflow_add-count c =
    let words = c.args.words.now in
    let k = c.loop-word.word-index in
    omega (arith, count_bound (64 * (k + 1)) words, count_word words k (c.type_inv.words k).fits, c.loop-word.invariant)

pub loop-word-preserved : goal.loop-word-preserved
loop-word-preserved c =
    let words = c.args.words.now in
    let k = c.loop-word.word-index in
    omega (arith, count_word words k (c.type_inv.words k).fits, c.loop-word.invariant)
