use Rattle.std.proofs.Common.{arith, ◌*◌, ◌/◌}
use Rattle.ad_bits.proofs.Bits.{bit_in_past}
use Rattle.ad_bits.proofs.NextLemmas.{none_here, none_there, none_at_all, lowest_here, lowest_there, in_words}
use Rattle.ad_bits.proofs.words.next_bit.Goals as goal

pub returns-then-first-words-clause-none : goal.returns-then-first-words-clause-none
returns-then-first-words-clause-none c k low = bit_in_past c.args.words.now k (omega arith)

pub overflow_add-result : goal.overflow_add-result
overflow_add-result c =
    let words = c.args.words.now in
    let from = c.args.from in
    let lowest = lowest_here words from (c.type_inv.words (from / 64)).fits (omega arith) in
    omega (arith, in_words words _ lowest.set)

pub returns-then-rest-ne0-clause-some : goal.returns-then-rest-ne0-clause-some
returns-then-rest-ne0-clause-some c =
    let words = c.args.words.now in
    let from = c.args.from in
    lowest_here words from (c.type_inv.words (from / 64)).fits (omega arith)

pub words-init : goal.words-init
words-init c = none_here c.args.words.now c.args.from (omega arith)

pub returns-then-word-ne0-clause-some : goal.returns-then-word-ne0-clause-some
returns-then-word-ne0-clause-some c =
    let at = c.words.at in
    lowest_there c.args.words.now c.args.from at (omega arith) c.words.invariant (omega arith) (c.type_inv.words at).fits

pub words-preserved : goal.words-preserved
words-preserved c = none_there c.args.words.now c.args.from c.words.at c.words.invariant (omega arith)

pub returns-clause-none : goal.returns-clause-none
returns-clause-none c = none_at_all c.args.words.now c.args.from (64 * c.words.at) c.words.invariant (omega arith)
