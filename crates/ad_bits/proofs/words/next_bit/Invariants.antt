use Rattle.std.proofs.Common.{◌*◌}
use Rattle.ad_bits.proofs.NextLemmas.{NoneBetween}
use Rattle.ad_bits.proofs.words.next_bit.Given as goal

abbrev pub invariant-words : goal.invariant-words
invariant-words l = NoneBetween l.words l.from (64 * l.at)
