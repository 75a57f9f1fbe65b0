use Rattle.std.proofs.Common.{◌≡◌, ◌*◌}
use Rattle.ad_bits.specs.Rows.{member_count}
use Rattle.ad_bits.specs.Words.{first_bits}
use Rattle.ad_bits.proofs.words.count_bits.Given as goal

abbrev pub invariant-loop-word : goal.invariant-loop-word
invariant-loop-word l = l.count ≡ member_count (first_bits (64 * l.word-index) l.words)
