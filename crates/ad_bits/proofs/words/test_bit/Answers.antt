use Rattle.std.proofs.Common.{ap, eqb, ◌/◌, ◌%◌, get_or}
use Rattle.std.proofs.lemmas.Nat.Bits.{shr_and_one}
use Rattle.ad_bits.specs.Words.{bit_in}
use Rattle.ad_bits.proofs.words.test_bit.Goals as goal

pub returns : goal.returns
unfolding bit_in
returns c = ap (λ n. eqb n 1) (shr_and_one (get_or c.args.words.now (c.args.i / 64) 0) (c.args.i % 64))
