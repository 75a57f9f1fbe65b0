-- A member of a row is below the row's size, which fits.
use Rattle.std.proofs.Common.{◌<◌, length, arith}
use Rattle.ad_bits.proofs.Rows.{within_size}
use Rattle.ad_extract.proofs.waiting.begin.Goals as goal

pub overflow_add-from : goal.overflow_add-from
overflow_add-from c =
    let below : c.in-Some.symbol < length c.args.seed.now = within_size c.args.seed.now c.in-Some.symbol c.in-Some.ensures.some.member in
    omega (arith, below)
