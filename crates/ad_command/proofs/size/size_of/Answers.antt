use Rattle.std.proofs.Common.{subst, arith}
use Rattle.ad_base.specs.Decimal.{IsNumber}
use Rattle.ad_command.proofs.WordLemmas.{not_size}
use Rattle.ad_command.proofs.size.size_of.Goals as goal

pub returns-in-Some-2-clause-none : goal.returns-in-Some-2-clause-none
returns-in-Some-2-clause-none c = not_size c.args.word.now c.in-Some.size (subst (λ t. IsNumber t c.in-Some.size) c.as_bytes.ensures.value c.in-Some.ensures.found) (λ high. omega (arith, high, c.if-size-le-MOST_SIZE.false))
