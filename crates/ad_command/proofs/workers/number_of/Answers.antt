use Rattle.std.proofs.Common.{subst, arith}
use Rattle.ad_base.specs.Decimal.{IsNumber}
use Rattle.ad_command.proofs.WordLemmas.{not_workers}
use Rattle.ad_command.proofs.workers.number_of.Goals as goal

pub returns-in-Some-2-clause-none : goal.returns-in-Some-2-clause-none
returns-in-Some-2-clause-none c = not_workers c.args.word.now c.in-Some.workers (subst (λ t. IsNumber t c.in-Some.workers) c.as_bytes.ensures.value c.in-Some.ensures.found) (λ low high. omega (arith, low, high, c.if-workers-le16.false))

pub returns-in-Some-2-2-clause-none : goal.returns-in-Some-2-2-clause-none
returns-in-Some-2-2-clause-none c = not_workers c.args.word.now c.in-Some.workers (subst (λ t. IsNumber t c.in-Some.workers) c.as_bytes.ensures.value c.in-Some.ensures.found) (λ low high. omega (arith, low, high, c.if-workers-ge1.false))
