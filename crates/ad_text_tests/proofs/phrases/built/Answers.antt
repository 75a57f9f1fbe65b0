use Rattle.std.proofs.Common.{length, ap, arith}
use Rattle.ad_text_tests.proofs.Nestings.{nesting_of_rest}
use Rattle.ad_text_tests.proofs.phrases.built.Goals as goal

pub class-requires-clause-nesting : goal.class-requires-clause-nesting
class-requires-clause-nesting c = omega (arith, nesting_of_rest c.args.text.now c.args.tokens.now c.args.from, ap length c.list-count.ensures.value)

pub range-requires-clause-nesting : goal.range-requires-clause-nesting
range-requires-clause-nesting c = omega (arith, nesting_of_rest c.args.text.now c.args.tokens.now c.args.from, ap length c.list-count.ensures.value)

pub property-requires-clause-nesting : goal.property-requires-clause-nesting
property-requires-clause-nesting c = omega (arith, nesting_of_rest c.args.text.now c.args.tokens.now c.args.from, ap length c.list-count.ensures.value)

pub member-requires-clause-nesting : goal.member-requires-clause-nesting
member-requires-clause-nesting c = omega (arith, nesting_of_rest c.args.text.now c.args.tokens.now c.args.from, ap length c.list-count.ensures.value)

pub literal-requires-clause-nesting : goal.literal-requires-clause-nesting
literal-requires-clause-nesting c = omega (arith, nesting_of_rest c.args.text.now c.args.tokens.now c.args.from, ap length c.list-count.ensures.value)
