use Rattle.std.proofs.Common.{drop}
use Rattle.ad_grammar.specs.Texts.{in_force}
use Rattle.ad_prefixes.specs.Declarations.{declarations}
use Rattle.ad_phrases.proofs.Trees.{all_known, one_unknown}
use Rattle.ad_phrases.proofs.phrases.known.Goals as goal

pub returns-in-Some-clause-unknown : goal.returns-in-Some-clause-unknown
returns-in-Some-clause-unknown c = one_unknown (in_force (declarations c.args.prefixes.now)) c.args.text.now (drop c.args.from c.args.tokens.now) c.first_unknown.result c.in-Some.at c.first_unknown.ensures c.in-Some.is

pub returns-in-None-clause-known : goal.returns-in-None-clause-known
returns-in-None-clause-known c = all_known (in_force (declarations c.args.prefixes.now)) c.args.text.now (drop c.args.from c.args.tokens.now) c.first_unknown.result c.first_unknown.ensures c.in-None.is
