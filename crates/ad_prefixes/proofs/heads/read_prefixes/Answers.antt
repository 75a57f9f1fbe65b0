use Rattle.std.proofs.Common.{not, ap}
use Rattle.ad_prefixes.proofs.HeadLemmas.{taken_more}
use Rattle.ad_prefixes.proofs.heads.read_prefixes.Goals as goal

pub declarations-preserved : goal.declarations-preserved
declarations-preserved c =
    taken_more c.args.text.now c.args.tokens.now c.declarations.prefixes c.declare.new.self c.declarations.at c.in-Some.short c.in-Some.prefix.now c.in-Some.iri.now c.in_ok-iri.iri c.in_ok-declare.field-0
    c.declarations.invariant c.in-Some.ensures c.in_ok-iri.ensures c.in_ok-declare.ensures.fresh c.in_ok-declare.ensures.declared (ap not c.if-not-branch.false)
