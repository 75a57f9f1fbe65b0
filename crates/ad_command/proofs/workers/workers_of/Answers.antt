use Rattle.ad_command.proofs.WordLemmas.{named_workers}
use Rattle.std.proofs.Common.{sym, ◌∙◌, codes}
use Rattle.ad_lex.proofs.Pieces.{bytes_same}
use Rattle.ad_command.proofs.workers.workers_of.Goals as goal

pub returns-in-len2-clause-some : goal.returns-in-len2-clause-some
returns-in-len2-clause-some c =
    named_workers c.args.words.now c.option-item.result c.as_str-in-len2.result.now _ _ c.number_of.result c.in-len2.len_at_least c.in-len2.len_below c.option-item.is (c.as_str-in-len2.ensures ∙ c.number-item.is)
    (sym c.as_str.ensures ∙ bytes_same c.as_str.result.now (codes "--workers") (sym c.eq.ensures ∙ c.if-eq.true)) c.number_of.ensures.some
