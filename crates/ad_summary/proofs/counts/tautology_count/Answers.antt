-- Tautologies are counted beside the atoms.
use Rattle.std.proofs.Common.{◌∙◌, ap}
use Rattle.ad_tables.specs.Rows.{Numbered}
use Rattle.ad_summary.proofs.SummaryLemmas.{tautologies_counted}
use Rattle.ad_summary.proofs.counts.tautology_count.Goals as goal

pub returns : goal.returns
returns c = c.from.ensures ∙ c.tautologies.ensures ∙ ap (λ (atoms : Numbered). atoms.tautologies) c.atoms.ensures ∙ tautologies_counted c.args.edition.now c.laws.ensures
