-- The members of the rows of covers were counted.
use Rattle.std.proofs.Common.{◌∙◌, ap}
use Rattle.std.specs.List.{sum_by}
use Rattle.ad_bits.specs.Rows.{member_count}
use Rattle.ad_depend.specs.Covered.{Covered}
use Rattle.ad_summary.proofs.SummaryLemmas.{edition_covers}
use Rattle.ad_summary.proofs.counts.cover_count.Goals as goal

pub returns : goal.returns
returns c = c.count.ensures ∙ ap (λ (covers : Covered). sum_by member_count covers.rows) c.covers.ensures ∙ edition_covers c.args.kind c.args.edition.now c.laws.ensures
