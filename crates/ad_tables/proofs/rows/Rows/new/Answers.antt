use Rattle.ad_tables.proofs.RowLemmas.{none_in}
use Rattle.ad_tables.proofs.rows.Rows.new.Goals as goal

pub returns : goal.returns
returns c =
    let bottom = none_in c.args.slots _ c.in_ok-no_rows.ensures in
    let top = none_in c.args.slots _ c.in_ok-no_rows-2.ensures in
    let star = none_in c.args.slots _ c.in_ok-no_rows-3.ensures in
    λ i. record { bottom = bottom i; top = top i; star = star i }
