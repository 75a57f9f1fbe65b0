-- The row was found before, or is found now.
use Rattle.std.proofs.Common.{None, get_or, sym, ap, ◌∙◌, length}
use Rattle.std.specs.Arc.{arc_value}
use Rattle.std.specs.Option.{option_map}
use Rattle.ad_tables.specs.Rows.{rows_in}
use Rattle.ad_joined.proofs.ahead.Ahead.row_at.Goals as goal

pub returns-in-Some-clause-found : goal.returns-in-Some-clause-found
returns-in-Some-clause-found g c =
    c.requires.ahead.rows c.args.at (arc_value c.in-Some.row)
    (ap (λ l. get_or (rows_in l) c.args.at None) (sym c.deref.ensures.value) ∙ sym c.in_ok-row.ensures ∙ ap (option_map (λ row. arc_value row)) c.in-Some.is)

pub returns-clause-ahead : goal.returns-clause-ahead
returns-clause-ahead g c =
    let e = c.in_ok-row-2.ensures in
    let v = c.requires.ahead in
    record {
      out = e.out;
      reached = e.reached;
      long = e.long;
      wholes = e.wholes;
      rows_long = ap (λ rows. length rows.items) e.rows ∙ v.rows_long;
      rows = λ at row h. v.rows at row (ap (λ rows. get_or (rows_in rows.items) at None) (sym e.rows) ∙ h);
    }
