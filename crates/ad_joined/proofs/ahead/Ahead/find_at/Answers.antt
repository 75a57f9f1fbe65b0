-- One more row is found.
use Rattle.std.proofs.Common.{None, length, get_or, inl, inr, sym, subst, ap, ◌∙◌}
use Rattle.std.specs.Arc.{arc_value}
use Rattle.ad_tables.specs.Rows.{rows_in}
use Rattle.ad_theory.specs.Numbers.{logic_of}
use Rattle.ad_joined.specs.Searched.{IsSideRow}
use Rattle.ad_joined.proofs.AheadLemmas.{set_cases}
use Rattle.ad_joined.proofs.ahead.Ahead.find_at.Goals as goal

pub returns-clause-ahead : goal.returns-clause-ahead
returns-clause-ahead g c =
    let u = c.args.universe.now in
    let L = logic_of (g.U.Universe.symbols_of u) (g.U.Universe.is_local u c.args.side) in
    let e = c.in_ok-row.ensures in
    let v = c.requires.ahead in
    record {
      out = e.out;
      reached = e.reached;
      long = e.long;
      wholes = e.wholes;
      rows_long = c.put_row.ensures.long ∙ ap (λ rows. length rows.items) e.rows ∙ v.rows_long;
      rows = λ at row h. elim (set_cases (rows_in c.find.new.self.rows.items) c.args.at at (arc_value c.in_ok-row.row) row (ap (λ l. get_or l at None) (sym c.put_row.ensures.rows) ∙ h)) [
        | inl r ↦ subst (λ k. IsSideRow L (g.U.Universe.is_live u) (g.U.Universe.slot_count u) (get_or c.args.slots.now k 0) row) (sym r.0)
            (subst (IsSideRow L (g.U.Universe.is_live u) (g.U.Universe.slot_count u) (get_or c.args.slots.now c.args.at 0)) r.1 e.found)
        | inr r ↦ v.rows at row (ap (λ rows. get_or (rows_in rows.items) at None) (sym e.rows) ∙ r)
      ];
    }
