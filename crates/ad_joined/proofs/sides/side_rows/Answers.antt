-- At first nothing is found.
use Rattle.std.proofs.Common.{None, length, get_or, sym, ap, ◌∙◌}
use Rattle.std.proofs.lemmas.List.{length-replicate}
use Rattle.ad_tables.proofs.RowLemmas.{none_in}
use Rattle.ad_theory.specs.Numbers.{logic_of}
use Rattle.ad_joined.proofs.AheadLemmas.{no_wholes, none_there}
use Rattle.ad_joined.proofs.sides.side_rows.Goals as goal

pub find_ahead-requires-clause-ahead : goal.find_ahead-requires-clause-ahead
find_ahead-requires-clause-ahead g c =
    let u = c.args.universe.now in
    let L = logic_of (g.U.Universe.symbols_of u) (g.U.Universe.is_local u c.args.side) in
    let e = c.in_ok-ahead.ensures in
    let n = length c.args.slots.now in
    record {
      out = e.out ∙ c.slots.ensures;
      reached = e.reached ∙ c.symbols.ensures;
      long = ap length e.wholes ∙ length-replicate c.slots.result None ∙ c.slots.ensures;
      wholes = no_wholes L (g.U.Universe.is_live u) (g.U.Universe.slot_count u) (g.U.Universe.symbol_count u) c.in_ok-ahead.ahead.wholes.items c.slots.result e.wholes;
      rows_long = ap length e.rows ∙ length-replicate n None;
      rows = λ at row h. absurd (none_there n at row (ap (λ l. get_or l at None) (sym (none_in n c.in_ok-ahead.ahead.rows.items e.rows)) ∙ h));
    }
