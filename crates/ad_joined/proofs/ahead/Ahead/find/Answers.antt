-- What the search has left is the module.
use Rattle.std.proofs.Common.{None, get_or, sym, subst, ap, ◌∙◌}
use Rattle.ad_theory.specs.Numbers.{logic_of}
use Rattle.ad_joined.specs.Searched.{IsSideRow}
use Rattle.ad_joined.proofs.AheadLemmas.{side_row}
use Rattle.ad_joined.proofs.ahead.Ahead.find.Goals as goal

pub find-requires-clause-wholes : goal.find-requires-clause-wholes
find-requires-clause-wholes g c slot whole h = c.requires.wholes slot whole (ap (λ l. get_or l slot None) (sym c.deref.ensures.value) ∙ h)

pub returns-clause-found : goal.returns-clause-found
returns-clause-found g c =
    let u = c.args.universe.now in
    let L = logic_of (g.U.Universe.symbols_of u) (g.U.Universe.is_local u c.args.side) in
    subst (IsSideRow L (g.U.Universe.is_live u) (g.U.Universe.slot_count u) c.args.slot) (sym (c.in_ok-new.ensures.ok ∙ c.in_ok-row.ensures))
    (side_row L (g.U.Universe.is_live u) (g.U.Universe.slot_count u) (g.U.Universe.symbol_count u) (g.met.U.Universe.antitone u c.args.side) c.args.slot c.find.new.self.out c.find.new.self.reached c.find.ensures.found)

pub returns-clause-wholes : goal.returns-clause-wholes
returns-clause-wholes g c =
    let u = c.args.universe.now in
    let L = logic_of (g.U.Universe.symbols_of u) (g.U.Universe.is_local u c.args.side) in
    c.in_ok-keep.ensures.wholes L (g.U.Universe.is_live u) (g.U.Universe.slot_count u) (g.U.Universe.symbol_count u) c.find.ensures.found c.requires.wholes
