-- The module that was found, which is known from then on where it is better.
use Rattle.std.proofs.Common.{◌≡◌, ◌∙◌, ℕ, length, IsTrue, sym, subst, ap}
use Rattle.ad_base.specs.declared.limits.Kind.TheVariants.{Star}
use Rattle.ad_bits.specs.Rows.{has}
use Rattle.ad_theory.specs.Numbers.{among, IsNumberedModule}
use Rattle.ad_joined.proofs.stars.Stars.anew.Goals as goal

pub returns-clause-stars : goal.returns-clause-stars
returns-clause-stars g c =
    let u = c.args.universe.now in
    let symbols = g.U.Universe.symbols_of u in
    let local = g.U.Universe.is_local u in
    let live = g.U.Universe.is_live u in
    let found = subst (λ r. IsNumberedModule Star symbols local (among (symbols c.args.slot)) (λ i. IsTrue (live i)) (has r) (has c.find.new.self.closure)) (sym c.in_ok-row.ensures)
    (subst (λ f. IsNumberedModule Star symbols local f (λ i. IsTrue (live i)) (has c.find.new.self.out) (has c.find.new.self.closure)) c.requires.seed c.find.ensures.found) in
    let stars = c.find.ensures.stars in
    record {
      limits = stars.limits;
      seed = stars.seed;
      closure = stars.closure;
      start = stars.start;
      out = stars.out;
      room = stars.room;
      known = c.in_ok-learn.ensures symbols local live (g.U.Universe.slot_count u) (g.U.Universe.symbol_count u) found stars.known;
    }

pub returns-clause-found : goal.returns-clause-found
returns-clause-found g c =
    let u = c.args.universe.now in
    let symbols = g.U.Universe.symbols_of u in
    let local = g.U.Universe.is_local u in
    let live = g.U.Universe.is_live u in
    record {
      size = ap length c.in_ok-row.ensures ∙ c.find.ensures.stars.out;
      genuine = (
        has c.find.new.self.closure,
        subst (λ r. IsNumberedModule Star symbols local (among (symbols c.args.slot)) (λ i. IsTrue (live i)) (has r) (has c.find.new.self.closure)) (sym c.in_ok-row.ensures)
            (subst (λ f. IsNumberedModule Star symbols local f (λ i. IsTrue (live i)) (has c.find.new.self.out) (has c.find.new.self.closure)) c.requires.seed c.find.ensures.found),
      );
    }
