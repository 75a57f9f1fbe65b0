-- The known module is the star module for the slot's signature too, so the slot is one more of those that have it.
use Rattle.std.proofs.Common.{◌≡◌, ◌∙◌, ℕ, length, IsTrue, sym, subst, ap}
use Rattle.std.specs.Arc.{arc_value}
use Rattle.ad_base.specs.declared.limits.Side.TheVariants.{Bottom, Top}
use Rattle.ad_bits.specs.Rows.{has}
use Rattle.ad_theory.specs.Module.{IsStar}
use Rattle.ad_theory.specs.Numbers.{among, logic_of}
use Rattle.ad_theory.proofs.KindLemmas.{closure_of_module}
use Rattle.ad_joined.proofs.KnownLemmas.{star_again}
use Rattle.ad_joined.proofs.stars.Stars.again.Goals as goal

pub returns-clause-stars : goal.returns-clause-stars
returns-clause-stars g c =
    let u = c.args.universe.now in
    let symbols = g.U.Universe.symbols_of u in
    let B = logic_of symbols (g.U.Universe.is_local u Bottom) in
    let T = logic_of symbols (g.U.Universe.is_local u Top) in
    let stars = c.requires.stars in
    let p = c.requires.part in
    let row = has (arc_value c.args.self.now.known.row) in
    let part : (s : ℕ) → IsTrue (has c.args.self.now.seed s) → (a : ℕ) × IsTrue (row a) × IsTrue (among (symbols a) s) = λ s h. stars.known.only s (c.requires.all s h) in
    let star = subst (λ f. IsStar B T f (λ i. IsTrue (g.U.Universe.is_live u i)) row) c.requires.seed (star_again {B = B} {T = T} p.star part part p.bottom p.top) in
    record {
      limits = stars.limits;
      seed = stars.seed;
      closure = stars.closure;
      start = stars.start;
      out = stars.out;
      room = stars.room;
      known = c.add.ensures.known symbols (g.U.Universe.is_local u) (g.U.Universe.is_live u) (g.U.Universe.slot_count u) (g.U.Universe.symbol_count u) star stars.known;
    }

pub returns-clause-found : goal.returns-clause-found
returns-clause-found g c =
    let u = c.args.universe.now in
    let symbols = g.U.Universe.symbols_of u in
    let B = logic_of symbols (g.U.Universe.is_local u Bottom) in
    let T = logic_of symbols (g.U.Universe.is_local u Top) in
    let stars = c.requires.stars in
    let p = c.requires.part in
    let row = has (arc_value c.args.self.now.known.row) in
    let part : (s : ℕ) → IsTrue (has c.args.self.now.seed s) → (a : ℕ) × IsTrue (row a) × IsTrue (among (symbols a) s) = λ s h. stars.known.only s (c.requires.all s h) in
    let star = subst (λ r. IsStar B T (among (symbols c.args.slot)) (λ i. IsTrue (g.U.Universe.is_live u i)) (has r)) (sym c.in_ok-row.ensures)
    (subst (λ f. IsStar B T f (λ i. IsTrue (g.U.Universe.is_live u i)) row) c.requires.seed (star_again {B = B} {T = T} p.star part part p.bottom p.top)) in
    record {
      size = ap length c.in_ok-row.ensures ∙ stars.known.row_size;
      genuine = (star.bottom.0, (star, closure_of_module {L = B} star.bottom.1));
    }
