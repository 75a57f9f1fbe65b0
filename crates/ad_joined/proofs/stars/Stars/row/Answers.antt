-- What is found anew, what is known, or what is known with the rest.
use Rattle.std.proofs.Common.{◌≡◌, ◌∙◌, ℕ, length, IsTrue, sym, subst, ap}
use Rattle.ad_base.specs.declared.limits.Side.TheVariants.{Bottom, Top}
use Rattle.ad_bits.specs.Rows.{has}
use Rattle.ad_theory.specs.Alternation.{IsAboveStar}
use Rattle.ad_theory.specs.Module.{IsStar}
use Rattle.ad_theory.specs.Numbers.{among, logic_of}
use Rattle.ad_theory.proofs.KindLemmas.{closure_of_module}
use Rattle.ad_joined.proofs.stars.Stars.row.Goals as goal

pub anew-requires-clause-above : goal.anew-requires-clause-above
anew-requires-clause-above g c =
    let u = c.args.universe.now in
    let B = logic_of (g.U.Universe.symbols_of u) (g.U.Universe.is_local u Bottom) in
    let T = logic_of (g.U.Universe.symbols_of u) (g.U.Universe.is_local u Top) in
    let part = c.is_part.ensures in
    subst (λ r. IsAboveStar B T (has r) (λ i. IsTrue (g.U.Universe.is_live u i)) (has c.is_part.new.self.start)) (sym part.seed)
    (subst (λ r. IsAboveStar B T (has c.begin.new.self.seed) (λ i. IsTrue (g.U.Universe.is_live u i)) (has r)) (sym part.start) c.begin.ensures.above)

pub join-requires-clause-above : goal.join-requires-clause-above
join-requires-clause-above g c =
    let u = c.args.universe.now in
    let B = logic_of (g.U.Universe.symbols_of u) (g.U.Universe.is_local u Bottom) in
    let T = logic_of (g.U.Universe.symbols_of u) (g.U.Universe.is_local u Top) in
    let part = c.is_part.ensures in
    subst (λ r. IsAboveStar B T (has r) (λ i. IsTrue (g.U.Universe.is_live u i)) (has c.is_part.new.self.start)) (sym part.seed)
    (subst (λ r. IsAboveStar B T (has c.begin.new.self.seed) (λ i. IsTrue (g.U.Universe.is_live u i)) (has r)) (sym part.start) c.begin.ensures.above)

pub returns-clause-found : goal.returns-clause-found
returns-clause-found g c =
    let u = c.args.universe.now in
    let symbols = g.U.Universe.symbols_of u in
    let B = logic_of symbols (g.U.Universe.is_local u Bottom) in
    let T = logic_of symbols (g.U.Universe.is_local u Top) in
    let seed : has c.is_part.new.self.seed ≡ among (symbols c.args.slot) = ap has c.is_part.ensures.seed ∙ c.begin.ensures.seed in
    let star = subst (λ r. IsStar B T (among (symbols c.args.slot)) (λ i. IsTrue (g.U.Universe.is_live u i)) (has r)) (sym c.in_ok-row.ensures)
    (subst (λ f. IsStar B T f (λ i. IsTrue (g.U.Universe.is_live u i)) (has c.join.new.self.out)) seed c.join.ensures.found) in
    record {
      size = ap length c.in_ok-row.ensures ∙ c.join.ensures.stars.out;
      genuine = (star.bottom.0, (star, closure_of_module {L = B} star.bottom.1));
    }
