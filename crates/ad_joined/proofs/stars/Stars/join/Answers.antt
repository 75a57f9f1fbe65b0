-- The known module and the star module of the rest.
use Rattle.std.proofs.Common.{◌≡◌, ◌∙◌, ℕ, Bool, ◌||◌, ◌&&◌, not, ◌⊎◌, IsTrue, IsFalse, inl, inr, sym, subst}
use Rattle.std.specs.Arc.{arc_value}
use Rattle.ad_base.specs.declared.limits.Side.TheVariants.{Bottom, Top}
use Rattle.ad_bits.specs.Rows.{has}
use Rattle.ad_theory.specs.Module.{IsStar}
use Rattle.ad_theory.specs.Numbers.{among, logic_of}
use Rattle.ad_theory.proofs.Members.{or_left, or_right, or_cases, and_intro, false_not}
use Rattle.ad_theory.proofs.StarLemmas.{star_test}
use Rattle.ad_joined.proofs.KnownLemmas.{star_joined}
use Rattle.ad_joined.proofs.stars.Stars.join.Goals as goal

pub returns-clause-found : goal.returns-clause-found
returns-clause-found g c =
    let u = c.args.universe.now in
    let symbols = g.U.Universe.symbols_of u in
    let B = logic_of symbols (g.U.Universe.is_local u Bottom) in
    let T = logic_of symbols (g.U.Universe.is_local u Top) in
    let known = c.requires.stars.known in
    let p = c.requires.part in
    let row = has (arc_value c.args.self.now.known.row) in
    let rest = has c.star_of_part.new.out in
    let seed = has c.args.self.now.seed in
    let closure = has c.args.self.now.known.closure in
    let symbols_in : (a s : ℕ) → IsTrue (row a) → IsTrue (among (symbols a) s) → IsTrue (has c.take_out.new.seed s) =
    (λ a s h sig. c.take_out.ensures.seed s ∙ or_right (seed s) (closure s) (known.has_symbols a s h sig)) in
    let only : (s : ℕ) → IsTrue (has c.take_out.new.seed s) → IsTrue (seed s) ⊎ ((a : ℕ) × IsTrue (row a) × IsTrue (among (symbols a) s)) =
    (λ s h. elim (or_cases (seed s) (closure s) (sym (c.take_out.ensures.seed s) ∙ h)) [ inl t ↦ inl t | inr t ↦ inr (known.only s t) ]) in
    star_test {B = B} {T = T}
    (λ i h. c.add_to.ensures.members i ∙ elim (or_cases (row i) (rest i) h) [ inl t ↦ or_right (rest i) (row i) t | inr t ↦ or_left (rest i) (row i) t ])
    (λ i h. elim (or_cases (rest i) (row i) (sym (c.add_to.ensures.members i) ∙ h)) [ inl t ↦ or_right (row i) (rest i) t | inr t ↦ or_left (row i) (rest i) t ])
    (star_joined {B = B} {T = T} p.star.within p.bottom p.top c.requires.above
    (λ i x f. c.take_out.ensures.start i ∙ and_intro (has c.args.self.now.start i) (not (row i)) x (false_not (row i) f))
    (λ s h. c.take_out.ensures.seed s ∙ or_left (seed s) (closure s) h)
    symbols_in symbols_in only only c.star_of_part.ensures.found.0)
