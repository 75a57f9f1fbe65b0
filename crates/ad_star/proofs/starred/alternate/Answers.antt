-- Each round takes the top module of what was found, and the bottom module of that; it ends where one of them is all.
use Rattle.std.proofs.Common.{◌≡◌, ℕ, ◌≤◌, ◌<◌, IsTrue, sym, subst, arith, refl, ◌∙◌}
use Rattle.ad_base.specs.declared.limits.Side.TheVariants.{Bottom, Top}
use Rattle.ad_bits.specs.Rows.{has, member_count, IsSubset}
use Rattle.ad_bits.proofs.Rows.{member_count-subset}
use Rattle.ad_theory.specs.Module.{IsStar, IsClosure}
use Rattle.ad_theory.specs.Numbers.{logic_of}
use Rattle.ad_theory.proofs.Members.{not_both}
use Rattle.ad_theory.proofs.StarLemmas.{above_bottom, above_top}
use Rattle.ad_theory.proofs.KindLemmas.{closure_of_module}
use Rattle.ad_star.proofs.Rounds.{fewer, fixed_module, fixed_left, star_of, above_module, part_module}
use Rattle.ad_star.proofs.starred.alternate.Goals as goal

pub rounds-init : goal.rounds-init
rounds-init g c =
    let u = c.args.universe.now in
    let B = logic_of (g.U.Universe.symbols_of u) (g.U.Universe.is_local u Bottom) in
    let T = logic_of (g.U.Universe.symbols_of u) (g.U.Universe.is_local u Top) in
    let bottom = c.module.ensures in
    record {
      within = bottom.found.within;
      fixed = fixed_module {L = B} (g.met.U.Universe.antitone u Bottom) bottom.found;
      above = above_module {B = B} {T = T} bottom.found;
      out = refl;
      closure = bottom.closure;
      room = bottom.out;
      counted = bottom.counted;
      runs = bottom.runs;
      limits = bottom.limits;
    }

pub returns-then-same-clause-found : goal.returns-then-same-clause-found
returns-then-same-clause-found g c =
    let u = c.args.universe.now in
    let B = logic_of (g.U.Universe.symbols_of u) (g.U.Universe.is_local u Bottom) in
    let T = logic_of (g.U.Universe.symbols_of u) (g.U.Universe.is_local u Top) in
    let v = c.rounds.invariant in
    let top = c.module-in-rounds.ensures in
    let same : c.module-in-rounds.new.out ≡ c.rounds.found = c.same.ensures.0 c.if-same.true in (
      subst (λ r. IsStar B T (has c.args.seed.now) (λ i. IsTrue (g.U.Universe.is_live u i) × IsTrue (has c.args.start.now i)) (has r)) (sym same)
          (star_of {B = B} {T = T} v.within v.fixed (fixed_left {L = T} v.within (part_module {L = T} (λ i t. (v.within i t).1) top.found) (λ i t. subst (λ r. IsTrue (has r i)) (sym same) t)) v.above),
      closure_of_module {L = T} top.found,
    )

pub returns-then-same-2-clause-found : goal.returns-then-same-2-clause-found
returns-then-same-2-clause-found g c =
    let u = c.args.universe.now in
    let B = logic_of (g.U.Universe.symbols_of u) (g.U.Universe.is_local u Bottom) in
    let T = logic_of (g.U.Universe.symbols_of u) (g.U.Universe.is_local u Top) in
    let v = c.rounds.invariant in
    let top = c.module-in-rounds.ensures in
    let bottom = c.module-in-rounds-2.ensures in
    let same : c.module-in-rounds-2.new.out ≡ c.module-in-rounds.new.out = c.same-in-rounds.ensures.0 c.if-same-2.true in
    let within : (i : ℕ) → IsTrue (has c.module-in-rounds.new.out i) → IsTrue (g.U.Universe.is_live u i) × IsTrue (has c.args.start.now i) = λ i t. v.within i (top.found.within i t).1 in (
      star_of {B = B} {T = T} within
          (fixed_left {L = B} within (part_module {L = B} (λ i t. (within i t).1) bottom.found) (λ i t. subst (λ r. IsTrue (has r i)) (sym same) t))
          (fixed_module {L = T} (g.met.U.Universe.antitone u Top) top.found)
          (above_top {B = B} {T = T} v.above (part_module {L = T} (λ i t. (v.within i t).1) top.found)),
      subst (λ r. IsClosure B (has c.args.seed.now) (has r) (has c.module-in-rounds-2.new.closure)) same (closure_of_module {L = B} bottom.found),
    )

pub rounds-smaller : goal.rounds-smaller
rounds-smaller g c =
    let v = c.rounds.invariant in
    let top = c.module-in-rounds.ensures in
    let bottom = c.module-in-rounds-2.ensures in
    let part : IsSubset c.module-in-rounds.new.out c.rounds.found = λ i t. (top.found.within i t).1 in
    let less : member_count c.module-in-rounds.new.out < member_count c.rounds.found = fewer _ _
    (top.out ∙ v.out ∙ c.requires.out ∙ sym c.requires.found ∙ sym v.room)
    part (λ e. not_both (c.same.ensures.1 e) c.if-same.false) in
    let more : member_count c.module-in-rounds-2.new.out ≤ member_count c.module-in-rounds.new.out = member_count-subset _ _ (λ i t. (bottom.found.within i t).1) in
    omega (arith, less, more)

pub rounds-preserved : goal.rounds-preserved
rounds-preserved g c =
    let u = c.args.universe.now in
    let B = logic_of (g.U.Universe.symbols_of u) (g.U.Universe.is_local u Bottom) in
    let T = logic_of (g.U.Universe.symbols_of u) (g.U.Universe.is_local u Top) in
    let v = c.rounds.invariant in
    let top = c.module-in-rounds.ensures in
    let bottom = c.module-in-rounds-2.ensures in
    let within : (i : ℕ) → IsTrue (has c.module-in-rounds.new.out i) → IsTrue (g.U.Universe.is_live u i) × IsTrue (has c.args.start.now i) = λ i t. v.within i (top.found.within i t).1 in
    record {
      within = λ i t. within i (bottom.found.within i t).1;
      fixed = fixed_module {L = B} (g.met.U.Universe.antitone u Bottom) bottom.found;
      above = above_bottom {B = B} {T = T} (above_top {B = B} {T = T} v.above (part_module {L = T} (λ i t. (v.within i t).1) top.found)) (part_module {L = B} (λ i t. (within i t).1) bottom.found);
      out = top.out ∙ v.out;
      closure = bottom.closure ∙ top.closure ∙ v.closure;
      room = bottom.out ∙ v.room;
      counted = omega (arith, bottom.counted, top.counted, v.counted);
      runs = bottom.runs ∙ top.runs ∙ v.runs;
      limits = bottom.limits ∙ top.limits ∙ v.limits;
    }
