-- One more touched symbol was looked at.
use Rattle.std.proofs.Common.{◌≡◌, ◌<◌, ◌+◌, ◌∙◌, [], IsTrue, IsFalse, length, get_or, sym, subst, ap, rules, arith}
use Rattle.ad_bits.specs.Rows.{has}
use Rattle.ad_theory.proofs.Members.{not_both}
use Rattle.ad_repair.specs.Touches.{IsHeld, IsSeen}
use Rattle.ad_repair.proofs.ListLemmas.{among_at, get_or-any}
use Rattle.ad_repair.proofs.TouchLemmas.{seen_skip, seen_more}
use Rattle.ad_repair.proofs.foreign.see.Goals.{then-is_held, else-is_held}
use Rattle.ad_repair.proofs.foreign.see.Goals as goal

pub set-requires : goal.set-requires
set-requires c =
    let symbol = get_or c.args.touched.now.symbols.items c.loop-at.at 0 in
    let end : c.len-at-end.result ≡ length c.args.touched.now.symbols.items = search rules in
    let within : c.loop-at.at < length c.args.touched.now.symbols.items = omega (arith, end, c.loop-at-test.true) in
    let is : c.index-then-is_held.result.now ≡ symbol = c.index-then-is_held.ensures ∙ get_or-any c.args.touched.now.symbols.items c.loop-at.at c.index-then-is_held.result.now 0 within in
    let below : symbol < length c.args.seen.now = c.requires.sized.below symbol (among_at c.args.touched.now.symbols.items c.loop-at.at within) in
    subst (λ z. z < length c.loop-at.seen) (sym is) (subst (λ n. symbol < n) (sym c.loop-at.invariant.size) below)

pub loop-at-preserved : goal.loop-at-preserved
loop-at-preserved c =
    let touched = c.args.touched.now in
    let at = c.loop-at.at in
    let end : c.len-at-end.result ≡ length touched.symbols.items = search rules in
    let within : at < length touched.symbols.items = omega (arith, end, c.loop-at-test.true) in
    let holder : c.index.result.now ≡ get_or touched.holders.items at [] =
    c.index.ensures ∙ get_or-any touched.holders.items at c.index.result.now [] (subst (λ n. at < n) (sym c.requires.sized.long) within) in
    let v = c.loop-at.invariant in
    elim c.if-is_held.branch [
      | then-is_held w ↦ (
          let symbol : w.index-then-is_held.result.now ≡ get_or touched.symbols.items at 0 =
          w.index-then-is_held.ensures ∙ get_or-any touched.symbols.items at w.index-then-is_held.result.now 0 within in
          let held : IsHeld (get_or touched.holders.items at []) c.args.slot c.args.row.now = subst (λ h. IsHeld h c.args.slot c.args.row.now) holder (c.is_held.ensures.0 w.if-is_held.true) in
          record {
            seen = subst (λ s. IsSeen touched c.args.slot c.args.row.now s (at + 1)) (sym w.seen-is)
                (seen_more touched c.args.slot c.args.row.now at c.loop-at.seen w.set.new.self v.seen held
                (subst (λ z. IsTrue (has w.set.new.self z)) symbol w.set.ensures.member)
                (λ k d. w.set.ensures.others k (λ e. d (e ∙ symbol))));
            size = ap length w.seen-is ∙ w.set.ensures.size ∙ v.size;
          })
      | else-is_held w ↦ (
          let none : IsFalse c.is_held.result = w.if-is_held.false in
          record {
            seen = subst (λ s. IsSeen touched c.args.slot c.args.row.now s (at + 1)) (sym w.seen-is)
                (seen_skip touched c.args.slot c.args.row.now at c.loop-at.seen v.seen (λ h.
                not_both (c.is_held.ensures.1 (subst (λ z. IsHeld z c.args.slot c.args.row.now) (sym holder) h)) none));
            size = ap length w.seen-is ∙ v.size;
          })
    ]
