-- One more slot was looked at.
use Rattle.std.proofs.Common.{◌≡◌, ◌∙◌, inl, inr, sym, subst, arith}
use Rattle.ad_bits.specs.Rows.{has}
use Rattle.ad_decomposition.specs.Affected.{to_find}
use Rattle.ad_repair.specs.Changes.{theory_of, change_of}
use Rattle.ad_repair.proofs.ListLemmas.{below_or_last}
use Rattle.ad_repair.proofs.MarkLemmas.{or_false}
use Rattle.ad_repair.proofs.marks.marked.Goals as goal

pub loop-slot-preserved : goal.loop-slot-preserved
loop-slot-preserved g c =
    let u = c.args.new.now in
    let slot = c.loop-slot.slot in
    let row = c.set_where.new.row in
    let wanted = c.is_to_find-wanted.result in
    let v = c.loop-slot.invariant in
    let w = c.set_where.ensures in
    record {
      size = w.size ∙ v.size;
      members = λ before slots size are all i l.
          let change = change_of before (theory_of (g.U.Universe.symbols_of u) (g.U.Universe.is_local u) (g.U.Universe.is_live u)) c.args.removed.now c.args.added.now slots in
          elim (below_or_last i slot l) [
            | inl s ↦ w.others i (λ e. absurd (omega (arith, e, s))) ∙ v.members before slots size are all i s
            | inr e ↦ (
                let here : has row slot ≡ to_find change c.args.rows.now c.args.kind slot =
                w.here ∙ or_false wanted (has c.loop-slot.row slot) (v.rest slot (omega arith)) ∙ c.is_to_find-wanted.ensures before slots size are all in
                subst (λ k. has row k ≡ to_find change c.args.rows.now c.args.kind k) (sym e) here)
          ];
      rest = λ i l. w.others i (λ e. absurd (omega (arith, e, l))) ∙ v.rest i (omega (arith, l));
    }
