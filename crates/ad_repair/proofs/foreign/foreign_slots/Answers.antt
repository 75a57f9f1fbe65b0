-- Where nothing was added, nothing is foreign; at the end all slots were looked at.
use Rattle.std.proofs.Common.{◌≡◌, ◌<◌, ◌∙◌, not, length, sym, subst, ap, rules, arith}
use Rattle.ad_bits.specs.Rows.{has}
use Rattle.ad_bits.proofs.Rows.{has-replicate}
use Rattle.ad_theory.proofs.Members.{and_left}
use Rattle.ad_tables.specs.Rows.{of_kind}
use Rattle.ad_decomposition.specs.Tables.{is_in_row_of}
use Rattle.ad_repair.specs.Changes.{theory_of, change_of, kind_of_side}
use Rattle.ad_repair.proofs.ForeignLemmas.{nothing_added}
use Rattle.ad_repair.proofs.ListLemmas.{some_below, none_among}
use Rattle.ad_repair.proofs.foreign.foreign_slots.Goals as goal

pub returns-then-is_empty-clause-members : goal.returns-then-is_empty-clause-members
returns-then-is_empty-clause-members g c = λ before removed added slots size is rows i stay.
    let u = c.args.new.now in
    let change = change_of before (theory_of (g.U.Universe.symbols_of u) (g.U.Universe.is_local u) (g.U.Universe.is_live u)) removed added slots in
    let none : length c.args.touched.now.added.items ≡ 0 = search rules in
    ap (λ r. has r i) c.in_ok-foreign.ensures ∙ has-replicate c.slots.result i
    ∙ sym (nothing_added change c.args.side i (is_in_row_of c.args.rows.now (kind_of_side c.args.side) i) (λ k t. none_among c.args.touched.now.added.items k none (is.added k ∙ t)))

pub returns-clause-members : goal.returns-clause-members
returns-clause-members g c = λ before removed added slots size is rows i stay.
    let kind = kind_of_side c.args.side in
    let h = rows kind i (and_left (before.live i) (not (has removed i)) stay) in
    let below : i < g.U.Universe.slot_count c.args.new.now = subst (λ n. i < n) (c.requires.rows.long kind) (some_below (of_kind c.args.rows.now kind) i h.0 h.1) in
    let last : i < c.loop-slot.slot = omega (arith, below, c.slots-slot-end.ensures, c.loop-slot-test.false) in
    c.loop-slot.invariant.members before removed added slots size is rows i last stay
