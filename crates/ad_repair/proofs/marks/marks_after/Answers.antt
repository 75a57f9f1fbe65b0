-- The rows before the change are those of genuine modules.
use Rattle.ad_repair.specs.Changes.{theory_of, change_of}
use Rattle.ad_repair.proofs.GenuineLemmas.{genuine_over, genuine_live}
use Rattle.ad_repair.proofs.ListLemmas.{ok_then}
use Rattle.ad_repair.proofs.MarkLemmas.{all_stay}
use Rattle.ad_repair.proofs.marks.marks_after.Goals as goal

pub foreign_by_side-requires-clause-rows : goal.foreign_by_side-requires-clause-rows
foreign_by_side-requires-clause-rows g c =
    let u = c.args.old.now in
    genuine_over (g.U.Universe.symbols_of u) (g.U.Universe.is_local u) (g.U.Universe.is_live u) (g.U.Universe.slot_count u) (g.U.Universe.slot_count c.args.new.now) c.args.rows.now c.requires.genuine c.requires.slots

pub foreign_by_side-requires-clause-old : goal.foreign_by_side-requires-clause-old
foreign_by_side-requires-clause-old g c =
    let u = c.args.old.now in
    genuine_live (g.U.Universe.symbols_of u) (g.U.Universe.is_local u) (g.U.Universe.is_live u) (g.U.Universe.slot_count u) c.args.rows.now c.requires.genuine

pub marked_by_kind-requires-clause-rows : goal.marked_by_kind-requires-clause-rows
marked_by_kind-requires-clause-rows g c =
    let u = c.args.old.now in
    genuine_over (g.U.Universe.symbols_of u) (g.U.Universe.is_local u) (g.U.Universe.is_live u) (g.U.Universe.slot_count u) (g.U.Universe.slot_count c.args.new.now) c.args.rows.now c.requires.genuine c.requires.slots

pub returns-clause-members : goal.returns-clause-members
returns-clause-members g c =
    let old = c.args.old.now in
    let new = c.args.new.now in
    let before = theory_of (g.U.Universe.symbols_of old) (g.U.Universe.is_local old) (g.U.Universe.is_live old) in
    let after = theory_of (g.U.Universe.symbols_of new) (g.U.Universe.is_local new) (g.U.Universe.is_live new) in
    let slots = g.U.Universe.slot_count old in
    let change = change_of before after c.args.removed.now c.args.added.now slots in
    ok_then c.marked_by_kind.result _ _ c.marked_by_kind.ensures.members (λ marks m. m before slots c.requires.slots c.in_ok-foreign.ensures.foreign (all_stay change c.requires.change))
