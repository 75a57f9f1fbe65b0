-- The rows of the groups are those of their slots.
use Rattle.std.proofs.Common.{Result, Ok, Err, IfOk, ◌*◌, ◌<◌, [], None, get_or, length, sym, subst, ap, ◌∙◌}
use Rattle.std.specs.Option.{option_map}
use Rattle.ad_bits.proofs.Rows.{within_size}
use Rattle.ad_theory.specs.Tally.{IsRaisedBy}
use Rattle.ad_genuine.specs.Found.{AreFound, rows_of_kind}
use Rattle.ad_genuine.proofs.FoundLemmas.{raised-le}
use Rattle.ad_genuine.proofs.GenuineRows.{live_groups, group_below, tables_genuine}
use Rattle.rayon.proofs.ListFacts.{IfOk-then}
use Rattle.ad_genuine.proofs.finding.scratch.Goals as goal

both_then : {A E : Type 0} (r : Result A E) (P Q R : A → Type 0) → IfOk r P → IfOk r Q → ((x : A) → P x → Q x → R x) → IfOk r R
both_then (Ok x) P Q R p q f = f x p q
both_then (Err e) P Q R p q f = tt

pub rows_for-requires-clause-groups : goal.rows_for-requires-clause-groups
rows_for-requires-clause-groups g c =
    let u = c.args.universe.now in
    let symbols = g.U.Universe.symbols_of u in
    let local = g.U.Universe.is_local u in
    let live = g.U.Universe.is_live u in
    let slots = g.U.Universe.slot_count u in
    let are = live_groups c.in_ok-live.ensures.members c.in_ok-grouping.ensures in
    let found = c.in_ok-found.found in
    let rows = subst (λ l. AreFound symbols local live slots l found) c.deref.ensures.value c.in_ok-found.ensures in
    λ kind i k e. group_below symbols local live slots c.in_ok-grouping.grouping.groups.items c.in_ok-grouping.grouping.firsts.items found are rows
    (λ j t. subst (λ n. j < n) c.in_ok-live.ensures.size (within_size c.in_ok-live.live j (c.in_ok-live.ensures.members j ∙ t))) kind i k (ap (λ l. get_or l i None) (sym c.deref-2.ensures.value) ∙ e)

pub returns-clause-rows : goal.returns-clause-rows
returns-clause-rows g c =
    let u = c.args.universe.now in
    let symbols = g.U.Universe.symbols_of u in
    let local = g.U.Universe.is_local u in
    let live = g.U.Universe.is_live u in
    let slots = g.U.Universe.slot_count u in
    let are = live_groups c.in_ok-live.ensures.members c.in_ok-grouping.ensures in
    let found = c.in_ok-found.found in
    let rows = subst (λ l. AreFound symbols local live slots l found) c.deref.ensures.value c.in_ok-found.ensures in
    let long = ap length c.deref-2.ensures.value ∙ are.long in
    both_then c.rows_for.result _ _ _ c.rows_for.ensures.size c.rows_for.ensures.rows (λ tables sizes each.
    tables_genuine symbols local live slots c.in_ok-grouping.grouping.groups.items c.in_ok-grouping.grouping.firsts.items found are rows
    (λ j t. subst (λ n. j < n) c.in_ok-live.ensures.size (within_size c.in_ok-live.live j (c.in_ok-live.ensures.members j ∙ t)))
    tables (λ kind. sizes kind ∙ long) (λ kind i. each kind i ∙ ap (λ l. option_map (λ k. get_or (rows_of_kind found kind) k []) (get_or l i None)) c.deref-2.ensures.value))

pub returns-clause-runs : goal.returns-clause-runs
returns-clause-runs g c =
    let count = ap length c.deref.ensures.value ∙ ap length (live_groups c.in_ok-live.ensures.members c.in_ok-grouping.ensures).firsts_are in
    IfOk-then c.rows_for.result _ _ c.rows_for.ensures.rows (λ tables each.
    subst (λ n. IsRaisedBy n c.args.tally.now.runs c.add.new.self.runs) (c.in_ok-found.ensures.runs ∙ ap (λ n. 3 * n) count) c.add.ensures.runs)

pub returns-clause-tests : goal.returns-clause-tests
returns-clause-tests g c = raised-le c.in_ok-found.found.tally.tests c.args.tally.now.tests c.add.new.self.tests c.add.ensures.tests

pub returns-clause-counted : goal.returns-clause-counted
returns-clause-counted g c = raised-le c.in_ok-found.found.tally.runs c.args.tally.now.runs c.add.new.self.runs c.add.ensures.runs
