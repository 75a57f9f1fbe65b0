-- The slot has a row, and the largest rows among those of its members are the same.
use Rattle.std.proofs.Common.{is_some, length, slice_index, sym, ◌∙◌, ap, subst, arith}
use Rattle.std.proofs.lemmas.List.{length-map}
use Rattle.ad_tables.specs.Rows.{of_kind}
use Rattle.ad_sizes.specs.Sizes.{size_of, AreLargest}
use Rattle.ad_atoms.proofs.RowLemmas.{row_size}
use Rattle.ad_atoms.proofs.SameRows.{largest_are_same}
use Rattle.ad_atoms.proofs.numbering.find_same.Goals as goal

pub row_at-requires : goal.row_at-requires
row_at-requires c = let l = c.requires.listed in ap is_some (l.2.rows c.args.first l.1).1

pub copy_from-requires : goal.copy_from-requires
copy_from-requires c =
    let l = c.requires.listed in
    c.requires.room ∙ sym (row_size c.args.rows.now c.args.kind c.args.first c.row_at.result.now c.row_at.ensures _ (l.2.rows c.args.first l.1))

pub keep_largest-requires : goal.keep_largest-requires
keep_largest-requires c =
    let l = c.requires.listed in
    let long = row_size c.args.rows.now c.args.kind c.args.first c.row_at.result.now c.row_at.ensures _ (l.2.rows c.args.first l.1) in
    omega (arith, ap length c.copy_from.ensures, long, ap length c.requires.sizes, length-map (of_kind c.args.rows.now c.args.kind) size_of)

pub returns-clause-same : goal.returns-clause-same
returns-clause-same c =
    let l = c.requires.listed in
    let from = subst (λ m. AreLargest (slice_index c.args.row_sizes.now) m c.keep_largest.new.members) c.copy_from.ensures c.keep_largest.ensures.largest in
    largest_are_same c.args.rows.now c.args.kind l.0 l.2 l.3 c.args.first l.1 c.requires.own c.row_at.result.now c.keep_largest.new.members c.row_at.ensures
    (subst (λ ss. AreLargest (slice_index ss) c.row_at.result.now c.keep_largest.new.members) c.requires.sizes from)

pub returns-clause-size : goal.returns-clause-size
returns-clause-size c =
    let l = c.requires.listed in
    c.keep_largest.ensures.size ∙ ap length c.copy_from.ensures
    ∙ row_size c.args.rows.now c.args.kind c.args.first c.row_at.result.now c.row_at.ensures _ (l.2.rows c.args.first l.1) ∙ sym c.requires.room
