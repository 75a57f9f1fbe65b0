-- The rows of all kinds that stay.
use Rattle.std.proofs.Common.{◌≡◌, ◌∙◌, ◌&&◌, ℕ, Bool, List, Option, None, not, length, ap}
use Rattle.ad_base.specs.declared.limits.Kind.{Kind}
use Rattle.ad_base.specs.declared.limits.Kind.TheVariants.{Bottom, Top, Star}
use Rattle.ad_bits.specs.Rows.{has}
use Rattle.ad_tables.specs.Rows.{Tables, of_kind, row_of}
use Rattle.ad_repair.specs.Marks.{marked_of}
use Rattle.ad_repair.specs.Plans.{first_of, row_where}
use Rattle.ad_repair.proofs.FillLemmas.{filled_rows, first_of-none, no_row, no_row_long}
use Rattle.ad_repair.proofs.planning.kept_rows.Goals as goal

pub keep-requires-clause-wanted : goal.keep-requires-clause-wanted
keep-requires-clause-wanted g c = c.requires Bottom

pub keep-requires-2-clause-wanted : goal.keep-requires-2-clause-wanted
keep-requires-2-clause-wanted g c = c.requires Top

pub keep-requires-3-clause-wanted : goal.keep-requires-3-clause-wanted
keep-requires-3-clause-wanted g c = c.requires Star

pub keep-requires-2-clause-kept : goal.keep-requires-2-clause-kept
keep-requires-2-clause-kept g c =
    c.in_ok-keep.ensures.long Top ∙ ap (λ (t : Tables). length (of_kind t Top)) c.in_ok-kept.ensures ∙ no_row_long c.slots.result Top ∙ c.slots.ensures

pub keep-requires-3-clause-kept : goal.keep-requires-3-clause-kept
keep-requires-3-clause-kept g c =
    c.in_ok-keep-2.ensures.long Star ∙ c.in_ok-keep.ensures.long Star ∙ ap (λ (t : Tables). length (of_kind t Star)) c.in_ok-kept.ensures ∙ no_row_long c.slots.result Star ∙ c.slots.ensures

pub returns-clause-long : goal.returns-clause-long
returns-clause-long g c = λ kind.
    c.in_ok-keep-3.ensures.long kind ∙ c.in_ok-keep-2.ensures.long kind ∙ c.in_ok-keep.ensures.long kind
    ∙ ap (λ (t : Tables). length (of_kind t kind)) c.in_ok-kept.ensures ∙ no_row_long c.slots.result kind ∙ c.slots.ensures

pub returns-clause-rows : goal.returns-clause-rows
returns-clause-rows g c = λ kind i l.
    let u = c.args.new.now in
    let f : Kind → ℕ → Option (List Bool) = λ any k. row_where (g.U.Universe.is_live u k && not (has (marked_of c.args.marks.now any) k)) (row_of c.args.rows.now any k) in
    let start : Tables = c.in_ok-kept.kept in
    let nothing : row_of start kind i ≡ None = ap (λ (t : Tables). row_of t kind i) c.in_ok-kept.ensures ∙ no_row c.slots.result kind i in
    filled_rows f start c.keep.new.kept c.keep-2.new.kept c.keep-3.new.kept (g.U.Universe.slot_count u) c.in_ok-keep.ensures c.in_ok-keep-2.ensures c.in_ok-keep-3.ensures kind i l
    ∙ ap (first_of (f kind i)) nothing ∙ first_of-none (f kind i)
