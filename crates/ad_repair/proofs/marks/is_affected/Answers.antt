-- A slot that stays, and to whose row nothing is foreign, is affected where its row has a removed axiom.
use Rattle.std.proofs.Common.{◌≡◌, ◌∙◌, ◌<◌, ℕ, IsTrue, IsFalse, sym, subst}
use Rattle.ad_bits.specs.Rows.{has}
use Rattle.ad_bits.proofs.Rows.{within_size}
use Rattle.ad_decomposition.specs.Affected.{meets_removed}
use Rattle.ad_decomposition.specs.Tables.{is_in_row_of}
use Rattle.ad_repair.specs.Changes.{change_of}
use Rattle.ad_repair.specs.Marks.{foreign_of}
use Rattle.ad_repair.proofs.MarkLemmas.{met, affected_met}
use Rattle.ad_repair.proofs.marks.is_affected.Goals as goal

pub returns : goal.returns
returns c = λ before after slots size are stay.
    let rows = c.args.rows.now in
    let kind = c.args.kind in
    let slot = c.args.slot in
    let removed = c.args.removed.now in
    let change = change_of before after removed c.args.added.now slots in
    let old : IsFalse (has c.args.added.now slot) = sym c.has.ensures ∙ c.if-has.false in
    let none : IsFalse (foreign_of c.args.foreign.now kind slot) = sym c.is_foreign_of.ensures ∙ c.if-is_foreign_of.false in
    let below : (k : ℕ) → IsTrue (change.removed k) → k < slots = (λ k t. subst (λ n. k < n) (sym size) (within_size removed k t)) in
    let found : c.has_some.result ≡ meets_removed change (is_in_row_of rows kind slot) = met change (is_in_row_of rows kind slot) c.has_some.result below c.has_some.ensures.some c.has_some.ensures.none in
    affected_met change rows c.args.foreign.now are kind slot c.has_some.result old (stay old) none found
