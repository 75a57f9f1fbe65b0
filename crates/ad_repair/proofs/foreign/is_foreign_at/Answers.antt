-- The row that the slot has is the row of its live axiom.
use Rattle.std.proofs.Common.{◌≡◌, ◌∙◌, ℕ, Bool, List, Some, None, Bor, not, IsTrue, sym, subst, ap}
use Rattle.std.specs.Option.{option_map}
use Rattle.ad_bits.specs.Rows.{has}
use Rattle.ad_theory.proofs.Members.{and_left}
use Rattle.ad_tables.specs.Rows.{row_of}
use Rattle.ad_decomposition.specs.Affected.{has_foreign}
use Rattle.ad_decomposition.specs.Tables.{is_in}
use Rattle.ad_repair.specs.Changes.{theory_of, change_of, kind_of_side}
use Rattle.ad_repair.proofs.ListLemmas.{some_same}
use Rattle.ad_repair.proofs.foreign.is_foreign_at.Goals as goal

pub returns-in-Some-clause-answer : goal.returns-in-Some-clause-answer
returns-in-Some-clause-answer g c = λ before removed added slots size is rows stay.
    let u = c.args.new.now in
    let change = change_of before (theory_of (g.U.Universe.symbols_of u) (g.U.Universe.is_local u) (g.U.Universe.is_live u)) removed added slots in
    let kind = kind_of_side c.args.side in
    let row : List Bool = c.in-Some.row.now in
    let there : row_of c.args.rows.now kind c.args.slot ≡ Some row =
    sym (ap (λ k. row_of c.args.rows.now k c.args.slot) c.kind_of.ensures) ∙ sym c.row.ensures ∙ ap (option_map (λ (r : Bor (List Bool)). r.now)) c.in-Some.is in
    let h = rows kind c.args.slot (and_left (before.live c.args.slot) (not (has removed c.args.slot)) stay) in
    let same : h.0 ≡ row = some_same (sym h.1 ∙ there) in
    c.is_foreign.ensures.answer before removed added slots size is stay (subst (λ r. (k : ℕ) → IsTrue (has r k) → IsTrue (before.live k)) same h.2)
    ∙ ap (λ o. has_foreign change c.args.side c.args.slot (is_in o)) (sym there)

pub returns-in-None-clause-answer : goal.returns-in-None-clause-answer
returns-in-None-clause-answer g c = λ before removed added slots size is rows stay.
    let kind = kind_of_side c.args.side in
    let h = rows kind c.args.slot (and_left (before.live c.args.slot) (not (has removed c.args.slot)) stay) in
    let clash : None ≡ Some h.0 =
    sym (sym (ap (λ k. row_of c.args.rows.now k c.args.slot) c.kind_of.ensures) ∙ sym c.row.ensures ∙ ap (option_map (λ (r : Bor (List Bool)). r.now)) c.in-None.is) ∙ h.1 in
    absurd (cc)
