-- The row that the slot has.
use Rattle.std.proofs.Common.{◌≡◌, ◌∙◌, Bool, List, Some, None, Bor, IsTrue, refl, sym, subst, ap}
use Rattle.std.specs.Option.{option_map}
use Rattle.ad_bits.specs.Rows.{has}
use Rattle.ad_theory.proofs.Members.{not_both}
use Rattle.ad_tables.specs.Rows.{row_of}
use Rattle.ad_decomposition.specs.Tables.{is_in}
use Rattle.ad_repair.proofs.ForeignLemmas.{false_of}
use Rattle.ad_repair.proofs.marks.has_some.Goals as goal

pub returns-in-Some-clause-some : goal.returns-in-Some-clause-some
returns-in-Some-clause-some c = λ t.
    let there : row_of c.args.rows.now c.args.kind c.args.slot ≡ Some c.in-Some.row.now = sym c.row.ensures ∙ ap (option_map (λ (r : Bor (List Bool)). r.now)) c.in-Some.is in
    let m = c.meets.ensures.0 t in
    (m.0, subst (λ o. IsTrue (is_in o m.0)) (sym there) m.1, m.2)

pub returns-in-Some-clause-none : goal.returns-in-Some-clause-none
returns-in-Some-clause-none c = λ f k t.
    let there : row_of c.args.rows.now c.args.kind c.args.slot ≡ Some c.in-Some.row.now = sym c.row.ensures ∙ ap (option_map (λ (r : Bor (List Bool)). r.now)) c.in-Some.is in
    false_of (has c.args.slots.now k) (λ h. not_both (c.meets.ensures.1 (k, subst (λ o. IsTrue (is_in o k)) there t, h)) f)

pub returns-in-None-clause-none : goal.returns-in-None-clause-none
returns-in-None-clause-none c = λ f k t.
    let there : row_of c.args.rows.now c.args.kind c.args.slot ≡ None = sym c.row.ensures ∙ ap (option_map (λ (r : Bor (List Bool)). r.now)) c.in-None.is in
    absurd (not_both (subst (λ o. IsTrue (is_in o k)) there t) refl)
