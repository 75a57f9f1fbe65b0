use Rattle.std.proofs.Common.{[], ◌∷◌, Ok, Err, ◌+◌, false, refl, sym, arith}
use Rattle.std.specs.Option.{is_some}
use Rattle.std.proofs.lemmas.Result.{err_from_is_err_and}
use Rattle.ad_lex.specs.Lexemes.{lexeme, lexemes}
use Rattle.ad_check.specs.Machine.{halt}
use Rattle.ad_check.specs.Reads.{Halts}
use Rattle.ad_check.specs.declared.items.Symbol.TheVariants as it
use Rattle.ad_check.specs.declared.items.Nonterminal.TheVariants as kind
use Rattle.ad_check.proofs.Readings.{reads_as, reads_then, reads_halt, reads_step, reads_skip, reads_skip_end, reads_over}
use Rattle.ad_check.proofs.Single.{body_same, filler_same, filler_name, any_stops, tail_other, reads_on, halts_at, leads_on, star_on, star_over, until_on, until_halts, until_over, later, count, count_back, all_read}
use Rattle.ad_check.proofs.check.+check.Goals as goal

pub check_body-returns-in_err-at-in-Some : goal.check_body-returns-in_err-at-in-Some
check_body-returns-in_err-at-in-Some n c =
    let ts = lexemes c.args.text.now c.args.tokens.now in
    let t = lexeme c.args.text.now c.in-Some.token in
    let p = err_from_is_err_and c.from_residual.result c.from_residual.ensures.1 in
    record { reads = rw (p.1, p.2) (reads_as ts c.args.from t it.Body (it.Star kind.Note ∷ it.Until kind.Axiom ∷ []) c.in-Some.ensures.1 (body_same t (sym c.if-is_import.ensures)) (Err c.in_err-at-in-Some.field-0.0) tt (reads_halt ts (it.Star kind.Note ∷ []) (it.Until kind.Axiom ∷ []) c.args.from c.in_err-at-in-Some.field-0.0 c.in_err-at-in-Some.ensures.reads)) }

pub check_body-returns-in_ok-at-in-Some : goal.check_body-returns-in_ok-at-in-Some
check_body-returns-in_ok-at-in-Some n c =
    let ts = lexemes c.args.text.now c.args.tokens.now in
    let t = lexeme c.args.text.now c.in-Some.token in
    record { reads = reads_as ts c.args.from t it.Body (it.Star kind.Note ∷ it.Until kind.Axiom ∷ []) c.in-Some.ensures.1 (body_same t (sym c.if-is_import.ensures)) c.check_until.result (later c.args.from c.in_ok-at-in-Some.at c.check_until.result c.in_ok-at-in-Some.ensures.reads.order c.check_until.ensures.on) (reads_then ts (it.Star kind.Note ∷ []) (it.Until kind.Axiom ∷ []) c.args.from c.in_ok-at-in-Some.at c.in_ok-at-in-Some.ensures.reads c.check_until.result c.check_until.ensures.reads) }

pub check_filler-returns-in_err-at-in-Some : goal.check_filler-returns-in_err-at-in-Some
check_filler-returns-in_err-at-in-Some n c =
    let ts = lexemes c.args.text.now c.args.tokens.now in
    let t = lexeme c.args.text.now c.in-Some.token in
    let p = err_from_is_err_and c.from_residual.result c.from_residual.ensures.1 in
    record { reads = rw (p.1, p.2) (reads_as ts c.args.from t it.Filler (it.One kind.Range ∷ it.Right ∷ []) c.in-Some.ensures.1 (filler_same t (sym c.if-is_name.ensures)) (Err c.in_err-at-in-Some.field-0.0) tt (reads_halt ts (it.One kind.Range ∷ []) (it.Right ∷ []) c.args.from c.in_err-at-in-Some.field-0.0 c.in_err-at-in-Some.ensures.reads)) }

pub check_filler-returns-then-is_name : goal.check_filler-returns-then-is_name
check_filler-returns-then-is_name n c =
    let ts = lexemes c.args.text.now c.args.tokens.now in
    let t = lexeme c.args.text.now c.in-Some.token in
    record { reads = reads_step ts c.args.from t it.Filler (it.End ∷ []) c.in-Some.ensures.1 (filler_name t (sym c.if-is_name.ensures)) c.check_end.result c.check_end.ensures.reads }

pub check_filler-returns-in_ok-at-in-Some : goal.check_filler-returns-in_ok-at-in-Some
check_filler-returns-in_ok-at-in-Some n c =
    let ts = lexemes c.args.text.now c.args.tokens.now in
    let t = lexeme c.args.text.now c.in-Some.token in
    record { reads = reads_as ts c.args.from t it.Filler (it.One kind.Range ∷ it.Right ∷ []) c.in-Some.ensures.1 (filler_same t (sym c.if-is_name.ensures)) c.check_sign.result (reads_on ts (it.Right ∷ []) c.args.from c.in_ok-at-in-Some.at c.check_sign.result c.in_ok-at-in-Some.ensures.on c.check_sign.ensures.reads) (reads_then ts (it.One kind.Range ∷ []) (it.Right ∷ []) c.args.from c.in_ok-at-in-Some.at c.in_ok-at-in-Some.ensures.reads c.check_sign.result c.check_sign.ensures.reads) }

pub check_item-returns-in-Any : goal.check_item-returns-in-Any
check_item-returns-in-Any n c =
    let ts = lexemes c.args.text.now c.args.tokens.now in
    let stops : Halts ts (it.Any ∷ []) c.args.from (halt c.args.from (is_some c.token_at.result)) = any_stops c.args.text.now c.args.tokens.now c.args.from c.token_at.result c.token_at.ensures in
    record { reads = rw (c.in-Any.is, c.is_some.ensures) stops }

pub check_items-returns-in_err-at : goal.check_items-returns-in_err-at
check_items-returns-in_err-at n c =
    let ts = lexemes c.args.text.now c.args.tokens.now in
    let p = err_from_is_err_and c.from_residual.result c.from_residual.ensures.1 in
    record { reads = rw (p.1, p.2) (halts_at ts c.args.items.now c.args.items.now c.loop-item.item-index c.loop-item.at c.args.from _ it.Left c.in_err-at.field-0.0 c.loop-item.invariant.leads c.loop-item-test.true refl c.in_err-at.ensures.reads) }

pub check_items-loop-item-preserved : goal.check_items-loop-item-preserved
check_items-loop-item-preserved n c =
    let ts = lexemes c.args.text.now c.args.tokens.now in
    record {
      order = omega (arith, c.loop-item.invariant.order, c.in_ok-at.ensures.reads.order);
      within = count c.args.text.now c.args.tokens.now c.in_ok-at.at c.in_ok-at.ensures.reads.within;
      leads = leads_on ts c.args.items.now c.args.items.now c.loop-item.item-index c.loop-item.at c.in_ok-at.at c.args.from _ it.Left c.loop-item.invariant.leads c.loop-item-test.true refl c.in_ok-at.ensures.reads;
    }

pub check_items-returns : goal.check_items-returns
check_items-returns n c =
    let ts = lexemes c.args.text.now c.args.tokens.now in
    record { reads = all_read ts c.args.items.now c.loop-item.item-index c.loop-item.at c.args.from c.loop-item.invariant.leads c.loop-item-test.false (count_back c.args.text.now c.args.tokens.now c.loop-item.at c.loop-item.invariant.within) }

pub check_star-loop-token-preserved : goal.check_star-loop-token-preserved
check_star-loop-token-preserved n c =
    let ts = lexemes c.args.text.now c.args.tokens.now in
    let t = lexeme c.args.text.now c.in-Some.token in
    record {
      order = omega (arith, c.loop-token.invariant.order, c.in_ok-at-in-Some-row.ensures.reads.order);
      within = count c.args.text.now c.args.tokens.now c.in_ok-at-in-Some-row.at c.in_ok-at-in-Some-row.ensures.reads.within;
      leads = λ result rest. c.loop-token.invariant.leads result (star_on ts c.loop-token.at c.in_ok-at-in-Some-row.at t c.args.kind c.row.result c.in-Some-row.items c.in-Some.ensures.1 c.row.ensures c.in-Some-row.is c.in_ok-at-in-Some-row.ensures.reads result rest);
    }

pub check_star-returns-in-None : goal.check_star-returns-in-None
check_star-returns-in-None n c =
    let ts = lexemes c.args.text.now c.args.tokens.now in
    let t = lexeme c.args.text.now c.in-Some.token in
    record { reads = c.loop-token.invariant.leads (Ok c.loop-token.at) (star_over ts c.loop-token.at t c.args.kind c.row.result c.in-Some.ensures.1 c.row.ensures c.in-None.is) }

pub check_star-returns : goal.check_star-returns
check_star-returns n c =
    let ts = lexemes c.args.text.now c.args.tokens.now in
    record { reads = c.loop-token.invariant.leads (Ok c.loop-token.at) (reads_skip_end ts c.loop-token.at (it.Star c.args.kind) c.in_default.ensures refl) }

pub check_tail-returns-in_default : goal.check_tail-returns-in_default
check_tail-returns-in_default n c =
    let ts = lexemes c.args.text.now c.args.tokens.now in
    let t = lexeme c.args.text.now c.in-Some.token in
    record { reads = reads_skip ts c.args.from t it.Tail c.in-Some.ensures.1 refl (λ w. tail_other c.in-Some.token.mark _ c.in_default.not-Carets c.in_default.not-Lang) }

pub check_until-returns-then-is_sign-clause-reads : goal.check_until-returns-then-is_sign-clause-reads
check_until-returns-then-is_sign-clause-reads n c =
    let ts = lexemes c.args.text.now c.args.tokens.now in
    let t = lexeme c.args.text.now c.in-Some.token in
    c.loop-token.invariant.leads (Ok (c.loop-token.at + 1)) (until_over ts c.loop-token.at t c.args.kind c.in-Some.ensures.1 (c.if-is_sign.ensures false))

pub check_until-returns-in_err-at-clause-reads : goal.check_until-returns-in_err-at-clause-reads
check_until-returns-in_err-at-clause-reads n c =
    let ts = lexemes c.args.text.now c.args.tokens.now in
    let t = lexeme c.args.text.now c.in-Some.token in
    let p = err_from_is_err_and c.from_residual.result c.from_residual.ensures.1 in
    rw (p.1, p.2) (c.loop-token.invariant.leads (Err c.in_err-at.field-0.0) (until_halts ts c.loop-token.at t c.args.kind c.in_err-at.field-0.0 c.in-Some.ensures.1 (c.if-is_sign.ensures false) c.in_err-at.ensures.reads))

pub check_until-loop-token-preserved : goal.check_until-loop-token-preserved
check_until-loop-token-preserved n c =
    let ts = lexemes c.args.text.now c.args.tokens.now in
    let t = lexeme c.args.text.now c.in-Some.token in
    record {
      order = omega (arith, c.loop-token.invariant.order, c.in_ok-at.ensures.reads.order);
      within = count c.args.text.now c.args.tokens.now c.in_ok-at.at c.in_ok-at.ensures.reads.within;
      leads = λ result rest. c.loop-token.invariant.leads result (until_on ts c.loop-token.at c.in_ok-at.at t c.args.kind c.in-Some.ensures.1 (c.if-is_sign.ensures false) c.in_ok-at.ensures.on c.in_ok-at.ensures.reads result rest);
    }

pub check_until-returns-clause-reads : goal.check_until-returns-clause-reads
check_until-returns-clause-reads n c =
    let ts = lexemes c.args.text.now c.args.tokens.now in
    c.loop-token.invariant.leads (Err (halt c.loop-token.at false)) (reads_over ts c.loop-token.at (it.Until c.args.kind) c.in_default.ensures refl)
