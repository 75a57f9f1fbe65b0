use Rattle.std.proofs.Common.{sym, subst, IfErr}
use Rattle.ad_lex.specs.Lexemes.{lexemes}
use Rattle.ad_check.specs.Stops.{GoesOnBy}
use Rattle.ad_read.specs.Opened.{form_of}
use Rattle.ad_read.proofs.texts.opened.check.Goals as goal

pub returns-in-Document-clause-what : goal.returns-in-Document-clause-what
returns-in-Document-clause-what c = subst (λ whole. IfErr c.check_document.result (λ stop. GoesOnBy (form_of whole) (lexemes c.args.text.now c.args.tokens.now) stop.token stop.what)) (sym c.in-Document.is) c.check_document.ensures.what

pub returns-in-Edit-clause-what : goal.returns-in-Edit-clause-what
returns-in-Edit-clause-what c = subst (λ whole. IfErr c.check_edit.result (λ stop. GoesOnBy (form_of whole) (lexemes c.args.text.now c.args.tokens.now) stop.token stop.what)) (sym c.in-Edit.is) c.check_edit.ensures.what

pub returns-in-Single-clause-what : goal.returns-in-Single-clause-what
returns-in-Single-clause-what c = subst (λ whole. IfErr c.check_axiom.result (λ stop. GoesOnBy (form_of whole) (lexemes c.args.text.now c.args.tokens.now) stop.token stop.what)) (sym c.in-Single.is) c.check_axiom.ensures.what
