use Rattle.std.proofs.Common.{◌∷◌, []}
use Rattle.ad_lex.specs.Lexemes.{lexemes}
use Rattle.ad_check.specs.declared.items.Symbol.TheVariants as it
use Rattle.ad_check.proofs.Checked.{phrase_ok, phrase_err, phrase_within, phrase_token}
use Rattle.ad_check.proofs.texts.longest.Goals as goal

pub stop_of-requires-clause-token : goal.stop_of-requires-clause-token
stop_of-requires-clause-token c = phrase_within c.args.text.now c.args.tokens.now (it.One c.args.kind ∷ []) c.args.from c.in-Err.halt c.requires.from c.in-Err.ensures.reads

pub stop_of-requires-clause-wide : goal.stop_of-requires-clause-wide
stop_of-requires-clause-wide c = phrase_token c.args.text.now c.args.tokens.now (it.One c.args.kind ∷ []) c.args.from c.in-Err.halt c.requires.from c.in-Err.ensures.reads

pub returns-in-Ok : goal.returns-in-Ok
returns-in-Ok c = λ f is. phrase_ok f (lexemes c.args.text.now c.args.tokens.now) (it.One c.args.kind ∷ []) c.args.from c.in-Ok.to is c.in-Ok.ensures.reads

pub returns-in-Err : goal.returns-in-Err
returns-in-Err c = λ f is. phrase_err f (lexemes c.args.text.now c.args.tokens.now) (it.One c.args.kind ∷ []) c.args.from c.in-Err.halt c.stop_of.result is c.in-Err.ensures.reads c.stop_of.ensures.token c.stop_of.ensures.what
