use Rattle.ad_check.proofs.Checked.{names_token}
use Rattle.ad_check.proofs.texts.stop_of.Goals as goal

pub returns-then-halt-clause-what : goal.returns-then-halt-clause-what
returns-then-halt-clause-what c = let h = c.addition.ensures in names_token c.args.text.now c.args.tokens.now c.args.halt c.addition.result _ (c.requires.wide c.if-halt.true) c.if-halt.true h
