use Rattle.ad_lex.proofs.Sayings.{tokens_say, says_lexed}
use Rattle.ad_lex.proofs.laws.tokens_say.Goals as goal

pub returns : goal.returns
returns c = record { says = tokens_say; lexed = says_lexed }
