use Rattle.ad_lex.proofs.Readings.{tokens_stand, tokens_follow}
use Rattle.ad_lex.proofs.laws.tokens_in_place.Goals as goal

pub returns : goal.returns
returns c = record { spans = tokens_stand; order = tokens_follow }
