use Rattle.ad_lex.proofs.Sayings.{iri_says, string_says}
use Rattle.ad_lex.proofs.Writing.{end_says, blank_says, token_says}
use Rattle.ad_lex.proofs.laws.written_is_read.Goals as goal

pub returns : goal.returns
returns c = record { end = end_says; blank = blank_says; token = token_says; iri = iri_says; string = string_says }
