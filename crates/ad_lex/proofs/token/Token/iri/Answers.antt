use Rattle.ad_lex.proofs.Meanings.{iri_utf8}
use Rattle.ad_lex.proofs.token.Token.iri.Goals as goal

pub as_text-requires : goal.as_text-requires
as_text-requires c = iri_utf8 _ _ c.requires.mark c.bytes-bytes.ensures.shape c.bytes-bytes.ensures.utf8
