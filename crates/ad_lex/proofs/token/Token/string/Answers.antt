use Rattle.ad_lex.proofs.Meanings.{text_utf8}
use Rattle.ad_lex.proofs.token.Token.string.Goals as goal

pub string_word-requires : goal.string_word-requires
string_word-requires c = text_utf8 _ _ c.requires.mark c.bytes-bytes.ensures.shape c.bytes-bytes.ensures.utf8
