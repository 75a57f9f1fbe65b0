use Rattle.std.proofs.Common.{sym, subst, IsUtf8}
use Rattle.ad_lex.proofs.Meanings.{label_utf8}
use Rattle.ad_lex.proofs.token.Token.label.Goals as goal

pub as_text-requires : goal.as_text-requires
as_text-requires c = subst IsUtf8 (sym c.split_at.ensures.back) (label_utf8 _ _ c.requires.mark c.bytes.ensures.shape c.bytes.ensures.utf8)
