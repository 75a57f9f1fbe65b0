use Rattle.std.proofs.Common.{sym, ◌∙◌, subst, ap, drop, IsUtf8}
use Rattle.ad_lex.proofs.Meanings.{prefix_utf8, local_utf8}
use Rattle.ad_lex.proofs.token.Token.short.Goals as goal

pub as_text-requires : goal.as_text-requires
as_text-requires c =
    subst IsUtf8 (sym c.split_at.ensures.front)
    (prefix_utf8 _ _ (sym c.colon_in.ensures.value ∙ c.in-Some.is) c.bytes-bytes.ensures.utf8)

pub as_text-requires-in-Some : goal.as_text-requires-in-Some
as_text-requires-in-Some c =
    subst IsUtf8 (sym (c.split_at-in-Some.ensures.back ∙ ap (drop 1) c.split_at.ensures.back))
    (local_utf8 _ _ (sym c.colon_in.ensures.value ∙ c.in-Some.is) c.bytes-bytes.ensures.utf8)
