use Rattle.std.proofs.Common.{◌≡◌, sym, ◌∙◌, subst, IsUtf8, IfOk}
use Rattle.ad_lex.proofs.Meanings.{value_utf8, plain_value}
use Rattle.ad_lex.proofs.meaning.string_word.Goals as goal

pub as_text-requires : goal.as_text-requires
as_text-requires c = subst IsUtf8 (sym (c.as_slice.ensures.value ∙ c.in_ok-value.ensures)) (value_utf8 c.args.inside.now c.requires)

pub returns-else-contains : goal.returns-else-contains
returns-else-contains c =
    let plain = plain_value c.args.inside.now (sym c.contains.ensures.value ∙ c.if-contains.false) in
    subst (λ xs. IfOk c.of-else-contains.result (λ value. value ≡ xs)) (c.as_text-else-contains.ensures ∙ sym plain) c.of-else-contains.ensures
