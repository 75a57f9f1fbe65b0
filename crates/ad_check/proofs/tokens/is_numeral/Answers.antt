use Rattle.std.proofs.Common.{◌≢◌, ◌∙◌, subst, List, ℕ}
use Rattle.std.specs.Prelude.{slice_index}
use Rattle.ad_check.proofs.Numerals.{parsed, without_plus}
use Rattle.ad_check.proofs.tokens.is_numeral.Goals as goal

pub returns-else-bytes-eq43 : goal.returns-else-bytes-eq43
returns-else-bytes-eq43 c = c.is_ok.ensures.value ∙ parsed c.args.word.now c.parse.result c.parse.ensures.value.0 (without_plus c.args.word.now (subst (λ (bs : List ℕ). slice_index bs 0 ≢ 43) c.as_bytes-bytes.ensures.value c.if-bytes-eq43.false))
