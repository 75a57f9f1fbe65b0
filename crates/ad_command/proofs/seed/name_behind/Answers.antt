use Rattle.std.proofs.Common.{◌≡◌, List, ℕ, ap, ◌∙◌}
use Rattle.std.proofs.lemmas.Result.{IfOk-weaker}
use Rattle.ad_command.proofs.EntityLemmas.{cut_off}
use Rattle.ad_command.proofs.seed.name_behind.Goals as goal

pub returns : goal.returns
returns c = IfOk-weaker c.of.result _ _
    (λ (name : List ℕ) (is : name ≡ c.unwrap_or.result.now) tested. is ∙ ap (λ x. x.now) c.unwrap_or.ensures ∙ cut_off c.args.front.now c.args.word.now c.strip_prefix.result c.args.word c.strip_prefix.ensures.cases tested)
    c.of.ensures
