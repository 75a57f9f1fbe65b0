use Rattle.std.proofs.Common.{ap, ◌∙◌}
use Rattle.std.proofs.lemmas.Result.{err_from_is_err_and}
use Rattle.ad_entity.specs.Entities.{has_entity}
use Rattle.ad_locality.specs.Signature.{in_signature}
use Rattle.ad_flat.proofs.AddingLemmas.{refused_so}
use Rattle.ad_flat.proofs.adding.add.Goals as goal

pub returns-in_err-enter_all-clause-refused : goal.returns-in_err-enter_all-clause-refused
returns-in_err-enter_all-clause-refused c =
    let p = err_from_is_err_and c.from_residual.result c.from_residual.ensures.1 in
    rw (p.1, p.2) (refused_so (has_entity c.entities-2.result.now) (in_signature c.args.noted.now.axiom)
    (λ e. ap (λ es. has_entity es e) c.entities-2.ensures ∙ c.in-Ok.ensures.members e)
    c.args.symbols.now.limit c.enter_all.new.symbols.names c.in_err-enter_all.field-0.0 c.in_err-enter_all.ensures.refused)
