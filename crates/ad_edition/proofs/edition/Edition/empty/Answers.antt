-- A list that was just made has no axioms.
use Rattle.std.proofs.Common.{ap, ◌∙◌}
use Rattle.ad_syntax_laws.specs.OntologyModule.{values}
use Rattle.ad_edition.proofs.OntologyLemmas.{IsSound-empty}
use Rattle.ad_edition.proofs.edition.Edition.empty.Goals as goal

pub invariant_of-result : goal.invariant_of-result
invariant_of-result c =
    let none = c.in-Ok.ensures.axioms ∙ ap values c.new.ensures.items in
    (IsSound-empty c.args.limits _ none c.requires, record { slots = c.in-Ok.ensures.most; symbols = c.in-Ok.ensures.symbols }, c.in-Ok-empty_decomposition.ensures)
