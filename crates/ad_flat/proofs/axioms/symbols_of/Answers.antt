use Rattle.std.proofs.Common.{ap, ◌∙◌}
use Rattle.ad_entity.specs.Entities.{has_entity}
use Rattle.ad_locality.specs.Signature.{occurrences}
use Rattle.ad_flat.proofs.NumberLemmas.{same_numbers, found_more}
use Rattle.ad_flat.proofs.axioms.symbols_of.Goals as goal

pub returns-clause-members : goal.returns-clause-members
returns-clause-members g c =
    found_more c.numbers_of.result _ _
    (λ list is n. is n ∙ same_numbers (g.N.Naming.number_of c.args.names.now) c.entities-2.result.now (occurrences c.args.noted.now.axiom)
    (λ e. ap (λ es. has_entity es e) c.entities-2.ensures ∙ c.in_ok-entities.ensures.members e) n) c.numbers_of.ensures.members
