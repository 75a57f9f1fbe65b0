use Rattle.std.proofs.Common.{◌∙◌}
use Rattle.ad_terms.proofs.Taking.{facets_on}
use Rattle.ad_terms.proofs.ranges.facets.Goals as goal

pub facets-preserved : goal.facets-preserved
facets-preserved c = c.facets.invariant ∙ facets_on c.facets.arguments c.facet.new.arguments c.facets.all c.push.new.self c.in-Some.facet c.in-Some.ensures.found c.facet.ensures.behind c.in_ok-push-in-Some.ensures.ok
