use Rattle.std.proofs.Common.{◌≡◌, ◌++◌, length}
use Rattle.std.specs.Option.{option_map}
use Rattle.ad_terms.specs.Items.{as_entity}
use Rattle.ad_terms.specs.Shapes.{each}
use Rattle.ad_build.proofs.texts.entities.Given as goal

abbrev pub invariant-entities : goal.invariant-entities
invariant-entities l = each as_entity l.initial.items ≡ option_map (λ others. l.seed ++ others) (each as_entity l.items)

abbrev pub decreases-entities : goal.decreases-entities
decreases-entities l = length l.items
