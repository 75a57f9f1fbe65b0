-- What was taken, with what is left to take, is all.
use Rattle.std.proofs.Common.{◌≡◌, drop}
use Rattle.std.specs.List.{fold, flat_map}
use Rattle.ad_locality.specs.Signature.{of_individual}
use Rattle.ad_names.proofs.lists.take_individuals.Given as goal

abbrev pub invariant-loop-individual : goal.invariant-loop-individual
invariant-loop-individual g l = fold g.C.Collect.after l.into (flat_map of_individual (drop l.individual-index l.individuals)) ≡ fold g.C.Collect.after l.initial.into (flat_map of_individual l.individuals)
