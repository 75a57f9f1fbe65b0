use Rattle.std.proofs.Common.{◌≡◌, take, map}
use Rattle.std.specs.List.{AllByRecursion}
use Rattle.ad_command.specs.Command.{IsSeedEntity, seed_word}
use Rattle.ad_command.proofs.seed.seed_of.Given as goal

abbrev pub invariant-loop-word : goal.invariant-loop-word
invariant-loop-word l = record { words : map seed_word l.seed ≡ take l.word-index l.words; entities : AllByRecursion IsSeedEntity l.seed }
