use Rattle.std.proofs.Common.{◌≡◌, map}
use Rattle.std.specs.List.{range_with_len}
use Rattle.ad_gen.specs.Generated.{added, declaration}
use Rattle.ad_gen.proofs.additions.declarations.Given as goal

abbrev pub invariant-loop-number : goal.invariant-loop-number
invariant-loop-number l = l.batch ≡ map added (map declaration (range_with_len 0 l.number))
