use Rattle.std.proofs.Common.{◌≡◌, take}
use Rattle.ad_signature.proofs.kind_numbers.KindNumbers.fill.Given as goal

abbrev pub invariant-loop-i : goal.invariant-loop-i
invariant-loop-i l = l.self ≡ take l.i l.map.entries
