-- What was kept so far.
use Rattle.std.proofs.Common.{◌≡◌, ◌++◌, take}
use Rattle.ad_syntax_laws.specs.OntologyModule.{values}
use Rattle.ad_apply.specs.Places.{place_in, here_from}
use Rattle.ad_apply.proofs.working.keep.Given as goal

abbrev pub invariant-loop-i : goal.invariant-loop-i
invariant-loop-i l = values l.kept.items ≡ values l.initial.kept.items ++ here_from (place_in l.index) l.first (take l.i (values l.all))
