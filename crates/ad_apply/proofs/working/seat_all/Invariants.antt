-- The axioms so far are seated, and what had an entry has one.
use Rattle.ad_syntax_laws.specs.OntologyModule.{values}
use Rattle.ad_apply.specs.Places.{place_in}
use Rattle.ad_apply.specs.Working.{StayNamed}
use Rattle.ad_apply.proofs.WorkingLemmas.{Seated}
use Rattle.ad_apply.proofs.working.seat_all.Given as goal

abbrev pub invariant-loop-i : goal.invariant-loop-i
invariant-loop-i l = Seated (place_in l.index) (values l.old) l.i × StayNamed (place_in l.initial.index) (place_in l.index)
