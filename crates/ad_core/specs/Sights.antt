-- What the session that looks sees of a machine, and what its look stands on.
use Rattle.std.specs.Prelude.{[], slice_set}
use Rattle.ad_edition.specs.Sight.{Sight, Footing}
use Rattle.ad_edition.specs.State.{State, entered_by}

-- the front of the log that it has entered; a look of a machine is told nothing and never fails
abbrev pub sight_of : State → Sight
sight_of machine = record { entered = entered_by machine machine.session; looks = machine.looks; told = []; lapses = 0 }

-- the session, the log, and what the other sessions have entered
abbrev pub footing_of : State → Footing
footing_of machine = Footing.machine machine.session machine.log (slice_set machine.entered machine.session 0)
