-- The events of a machine: an edit of a session, and a session's entering of the whole log.
use Rattle.std.specs.Prelude.{ℕ, ◌<◌, Bool, true, false, List, [], ◌∷◌, Option, None, Some, length, replicate, slice_set}
use Rattle.ad_base.specs.declared.limits.Limits.{Limits}
use Rattle.ad_tree.specs.declared.edits.Op.{Op}
use Rattle.ad_edition.specs.Limit.{Passed, is_moved}
use Rattle.ad_edition.specs.Edition.{Limited, first_of_all, next_edition, passed_by}
use Rattle.ad_edition.specs.State.{State, at_first, after_commit, after_enter, first_passed}
use Rattle.ad_edition.specs.Editions.{AreEditionsOf}

pub data Event : Type 0 where
  commits : (session : ℕ) (batch : List Op) (expected : Option ℕ) → Event
  enters : (session : ℕ) → Event

-- both may come at any time, of any session
abbrev pub IsEnabled : State → Event → Type 0
IsEnabled machine (Event.commits session batch expected) = session < length machine.entered
IsEnabled machine (Event.enters session) = session < length machine.entered

-- what was there stays where another edition was expected, or a limit is passed
abbrev pub unless_hindered : {X : Type 0} → Bool → Option Passed → X → X → X
unless_hindered true first old new = old
unless_hindered false None old new = new
unless_hindered false (Some passed) old new = old

abbrev pub after : State → Event → State
after machine (Event.commits session batch expected) = unless_hindered (is_moved expected (length machine.log)) (first_passed machine batch) machine (after_commit machine session batch)
after machine (Event.enters session) = after_enter machine session

abbrev pub after_all : State → List Event → State
after_all machine [] = machine
after_all machine (event ∷ events) = after_all (after machine event) events

-- each event is enabled when its turn comes
abbrev pub AreEnabled : State → List Event → Type 0
AreEnabled machine [] = Unit {0}
AreEnabled machine (event ∷ events) = IsEnabled machine event × AreEnabled (after machine event) events

-- the newest edition, and for each session the one that it has entered
pub record Editions : Type 0 where
  pub newest : Limited
  pub seen : List Limited

-- The editions, each made of the one before: an edit applies its batch to the newest one, and a session that enters
-- takes the newest one.
abbrev pub next_editions : Editions → Event → Editions
next_editions editions (Event.commits session batch expected) = unless_hindered (is_moved expected editions.newest.shown.number) (passed_by editions.newest batch) editions (record editions { newest = next_edition editions.newest batch })
next_editions editions (Event.enters session) = record editions { seen = slice_set editions.seen session editions.newest }

abbrev pub all_editions : Editions → List Event → Editions
all_editions editions [] = editions
all_editions editions (event ∷ events) = all_editions (next_editions editions event) events

abbrev pub first_editions : Limits → ℕ → Editions
first_editions limits sessions = record { newest = first_of_all limits; seen = replicate sessions (first_of_all limits) }

abbrev pub Follow : State → Editions → Type 0
Follow machine editions = AreEditionsOf machine.limits machine.log machine.entered editions.newest editions.seen

-- After every list of enabled events the newest edition is that of the whole log, and each session's is that of a
-- front of it.
abbrev pub EditionsFollowTheLog : Type 0
EditionsFollowTheLog = (limits : Limits) (sessions : ℕ) (events : List Event) → AreEnabled (at_first limits sessions) events → Follow (after_all (at_first limits sessions) events) (all_editions (first_editions limits sessions) events)
