-- What a session over a machine has in common with every session, and what it has entered.
use Rattle.std.specs.Prelude.{List}
use Rattle.std.specs.List.{AllByRecursion}
use Rattle.ad_items.specs.Items.{Item}
use Rattle.ad_edition.specs.Log.{Logged, count_of}
use Rattle.ad_edition.specs.Sight.{IsFront}
use Rattle.ad_edition.specs.State.{State, IsMachine, ticket_of, entered_by, after_look}
use Rattle.ad_reply.specs.Replies.{Reply}
use Rattle.ad_session.specs.Answers.{Pass, pass, SessionRun}
use Rattle.ad_session.specs.Machines.{MachineRun}

-- The pass of the machine's session that looks: what it has entered, how often it has looked, its ticket, and how many
-- entries that has. No look of it failed. A machine tells its sessions no logs, so those that it is taken to be told
-- stand beside it.
abbrev pub pass_of : State → List (List Logged) → Pass
pass_of machine told =
    pass (record { entered = entered_by machine machine.session; looks = machine.looks; told = told; lapses = 0 }) (ticket_of machine.session) (count_of machine.log (ticket_of machine.session))

-- the logs begin that of the machine
abbrev pub AreFronts : State → List (List Logged) → Type 0
AreFronts machine told = AllByRecursion (λ log. IsFront log machine.log) told

-- a run over a machine is a run of a session, from the machine's own pass before to its own pass after, which has been
-- told these logs
pub record RunsAs (old new : State) (told : List (List Logged)) (items : List Item) (replies : List Reply) : Type 0 where
  pub told_then : List (List Logged)
  pub fronts : AreFronts new told_then
  pub run : SessionRun old.limits (pass_of old told) items replies (pass_of new told_then)

abbrev pub MachinesRunAsSessions : Type 0
MachinesRunAsSessions = (old new : State) (told : List (List Logged)) (items : List Item) (replies : List Reply) → IsMachine old → AreFronts old told → MachineRun old items replies new → RunsAs old new told items replies

-- what the session had entered begins what it has entered
abbrev pub EnteredGrows : State → State → Type 0
EnteredGrows old new = IsFront (entered_by old old.session) (entered_by new new.session)

abbrev pub EnteredAlwaysGrows : Type 0
EnteredAlwaysGrows = (old new : State) (items : List Item) (replies : List Reply) → IsMachine old → MachineRun old items replies new → EnteredGrows old new

-- and so does the log at each look
abbrev pub LooksStayEntered : Type 0
LooksStayEntered = (old new : State) (items : List Item) (replies : List Reply) → IsMachine old → MachineRun (after_look old) items replies new → IsFront old.log (entered_by new new.session)
