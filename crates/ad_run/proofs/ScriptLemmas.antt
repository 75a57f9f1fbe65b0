-- The exit status of a session is that of the end of its input.
use Rattle.std.proofs.Common.{◌≡◌, ◌⊎◌, inl, inr, ℕ, ◌+◌, List, ◌++◌, length, refl, sym, ◌∙◌, ap, subst, append_assoc, arith}
use Rattle.std.specs.Prelude.{Option, None, Some, IsSome}
use Rattle.ad_io.specs.Flow.{Loses, NotRisen}
use Rattle.ad_edition.specs.State.{State, at_first}
use Rattle.ad_items.specs.Items.{Bounds, bounds_of, Item, Items, AreItems, Ending, quit, closed, cut, too_long, spent, Closes, InTime, Split, split}
use Rattle.ad_items.proofs.Splitting.{splits_once}
use Rattle.ad_reply.specs.Replies.{Reply}
use Rattle.ad_session.specs.Flows.{Flow}
use Rattle.ad_session.specs.Machines.{MachineAnswers}
use Rattle.ad_session.specs.Ends.{EndsAs, SessionIs, items_bytes}
use Rattle.ad_session.specs.declared.ends.End.{End}
use Rattle.ad_session.specs.declared.ends.End.TheVariants as ends
use Rattle.ad_run.specs.declared.status.Status.{Status}
use Rattle.ad_run.specs.declared.status.Status.TheVariants.{Done, Usage, Refused, Cut, TooLong, Spent, ReadFault, WriteFault, Memory}
use Rattle.ad_run.specs.Statuses.{code_of}
use Rattle.ad_command.specs.Asks.{IsSomeScript}
use Rattle.ad_command.specs.Command.{Command, IsCommand, reads, of_script}
use Rattle.ad_command.proofs.CommandLemmas.{one_input}
use Rattle.ad_base.specs.Limits.{standard}
use Rattle.ad_run.specs.Ends.{EndsOn, Ran, EndsSo, ScriptEnds, RunsSession, IsClosing}
use Rattle.ad_run.specs.Runs.{RunCause, code_at}

-- what was taken and what is left are the whole input
split_of : (bounds : Bounds) (ending : Ending) (a b : Flow) (items : List Item) (replies : List Reply) (text : List ℕ) (left : Option (List ℕ)) → a.left ≡ Some text → b.left ≡ left → IsSome left
    → AreItems bounds 0 items → (e : EndsAs bounds ending (length items) a b items replies) → (rest : List ℕ) × Items bounds 0 text items ending e.taken rest
split_of bounds ending a b items replies text None told is some are e = absurd (cc)
split_of bounds ending a b items replies text (Some rest) told is some are e = (
  rest,
  record {
    items_are = are;
    closes = subst (Closes bounds ending e.taken) is e.closes;
    in_time = subst (InTime bounds ending) (let whole : length items ≡ 0 + length items = omega arith in whole) e.in_time;
    whole = (let lost : Loses (Some text) (Some rest) (items_bytes items ++ e.taken) = subst (λ l. Loses l (Some rest) (items_bytes items ++ e.taken)) told (subst (λ l. Loses a.left l (items_bytes items ++ e.taken)) is e.lost) in lost ∙ append_assoc (items_bytes items) e.taken rest);
  },
)

-- it was broken off: the input was cut or too long, or had as many requests as a session may have
abbrev IsBreak : End → Type 0
IsBreak ends.Quit = ⊥
IsBreak ends.Closed = ⊥
IsBreak ends.Cut = Unit {0}
IsBreak ends.TooLong = Unit {0}
IsBreak ends.Spent = Unit {0}
IsBreak ends.ReadFault = ⊥
IsBreak ends.WriteFault = ⊥

as_session : (words : List (List ℕ)) (a b : Flow) (command : Command) (status : Status) → IsSomeScript words → IsCommand words command → EndsOn (reads command) command a b status → ScriptEnds a b status
as_session words a b command status some is h = subst (λ input. EndsOn input command a b status) (one_input words command (of_script some.workers) is some.commanded) h

module _ (words : List (List ℕ)) (a b : Flow) (text : List ℕ) (told : a.left ≡ Some text) (tells : IsSome b.left) (s : Split) (is : Items (bounds_of standard) 0 text s.items s.ending s.taken s.left) where
  ending_is : (ending : Ending) (items : List Item) (replies : List Reply) → AreItems (bounds_of standard) 0 items → EndsAs (bounds_of standard) ending (length items) a b items replies → ending ≡ s.ending
  ending_is ending items replies are e =
      let found = split_of (bounds_of standard) ending a b items replies text b.left told refl tells are e in
      ap (λ x. x.ending) (splits_once (bounds_of standard) 0 text (split items ending e.taken found.0) s found.1 is)

  closes : (machine : State) (end : End) → IsClosing end → SessionIs MachineAnswers (bounds_of standard) end a b (at_first standard 1) machine → 0 ≡ code_at s.ending
  closes machine ends.Quit fits h = ap code_at (ending_is quit h.items h.replies h.items_are h.ending)
  closes machine ends.Closed fits h = ap code_at (ending_is closed h.items h.replies h.items_are h.ending)
  closes machine ends.Cut fits h = absurd fits
  closes machine ends.TooLong fits h = absurd fits
  closes machine ends.Spent fits h = absurd fits
  closes machine ends.ReadFault fits h = absurd fits
  closes machine ends.WriteFault fits h = absurd fits

  breaks : (machine : State) (end : End) → IsBreak end → SessionIs MachineAnswers (bounds_of standard) end a b (at_first standard 1) machine → 3 ≡ code_at s.ending
  breaks machine ends.Quit fits h = absurd fits
  breaks machine ends.Closed fits h = absurd fits
  breaks machine ends.Cut fits h = ap code_at (ending_is cut h.items h.replies h.items_are h.ending)
  breaks machine ends.TooLong fits h = ap code_at (ending_is too_long h.items h.replies h.items_are h.ending)
  breaks machine ends.Spent fits h = ap code_at (ending_is spent h.items h.replies h.items_are h.ending)
  breaks machine ends.ReadFault fits h = absurd fits
  breaks machine ends.WriteFault fits h = absurd fits

  -- words of a session ran one
  on_session : (status : Status) → IsSomeScript words → Ran words a b status → ScriptEnds a b status
  on_session status some ran = as_session words a b ran.command status some ran.commanded ran.ran

  broken : (end : End) → IsBreak end → RunsSession (λ e. e ≡ end) a b → 3 ≡ code_at s.ending
  broken end is h = breaks h.machine h.end (subst IsBreak (sym h.fits) is) h.session

  -- where nothing fails, the status is that of the end
  pub session_code : (status : Status) → EndsSo words a b status → RunCause a b status → IsSomeScript words → NotRisen a.read_faults b.read_faults → NotRisen a.write_faults b.write_faults
      → (code_of status ≡ code_at s.ending) ⊎ (code_of status ≡ 6)
  session_code Done ran cause some reads writes = (let h = on_session Done some ran in inl (closes h.machine h.end h.fits h.session))
  session_code Usage ran cause some reads writes = absurd (ran (of_script some.workers) some.commanded)
  session_code (Refused refusal) ran cause some reads writes = absurd (on_session (Refused refusal) some ran)
  session_code Cut ran cause some reads writes = inl (broken ends.Cut tt (on_session Cut some ran))
  session_code TooLong ran cause some reads writes = inl (broken ends.TooLong tt (on_session TooLong some ran))
  session_code Spent ran cause some reads writes = inl (broken ends.Spent tt (on_session Spent some ran))
  session_code ReadFault ran cause some reads writes = absurd (reads (cause.read_fault refl))
  session_code WriteFault ran cause some reads writes = absurd (writes (cause.write_fault refl))
  session_code Memory ran cause some reads writes = inr refl
