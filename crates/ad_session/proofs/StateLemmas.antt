-- What a round does to a machine.
use Rattle.std.proofs.Common.{◌≡◌, ◌≤◌, ℕ, Option, None, Some, IfSome, Result, Ok, Err, IfOk, OnOk, IfErr, OnErr, IsOk, IsFalse, length, refl, sym, ◌∙◌, ap, subst}
use Rattle.ad_base.specs.declared.limits.Limits.{Limits}
use Rattle.ad_io.specs.Sink.{Puts, PutCause}
use Rattle.ad_items.specs.Items.{Bounds, bounds_of, Item}
use Rattle.ad_tree.specs.declared.edits.Op.{Op}
use Rattle.std.specs.Prelude.{List}
use Rattle.ad_edition.specs.Limit.{is_moved}
use Rattle.ad_edition.specs.State.{State, IsMachine, after_commit, first_passed, IsRefusalOf, receipt_after}
use Rattle.ad_edition.specs.declared.receipts.Receipt.{Receipt}
use Rattle.ad_edition.specs.declared.receipts.Refused.{Refused}
use Rattle.ad_core.specs.Sights.{sight_of, footing_of}
use Rattle.ad_reply.specs.Replies.{reply_bytes}
use Rattle.ad_session.specs.declared.ends.End.{End}
use Rattle.ad_session.specs.declared.ends.End.TheVariants as ends
use Rattle.ad_session.specs.declared.ends.Pause.TheVariants as pauses
use Rattle.ad_session.specs.Ends.{SessionIs}
use Rattle.ad_session.specs.Flows.{Flow}
use Rattle.ad_session.specs.Machines.{MachineAnswers}
use Rattle.ad_session.specs.Talks.{TalkIs, IsEdit}
use Rattle.ad_session.specs.Rounds.{RoundIs}
use Rattle.ad_session.specs.Turns.{outcome_reply, wrote_of, count_after}
use Rattle.ad_session.proofs.MachineLemmas.{talked_run, commit_accepted, commit_refused}
use Rattle.ad_session.proofs.RoundLemmas.{round_of_edit}

-- a machine before and after a talk
pub record Talked (old new : State) : Type 0 where
  pub before : IsMachine old
  pub after : IsMachine new
  pub footing : footing_of new ≡ footing_of old
  pub limits : new.limits ≡ old.limits

-- a round up to the end
pub round_ends : (limits : Limits) (n answered : ℕ) (end : End) (a b : Flow) (old new : State) → limits ≡ old.limits → Talked old new → TalkIs (bounds_of limits) limits.depth (footing_of old) (pauses.Ended end) n answered a b (sight_of old) (sight_of new) → RoundIs MachineAnswers (bounds_of old.limits) (Some end) n answered a b old new
round_ends limits n answered end a b old new of t talk =
    let so = subst (λ (l : Limits). TalkIs (bounds_of l) l.depth (footing_of old) (pauses.Ended end) n answered a b (sight_of old) (sight_of new)) of talk in
    record {
      items = so.items;
      replies = so.replies;
      items_are = so.items_are;
      run = talked_run old new so.items so.replies t.before t.after t.footing t.limits so.run;
      ends = so.pauses.0;
    }

-- what a commit does, whatever its answer
pub record Commits (machine : State) (session : ℕ) (ops : List Op) (expected : Option ℕ) (outcome : Result Receipt Refused) (new : State) : Type 0 where
  pub accepted : OnOk outcome (new ≡ after_commit machine session ops)
  pub receipt : IfOk outcome (λ receipt. receipt ≡ receipt_after machine ops)
  pub expected_so : IsOk outcome → IsFalse (is_moved expected (length machine.log))
  pub within : IsOk outcome → first_passed machine ops ≡ None
  pub refused : IfErr outcome (λ cause. IsRefusalOf machine expected ops cause)
  pub unchanged : OnErr outcome (new ≡ machine)

commit_answers : (machine : State) (bounds : Bounds) (i : Item) (ops : List Op) (expected : Option ℕ) (outcome : Result Receipt Refused) (new : State) → IsEdit bounds machine.limits.depth i ops expected → Commits machine machine.session ops expected outcome new → MachineAnswers machine i (outcome_reply outcome) new
commit_answers machine bounds i ops expected (Ok receipt) new edit c = commit_accepted machine edit.request i ops receipt new edit.asked edit.spelled (subst (λ e. IsFalse (is_moved e (length machine.log))) edit.expects (c.expected_so refl)) (c.within refl) c.receipt c.accepted
commit_answers machine bounds i ops expected (Err cause) new edit c = commit_refused machine edit.request i ops cause new edit.asked edit.spelled (subst (λ e. IsRefusalOf machine e ops cause) edit.expects c.refused) c.unchanged

-- a round up to an edit
pub round_edits : (limits : Limits) (n answered next : ℕ) (ops : List Op) (expected : Option ℕ) (outcome : Result Receipt Refused) (end : Option End) (a b c : Flow) (old machine new : State) → limits ≡ old.limits → old.limits.requests ≤ 4294967295 → Talked old machine
    → TalkIs (bounds_of limits) limits.depth (footing_of old) (pauses.Edit ops expected) n answered a b (sight_of old) (sight_of machine) → Commits machine machine.session ops expected outcome new
    → c.left ≡ b.left → a.write_faults ≤ b.write_faults → Puts b.written c.written (wrote_of end) (reply_bytes (outcome_reply outcome)) → PutCause b.write_faults c.write_faults (wrote_of end) → next ≡ count_after end answered → IfSome end (λ e. e ≡ ends.WriteFault)
    → RoundIs MachineAnswers (bounds_of old.limits) end n next a c old new
round_edits limits n answered next ops expected outcome end a b c old machine new of few t talk commits left later puts cause counted fault =
    let so = subst (λ (l : Limits). TalkIs (bounds_of l) l.depth (footing_of old) (pauses.Edit ops expected) n answered a b (sight_of old) (sight_of machine)) of talk in
    let pause = so.pauses.0 in
    let read = subst (λ (l : Limits). IsEdit (bounds_of old.limits) l.depth pause.item ops expected) (sym t.limits) pause.edit in
    round_of_edit MachineAnswers (bounds_of old.limits) old.limits.depth n next end a b c old machine new so.items so.replies ops expected (outcome_reply outcome) so.items_are
    (talked_run old machine so.items so.replies t.before t.after t.footing t.limits so.run)
    pause (commit_answers machine (bounds_of old.limits) pause.item ops expected outcome new read commits) left later puts cause few (counted ∙ ap (count_after end) so.pauses.1) fault

-- a session from this machine
pub session_from : (first given new : State) (end : End) (a b : Flow) → first ≡ given → SessionIs MachineAnswers (bounds_of first.limits) end a b first new → SessionIs MachineAnswers (bounds_of given.limits) end a b given new
session_from first given new end a b same session = subst (λ (m : State). SessionIs MachineAnswers (bounds_of m.limits) end a b m new) same session
