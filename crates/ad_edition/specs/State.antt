-- A machine as plain data: what each call does to it, and why it refuses an edit.
use Rattle.std.specs.Prelude.{ℕ, ◌<◌, ◌≤◌, ◌+◌, List, [], ◌∷◌, ◌++◌, Option, length, take, replicate, slice_index, slice_set, refl}
use Rattle.std.specs.Coded.{Coded, code_by, coded×, coded_ℕ, coded_list}
use Rattle.ad_base.specs.contracts.limits.Limits as limits_row
use Rattle.ad_base.specs.declared.limits.Limits.{Limits}
use Rattle.ad_io.specs.Flow.{raised}
use Rattle.ad_tree.specs.declared.edits.Op.{Op}
use Rattle.ad_apply.specs.Apply.{counts_of}
use Rattle.ad_edition.specs.Log.{Logged, logged_code, IsLog, next_entry, replay, defined_by}
use Rattle.ad_edition.specs.Limit.{Passed}
use Rattle.ad_edition.specs.Edition.{Limited, IsRefusal, passed_by, receipt_of}
use Rattle.ad_edition.specs.declared.receipts.Receipt.{Receipt}
use Rattle.ad_edition.specs.declared.receipts.Refused.{Refused}

-- The log of accepted edits; for each session how many entries of it the session has entered; the limits that every
-- edition keeps to; and the session that looks, with how often it has looked.
pub record State : Type 0 where
  pub log : List Logged
  pub entered : List ℕ
  pub limits : Limits
  pub session : ℕ
  pub looks : ℕ

-- a machine is told apart by these
abbrev pub state_code : Coded State
state_code =
    code_by (List Logged × (List ℕ × (Limits × (ℕ × ℕ)))) (coded× (coded_list logged_code) (coded× (coded_list coded_ℕ) (coded× limits_row.the_row.coded (coded× coded_ℕ coded_ℕ)))) (λ m. (m.log, (m.entered, (m.limits, (m.session, m.looks))))) (λ p. record { log = p.0; entered = p.1.0; limits = p.1.1.0; session = p.1.1.1.0; looks = p.1.1.1.1 }) (λ _. refl)

-- What holds of every machine: its log is one, each session has entered a front of it, there are 1 to 8 sessions, and
-- one of them looks.
pub record IsMachine (machine : State) : Type 0 where
  pub is_log : IsLog machine.log
  pub within : (session : ℕ) → session < length machine.entered → slice_index machine.entered session ≤ length machine.log
  pub some : 1 ≤ length machine.entered
  pub few : length machine.entered ≤ 8
  pub looking : machine.session < length machine.entered

-- a machine with so many sessions, before the first event
abbrev pub at_first : Limits → ℕ → State
at_first limits sessions = record { log = []; entered = replicate sessions 0; limits = limits; session = 0; looks = 0 }

-- the newest edition, that of the whole log
abbrev pub newest_of : State → Limited
newest_of machine = record { shown = defined_by machine.log; limits = machine.limits }

-- the front of the log that a session has entered
abbrev pub entered_by : State → ℕ → List Logged
entered_by machine session = take (slice_index machine.entered session) machine.log

-- a session's ticket is its number plus one
abbrev pub ticket_of : ℕ → ℕ
ticket_of session = session + 1

-- the machine after an accepted edit: its log has the next entry of the session's ticket
abbrev pub after_commit : State → ℕ → List Op → State
after_commit machine session batch = record machine { log = machine.log ++ next_entry machine.log (ticket_of session) batch ∷ [] }

-- the machine after a session has entered the whole log
abbrev pub after_enter : State → ℕ → State
after_enter machine session = record machine { entered = slice_set machine.entered session (length machine.log) }

-- the machine after the session that looks has looked once more, as far as that is counted
abbrev pub after_look : State → State
after_look machine = record (after_enter machine machine.session) { looks = raised machine.looks }

-- the machine with another session that looks, and hasn't looked yet
abbrev pub after_attend : State → ℕ → State
after_attend machine session = record machine { session = session; looks = 0 }

-- the first limit that a batch passes on the newest edition
abbrev pub first_passed : State → List Op → Option Passed
first_passed machine batch = passed_by (newest_of machine) batch

-- why a batch that may expect an edition is refused: another was expected than the newest, or it passes a limit on that, the
-- first of them, or memory is wanting
abbrev pub IsRefusalOf : State → Option ℕ → List Op → Refused → Type 0
IsRefusalOf machine expected batch cause = IsRefusal (newest_of machine) expected batch cause

-- the receipt of an accepted edit: the new edition's number, and the four counts on the edition before
abbrev pub receipt_after : State → List Op → Receipt
receipt_after machine batch = receipt_of (length machine.log + 1) (counts_of (replay machine.log) batch)
