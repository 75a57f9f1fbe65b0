-- The exit status of a session, and the counts of faults.
use Rattle.std.specs.Prelude.{◌≡◌, ℕ, ◌≤◌}
use Rattle.ad_io.specs.Flow.{Rose}
use Rattle.ad_items.specs.Items.{Ending, quit, closed, cut, too_long, spent}
use Rattle.ad_session.specs.Flows.{Flow}
use Rattle.ad_run.specs.declared.status.Status.{Status}
use Rattle.ad_run.specs.declared.status.Status.TheVariants.{ReadFault, WriteFault}

-- the exit status of a session whose input ends so, where nothing fails
abbrev pub code_at : Ending → ℕ
code_at quit = 0
code_at closed = 0
code_at cut = 3
code_at too_long = 3
code_at spent = 3

-- the counts of faults never fall, and rise at a read fault and at a write fault
pub record RunCause (a b : Flow) (status : Status) : Type 0 where
  pub read_later : a.read_faults ≤ b.read_faults
  pub write_later : a.write_faults ≤ b.write_faults
  pub read_fault : status ≡ ReadFault → Rose a.read_faults b.read_faults
  pub write_fault : status ≡ WriteFault → Rose a.write_faults b.write_faults
