-- What a command writes of an ontology that it generates.
use Rattle.std.specs.Prelude.{◌≡◌, ℕ, List, [], Option, Result, Ok, Err}
use Rattle.ad_base.specs.declared.memory.Memory.{Memory}
use Rattle.ad_command.specs.Command.{Command, of_module, of_atoms, of_script, of_split, of_generate, of_summary}
use Rattle.ad_gen.specs.Generated.{generated}
use Rattle.ad_io.specs.Flow.{Gains}
use Rattle.ad_io.specs.Sink.{Puts}
use Rattle.ad_io.specs.declared.writes.Wrote.{Wrote}
use Rattle.ad_summary.specs.Summary.{IsSummaryOf}
use Rattle.ad_write.specs.Canonical.{canon_document}

-- the output of a command on the ontology that it generates; other commands generate none
abbrev pub IsGenerated : Command → List ℕ → Type 0
IsGenerated (of_module kind seed) output = ⊥
IsGenerated (of_atoms kind workers) output = ⊥
IsGenerated (of_script workers) output = ⊥
IsGenerated (of_split kind) output = ⊥
IsGenerated (of_generate size) output = output ≡ canon_document (generated size)
IsGenerated (of_summary size workers) output = IsSummaryOf (generated size) output

-- the command's whole output was written, or a front of it; or nothing, since memory is wanting
abbrev pub IsGiven : Command → Option (List ℕ) → Option (List ℕ) → Result Wrote Memory → Type 0
IsGiven command old new (Ok wrote) = (output : List ℕ) × IsGenerated command output × Puts old new wrote output
IsGiven command old new (Err memory) = Gains old new []
