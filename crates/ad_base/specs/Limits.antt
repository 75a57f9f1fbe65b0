-- The standard limits, and what each call that takes limits asks of them.
use Rattle.std.specs.Prelude.{◌≤◌}
use Rattle.ad_base.specs.declared.limits.Limits.{Limits}

-- the limits of the program
abbrev pub standard : Limits
standard = record { axioms = 20480; entities = 65536; bytes = 33554432; depth = 128; editions = 4294967295; payload = 33554432; requests = 4294967295 }

-- no limit is above its standard
pub record AreWithinStandard (limits : Limits) : Type 0 where
  pub axioms : limits.axioms ≤ 20480
  pub entities : limits.entities ≤ 65536
  pub bytes : limits.bytes ≤ 33554432
  pub depth : limits.depth ≤ 128
  pub editions : limits.editions ≤ 4294967295
  pub payload : limits.payload ≤ 33554432
  pub requests : limits.requests ≤ 4294967295
