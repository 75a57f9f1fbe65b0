-- The editions of a machine: the newest one, and for each session the one that it has entered.
use Rattle.std.specs.Prelude.{◌≡◌, ℕ, ◌<◌, ◌≤◌, List, length, take, slice_index, slice_index_or}
use Rattle.ad_base.specs.declared.limits.Limits.{Limits}
use Rattle.ad_edition.specs.Log.{Logged, IsLog}
use Rattle.ad_edition.specs.Edition.{Limited, IsEditionOf}

-- The log is one. The newest edition is that of the whole log, and each session's is that of the front of it that the
-- session has entered.
pub record AreEditionsOf (limits : Limits) (log : List Logged) (entered : List ℕ) (newest : Limited) (seen : List Limited) : Type 0 where
  pub is_log : IsLog log
  pub newest_is : IsEditionOf limits log newest
  pub sessions : length seen ≡ length entered
  pub within : (session : ℕ) → session < length entered → slice_index entered session ≤ length log
  pub seen_is : (session : ℕ) (d : Limited) → session < length entered → IsEditionOf limits (take (slice_index entered session) log) (slice_index_or seen session d)
