-- What holds of every log.
use Rattle.std.specs.Prelude.{◌≡◌, ℕ, ◌<◌, List, [], ◌∷◌, ◌++◌, length, slice_index_or}
use Rattle.ad_apply.specs.Apply.{applied}
use Rattle.ad_edition.specs.Log.{Logged, IsLog, replay}
use Rattle.ad_edition.specs.Sight.{IsFront}

-- no two entries of a log have the same ticket and sequence
abbrev pub EntriesDiffer : Type 0
EntriesDiffer = (log : List Logged) → IsLog log → (i j : ℕ) (d : Logged) → i < j → j < length log → (slice_index_or log i d).ticket ≡ (slice_index_or log j d).ticket → (slice_index_or log i d).sequence ≡ (slice_index_or log j d).sequence → ⊥

-- one more entry applies its batch
abbrev pub ReplayGoesOn : Type 0
ReplayGoesOn = (log : List Logged) (entry : Logged) → replay (log ++ entry ∷ []) ≡ applied (replay log) entry.batch

-- what begins a log is a log
abbrev pub FrontsAreLogs : Type 0
FrontsAreLogs = (front log : List Logged) → IsFront front log → IsLog log → IsLog front
