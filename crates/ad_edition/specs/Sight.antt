-- What a session has seen of the published editions.
use Rattle.std.specs.Prelude.{◌≡◌, ℕ, ◌≤◌, List, [], ◌∷◌, ◌++◌, Result, Ok, Err}
use Rattle.std.specs.List.{AllByRecursion}
use Rattle.ad_io.specs.Flow.{raised, Rose}
use Rattle.ad_edition.specs.declared.look.NoLook.{NoLook}
use Rattle.ad_edition.specs.declared.look.NoLook.TheVariants as refusals
use Rattle.ad_edition.specs.Log.{Logged, IsLog}

-- the log as last entered, how often it was entered, the logs that the session was told, and how often a look failed
pub record Sight : Type 0 where
  pub entered : List Logged
  pub looks : ℕ
  pub told : List (List Logged)
  pub lapses : ℕ

-- the first list begins the second
pub record IsFront (front whole : List Logged) : Type 0 where
  pub rest : List Logged
  pub is : whole ≡ front ++ rest

-- The session enters a log that goes on from the one before and from every log that it was told. The count of its looks
-- is raised by one, unless it stands at its greatest value.
pub record Enters (old new : Sight) : Type 0 where
  pub is_log : IsLog new.entered
  pub entered : IsFront old.entered new.entered
  pub told_too : AllByRecursion (λ log. IsFront log new.entered) old.told
  pub looks : new.looks ≡ raised old.looks
  pub told : new.told ≡ old.told
  pub lapses : old.lapses ≤ new.lapses

-- what a look does: it enters; or it enters and lapses for want of memory; or it lapses and changes nothing else
abbrev pub LookIs : {T : Type 0} → Result T NoLook → Sight → Sight → Type 0
LookIs (Ok lent) old new = Enters old new × (new.lapses ≡ old.lapses)
LookIs (Err refusals.Memory) old new = Enters old new × Rose old.lapses new.lapses
LookIs (Err refusals.Shut) old new = (new ≡ record old { lapses = new.lapses }) × Rose old.lapses new.lapses × (old.lapses ≤ new.lapses)

-- the sight after one more log was told
abbrev pub tell : Sight → List Logged → Sight
tell sight log = record sight { told = sight.told ++ log ∷ [] }

-- looks of this kind never lapse, whichever the value
abbrev pub IsSure : {L : Type 0} → (L → Sight) → Type 0
IsSure {L} sight = (look : L) → (sight look).lapses ≡ 0

-- What a look stands on beside its sight. For a machine: the session, the machine's log, and how many entries of it
-- the sessions have entered, with 0 in this session's place. For a seat: its library, by the library's table.
pub data Footing : Type 0 where
  machine : (session : ℕ) (log : List Logged) (others : List ℕ) → Footing
  library : (table : ℕ) → Footing

-- what a look that stands on this may enter: that of a machine enters the machine's whole log
abbrev pub Reaches : Footing → List Logged → Type 0
Reaches (Footing.machine session log others) entered = entered ≡ log
Reaches (Footing.library table) entered = Unit {0}
