-- What a machine holds, and what its type keeps of it.
use Rattle.std.specs.Prelude.{◌≡◌, ℕ, ◌+◌, ◌<◌, ◌≤◌, List, Option, None, Some, length, map, slice_index, slice_index_or}
use Rattle.std.specs.Option.{option_map}
use Rattle.std.specs.Arc.{arc_value}
use Rattle.std.specs.declared.sync.Arc.{Arc}
use Rattle.ad_edition.specs.Log.{Logged, count_of}
use Rattle.ad_edition.specs.Edition.{Limited, Whole, limited_of}
use Rattle.ad_edition.specs.State.{State}
use Rattle.ad_edition.specs.Editions.{AreEditionsOf}

-- what the owner's edition shows, with its limits
abbrev pub edition_in : {Z : Type 0} → Arc Whole Z → Limited
edition_in {Z} owner = limited_of (arc_value owner)

-- and the same of owners
abbrev pub editions_in : {Z : Type 0} → List (Arc Whole Z) → List Limited
editions_in {Z} owners = map (λ (owner : Arc Whole Z). edition_in owner) owners

abbrev pub waiting_in : {Z : Type 0} → List (Option (Arc Whole Z)) → List (Option Limited)
waiting_in {Z} waiting = map (option_map (λ (owner : Arc Whole Z). edition_in owner)) waiting

-- a session has entered as many entries as its edition's number says
abbrev pub numbers_of : List Limited → List ℕ
numbers_of seen = map (λ (edition : Limited). edition.shown.number) seen

-- the machine with these editions
abbrev pub state_in : List Logged → Limited → List Limited → ℕ → ℕ → State
state_in log newest seen session looks = record { log = log; entered = numbers_of seen; limits = newest.limits; session = session; looks = looks }

-- what waits for a session is the newest edition, and where nothing waits the session has entered it
abbrev pub Awaits : Option Limited → Limited → Limited → Type 0
Awaits None seen newest = seen.shown.number ≡ newest.shown.number
Awaits (Some edition) seen newest = edition ≡ newest

pub record IsKept (log : List Logged) (newest : Limited) (seen : List Limited) (waiting : List (Option Limited)) (edits : List ℕ) (session workers : ℕ) : Type 0 where
  pub editions : AreEditionsOf newest.limits log (numbers_of seen) newest seen
  pub some : 1 ≤ length seen
  pub few : length seen ≤ 8
  pub waiting_count : length waiting ≡ length seen
  pub awaits : (at : ℕ) (d : Limited) → at < length seen → Awaits (slice_index_or waiting at None) (slice_index_or seen at d) newest
  pub edit_count : length edits ≡ length seen
  pub counted : (at : ℕ) → at < length seen → slice_index edits at ≡ count_of log (at + 1)
  pub looking : session < length seen
  pub worker_count : (1 ≤ workers) × (workers ≤ 16)
