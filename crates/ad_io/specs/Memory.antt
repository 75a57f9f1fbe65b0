-- What sources and sinks in memory are seen as.
use Rattle.std.specs.Prelude.{ℕ, ◌+◌, ◌-◌, ◌^◌, Bool, true, false, List, [], ◌∷◌, ◌++◌, Option, None, Some, zero, suc, min, length, take, if◌then◌else◌}
use Rattle.ad_io.specs.declared.source.Got.{Got}
use Rattle.ad_io.specs.declared.source.Got.TheVariants as got
use Rattle.ad_io.specs.declared.sink.Put.{Put}
use Rattle.ad_io.specs.declared.sink.Put.TheVariants as put
use Rattle.ad_io.specs.Flow.{raised}

-- which calls fail, how many were made, and how many failed
pub record Calls : Type 0 where
  -- the numbers of the calls that fail, from 0
  pub fail : List ℕ
  -- both counts stay at the greatest `u64`
  pub made : ℕ
  pub faults : ℕ

-- one more call was made, which failed or not
abbrev pub after_call : Calls → Bool → Calls
after_call calls failed = record {
  fail = calls.fail;
  made = raised calls.made;
  faults = (if failed then raised calls.faults else calls.faults);
}

-- a source over bytes in memory
pub record Feed : Type 0 where
  pub left : List ℕ
  -- how many bytes a call gives at most
  pub piece : ℕ
  pub calls : Calls

-- what a call gives that does not fail: all that is left, but at most `most` bytes
abbrev pub next_of : List ℕ → ℕ → Got
next_of [] most = got.End
next_of (x ∷ xs) most = got.Bytes (min most (length (x ∷ xs)))

-- whether the call failed
abbrev pub read_has_failed : Got → Bool
read_has_failed (got.Bytes n) = false
read_has_failed got.End = false
read_has_failed got.Failed = true

-- bytes that are kept in memory: the first `room` of all that were taken
pub record Store : Type 0 where
  pub kept : List ℕ
  -- how many more were taken; the count stays at the greatest `u64`
  pub rest : ℕ
  pub room : ℕ

-- the store once it took these bytes too
abbrev pub stored : Store → List ℕ → Store
stored store bytes = record {
  kept = take store.room (store.kept ++ bytes);
  rest = min (store.rest + (length store.kept + length bytes - store.room)) (2 ^ 64 - 1);
  room = store.room;
}

-- the kept bytes, if no more were taken
abbrev pub if_no_more : ℕ → List ℕ → Option (List ℕ)
if_no_more zero kept = Some kept
if_no_more (suc n) kept = None

-- the bytes that were taken, as long as all were kept
abbrev pub told : Store → Option (List ℕ)
told store = if_no_more store.rest store.kept

-- a sink into memory
pub record Drain : Type 0 where
  pub store : Store
  -- how many bytes a call takes at most
  pub piece : ℕ
  pub calls : Calls

-- whether the call failed
abbrev pub write_has_failed : Put → Bool
write_has_failed (put.Took n) = false
write_has_failed put.Failed = true
