-- What a step of a source or a sink in memory does to its bytes.
use Rattle.std.proofs.Common.{◌≡◌, ℕ, ◌+◌, ◌-◌, ◌^◌, ◌≤◌, List, ◌++◌, zero, suc, length, take, drop, min, sym, ◌∙◌, ap, arith, length-drop}
use Rattle.std.proofs.Math.Seq.{take-append-add}
use Rattle.std.proofs.lemmas.List.{take-take, take-append-drop, take-append-le, drop-drop, length-take-le, take_min, length-append, take_all}
use Rattle.ad_io.specs.Memory as seen
use Rattle.ad_io.specs.Memory.{stored, told, if_no_more}
use Rattle.ad_io.specs.Flow.{Gains}

-- the next n bytes are copied to a buffer's front
pub copies_next : (bytes lent copied : List ℕ) (given n : ℕ) → lent ≡ bytes → given + n ≤ length bytes → copied ≡ take ((given + n) - given) (drop given lent) → copied ≡ take n (drop given bytes)
copies_next bytes lent copied given n same fits e =
    let k : (given + n) - given ≡ n = omega arith in
    e ∙ ap (λ t. take ((given + n) - given) (drop given t)) same ∙ ap (λ t. take t (drop given bytes)) k

pub copies_count : (bytes copied : List ℕ) (given n : ℕ) → given + n ≤ length bytes → copied ≡ take n (drop given bytes) → length copied ≡ n
copies_count bytes copied given n fits e =
    let left : n ≤ length (drop given bytes) = rw length-drop (omega arith) in
    ap length e ∙ length-take-le n (drop given bytes) left

pub gives_next : (bytes copied tail : List ℕ) (given n : ℕ) → given + n ≤ length bytes → copied ≡ take n (drop given bytes) → drop given bytes ≡ take n (copied ++ tail) ++ drop (given + n) bytes
gives_next bytes copied tail given n fits e =
    let count : length copied ≡ n = copies_count bytes copied given n fits e in
    let front : take n (copied ++ tail) ≡ take n (drop given bytes) =
    take-append-le n copied tail (omega arith) ∙ ap (take n) e ∙ take-take n n (drop given bytes) (omega arith) in
    sym (ap (λ t. t ++ drop (given + n) bytes) front ∙ ap (λ t. take n (drop given bytes) ++ t) (sym (drop-drop n given bytes)) ∙ take-append-drop n (drop given bytes))

-- what fits is kept, and the others are counted
pub keeps_front : (kept bytes : List ℕ) (room fits : ℕ) → length kept ≤ room → fits ≡ min (length bytes) (room - length kept) → kept ++ take fits bytes ≡ take room (kept ++ bytes)
keeps_front kept bytes room fits within e =
    let n = room - length kept in
    let whole : length kept + (room - length kept) ≡ room = omega arith in
    let same : fits ≡ min (room - length kept) (length bytes) = omega arith in
    ap (λ t. kept ++ take t bytes) same
    ∙ ap (λ t. kept ++ t) (take_min (room - length kept) bytes)
    ∙ sym (take-append-add kept bytes (room - length kept))
    ∙ ap (λ t. take t (kept ++ bytes)) whole

pub stores : (kept bytes after : List ℕ) (room rest fits past : ℕ) → length kept ≤ room → fits ≡ min (length bytes) (room - length kept) → after ≡ kept ++ take fits bytes → past ≡ min (rest + (length bytes - fits)) (2 ^ 64 - 1)
    → (let x : seen.Store = record { kept = after; rest = past; room = room } in x) ≡ stored (record { kept = kept; rest = rest; room = room }) bytes
stores kept bytes after room rest fits past within e front count =
    let a : after ≡ take room (kept ++ bytes) = front ∙ keeps_front kept bytes room fits within e in
    let b : past ≡ min (rest + (length kept + length bytes - room)) (2 ^ 64 - 1) = omega arith in
    rw (a, b)

-- a store that tells its bytes gained what it took
pub stored_gains : (rest kept_rest : ℕ) (kept after bytes : List ℕ) (room : ℕ) → after ≡ take room (kept ++ bytes) → kept_rest ≡ min (rest + (length kept + length bytes - room)) (2 ^ 64 - 1) → Gains (if_no_more rest kept) (if_no_more kept_rest after) bytes
stored_gains rest (suc n) kept after bytes room e count = tt
stored_gains (suc m) zero kept after bytes room e count = absurd (omega arith)
stored_gains zero zero kept after bytes room e count =
    let fits : length (kept ++ bytes) ≤ room = rw length-append (omega arith) in
    e ∙ take_all room (kept ++ bytes) fits

pub store_gains : (old new : seen.Store) (bytes : List ℕ) → new ≡ stored old bytes → Gains (told old) (told new) bytes
store_gains old new bytes e = stored_gains old.rest new.rest old.kept new.kept bytes old.room (ap (λ (s : seen.Store). s.kept) e) (ap (λ (s : seen.Store). s.rest) e)
