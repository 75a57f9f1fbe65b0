-- What follows from how reading ended.
use Rattle.std.proofs.Common.{◌≡◌, ℕ, ◌+◌, ◌≤◌, ◌<◌, List, [], ◌++◌, Option, None, Some, IsSome, Ok, Err, IsErrOf, length, take, refl, ◌∙◌, ap, subst, arith, length-append}
use Rattle.std.proofs.lemmas.List.{append-nil, length-take-le}
use Rattle.ad_io.specs.declared.reads.ReadEnd.{ReadEnd}
use Rattle.ad_io.specs.declared.reads.ReadEnd.TheVariants.{Failed, Long, Memory}
use Rattle.ad_io.specs.Flow.{Loses, LosesExactly, LosesAtMost, IsAtEnd, Rose}
use Rattle.ad_io.specs.Reading.{IsReading, ReadingCause}
use Rattle.ad_io.proofs.FlowLemmas.{loses_on}

-- the last call takes nothing
pub loses_no_more : (old mid new : Option (List ℕ)) (a : List ℕ) → Loses old mid a → Loses mid new [] → Loses old new a
loses_no_more old mid new a first none = let e : a ++ [] ≡ a = append-nil a in subst (λ bs. Loses old new bs) e (loses_on old mid new a [] first none)

-- the end was reached behind the bytes that fill the list up to here
pub reading_ends : (old mid new : Option (List ℕ)) (bytes : List ℕ) (filled limit : ℕ) → filled ≤ limit → filled ≤ length bytes → Loses old mid (take filled bytes) → IsAtEnd new × Loses mid new [] → IsReading old new limit (take filled bytes) (Ok tt)
reading_ends old mid new bytes filled limit few within first last =
    let k : length (take filled bytes) ≡ filled = length-take-le filled bytes within in
    (last.0, loses_no_more old mid new (take filled bytes) first last.1, omega arith)

-- a failure behind them
pub reading_stops : (old mid new : Option (List ℕ)) (bytes : List ℕ) (filled limit : ℕ) → filled ≤ limit → filled ≤ length bytes → Loses old mid (take filled bytes) → Loses mid new [] → LosesAtMost old new limit
reading_stops old mid new bytes filled limit few within first none = record {
  bytes = take filled bytes;
  within = let k : length (take filled bytes) ≡ filled = length-take-le filled bytes within in omega arith;
  lost = loses_no_more old mid new (take filled bytes) first none;
}

-- what each clause says of an error
pub on_long : {T : Type 0} (old new : Option (List ℕ)) (limit : ℕ) (bytes : List ℕ) (end : ReadEnd) → IsReading old new limit bytes (Err end) → IsErrOf {T = T} (Err end) Long → LosesExactly old new (limit + 1)
on_long old new limit bytes Long h e = h
on_long old new limit bytes Failed h e = cc
on_long old new limit bytes Memory h e = cc

pub on_failed : {T : Type 0} (old new : Option (List ℕ)) (limit : ℕ) (bytes : List ℕ) (end : ReadEnd) → IsReading old new limit bytes (Err end) → IsErrOf {T = T} (Err end) Failed → LosesAtMost old new limit
on_failed old new limit bytes Failed h e = h
on_failed old new limit bytes Long h e = cc
on_failed old new limit bytes Memory h e = cc

pub on_memory : {T : Type 0} (old new : Option (List ℕ)) (limit : ℕ) (bytes : List ℕ) (end : ReadEnd) → IsReading old new limit bytes (Err end) → IsErrOf {T = T} (Err end) Memory → LosesAtMost old new limit
on_memory old new limit bytes Memory h e = h
on_memory old new limit bytes Failed h e = cc
on_memory old new limit bytes Long h e = cc

pub on_cause : {T : Type 0} (before now : ℕ) (end : ReadEnd) → ReadingCause before now (Err end) → IsErrOf {T = T} (Err end) Failed → Rose before now
on_cause before now Failed h e = h.failed refl
on_cause before now Long h e = cc
on_cause before now Memory h e = cc

exact_of_text : (new : Option (List ℕ)) (text : List ℕ) (count : ℕ) → IsSome new → LosesExactly (Some text) new count → count ≤ length text
exact_of_text None text count told h = cc
exact_of_text (Some rest) text count told h =
    let counted : length h.bytes ≡ count = h.counted in
    let whole : length text ≡ length (h.bytes ++ rest) = ap length h.lost in
    omega (arith, length-append h.bytes rest)

-- where more than the limit is lost, the text is longer
pub text_is_longer : (old new : Option (List ℕ)) (text : List ℕ) (limit : ℕ) → old ≡ Some text → IsSome new → LosesExactly old new (limit + 1) → limit < length text
text_is_longer old new text limit is told h =
    let least : limit + 1 ≤ length text = exact_of_text new text (limit + 1) told (subst (λ o. LosesExactly o new (limit + 1)) is h) in omega arith

all_of_text : (new : Option (List ℕ)) (text bytes : List ℕ) → IsSome new → IsAtEnd new → Loses (Some text) new bytes → text ≡ bytes
all_of_text None text bytes told at_end h = cc
all_of_text (Some rest) text bytes told at_end h = h ∙ ap (λ r. bytes ++ r) at_end ∙ append-nil bytes

-- where the end is reached, the text isn't longer than what was read
pub text_is_read : (old new : Option (List ℕ)) (text bytes : List ℕ) (limit : ℕ) → old ≡ Some text → IsSome new → IsAtEnd new → Loses old new bytes → length bytes ≤ limit → length text ≤ limit
text_is_read old new text bytes limit is told at_end h within =
    let same : length text ≡ length bytes = ap length (all_of_text new text bytes told at_end (subst (λ o. Loses o new bytes) is h)) in omega arith
