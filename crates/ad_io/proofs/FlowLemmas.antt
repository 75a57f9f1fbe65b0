-- Calls one after the other: what they gain or lose joins, and a front of a part is a front of the whole.
use Rattle.std.proofs.Common.{◌≡◌, ℕ, ◌+◌, ◌-◌, ◌≤◌, ◌<◌, List, [], ◌++◌, Option, None, Some, Result, Ok, Err, OnErr, length, take, drop, refl, sym, ◌∙◌, ap, append_assoc, Bor, get_or, suc, drop-cons}
use Rattle.std.specs.List.{flat_map}
use Rattle.std.proofs.lemmas.Grind.{flat_map-append}
use Rattle.std.proofs.Math.Seq.{take-add}
use Rattle.std.proofs.lemmas.List.{take-take, take-append-drop, append-nil}
use Rattle.ad_io.specs.Flow.{Loses, Gains, GainsFront}

-- nothing is gained at first
pub gains_nothing : (now : Option (List ℕ)) → Gains now now []
gains_nothing None = tt
gains_nothing (Some x) = sym (append-nil x)

-- what two calls gain joins
pub goes_on : (old mid new : Option (List ℕ)) (a b : List ℕ) → Gains old mid a → Gains mid new b → Gains old new (a ++ b)
goes_on old mid None a b first then_ = tt
goes_on old None (Some z) a b first then_ = absurd then_
goes_on None (Some y) (Some z) a b first then_ = absurd first
goes_on (Some x) (Some y) (Some z) a b first then_ = then_ ∙ ap (λ t. t ++ b) first ∙ append_assoc x a b

-- the second call stops behind a front of its bytes: that is a front of both
pub stops : (old mid new : Option (List ℕ)) (a b : List ℕ) → Gains old mid a → GainsFront mid new b → GainsFront old new (a ++ b)
stops old mid new a b first stop = record {
  front = a ++ stop.front;
  rest = stop.rest;
  whole = ap (λ t. a ++ t) stop.whole ∙ sym (append_assoc a stop.front stop.rest);
  gained = goes_on old mid new a stop.front first stop.gained;
}

-- the first call stops: nothing of what follows is written
pub stops_early : (old new : Option (List ℕ)) (a b : List ℕ) → GainsFront old new a → GainsFront old new (a ++ b)
stops_early old new a b stop = record {
  front = stop.front;
  rest = stop.rest ++ b;
  whole = ap (λ t. t ++ b) stop.whole ∙ append_assoc stop.front stop.rest b;
  gained = stop.gained;
}

-- a later call whose answer is handed on
pub stops_last : {E : Type 0} (answer : Result (Unit {0}) E) (old mid new : Option (List ℕ)) (a b : List ℕ) → Gains old mid a → OnErr answer (GainsFront mid new b) → OnErr answer (GainsFront old new (a ++ b))
stops_last (Ok u) old mid new a b first stop = tt
stops_last (Err e) old mid new a b first stop = stops old mid new a b first stop

-- what holds whatever the answer holds at a failure
pub on_failure : {E : Type 0} (answer : Result (Unit {0}) E) (P : Type 0) → P → OnErr answer P
on_failure (Ok u) P p = tt
on_failure (Err e) P p = p

-- a whole is a front of itself
pub whole_front : (old new : Option (List ℕ)) (a : List ℕ) → Gains old new a → GainsFront old new a
whole_front old new a h = record { front = a; rest = []; whole = sym (append-nil a); gained = h }

-- nothing is lost at first
pub loses_nothing : (now : Option (List ℕ)) → Loses now now []
loses_nothing None = tt
loses_nothing (Some x) = refl

-- what two calls lose joins
pub loses_on : (old mid new : Option (List ℕ)) (a b : List ℕ) → Loses old mid a → Loses mid new b → Loses old new (a ++ b)
loses_on old mid None a b first then_ = tt
loses_on old None (Some z) a b first then_ = absurd then_
loses_on None (Some y) (Some z) a b first then_ = absurd first
loses_on (Some x) (Some y) (Some z) a b first then_ = first ∙ ap (λ t. a ++ t) then_ ∙ sym (append_assoc a b z)

-- a piece is written part by part
pub writes_more : (old mid new : Option (List ℕ)) (piece : List ℕ) (at n : ℕ) → n ≤ length piece - at → Gains old mid (take at piece) → Gains mid new (take n (take (length piece - at) (drop at piece))) → Gains old new (take (at + n) piece)
writes_more old mid new piece at n fits first then_ =
    let part : take n (take (length piece - at) (drop at piece)) ≡ take n (drop at piece) = take-take n (length piece - at) (drop at piece) fits in
    rw (take-add at n piece) (goes_on old mid new (take at piece) (take n (drop at piece)) first (rw part at then_))

-- and a failure behind a front leaves a front
pub writes_front : (old mid new : Option (List ℕ)) (piece : List ℕ) (at : ℕ) → Gains old mid (take at piece) → Gains mid new [] → GainsFront old new piece
writes_front old mid new piece at first then_ = record {
  front = take at piece;
  rest = drop at piece;
  whole = sym (take-append-drop at piece);
  gained = rw (← append-nil (take at piece)) (goes_on old mid new (take at piece) [] first then_);
}

-- a buffer is filled part by part
pub reads_more : (old mid new : Option (List ℕ)) (before after : List ℕ) (filled n : ℕ) → take filled after ≡ take filled before → Loses old mid (take filled before) → Loses mid new (take n (drop filled after)) → Loses old new (take (filled + n) after)
reads_more old mid new before after filled n kept first then_ =
    rw (take-add filled n after, kept) (loses_on old mid new (take filled before) (take n (drop filled after)) first then_)

-- one of several pieces stops: what came before it, and its front, is a front of them all
pub stops_at_piece : (old mid new : Option (List ℕ)) (pieces : List (Bor (List ℕ))) (i : ℕ) (d : Bor (List ℕ)) → i < length pieces → Gains old mid (flat_map (λ piece. piece.now) (take i pieces)) → GainsFront mid new (get_or pieces i d).now → GainsFront old new (flat_map (λ piece. piece.now) pieces)
stops_at_piece old mid new pieces i d below first stop =
    let bytes : List (Bor (List ℕ)) → List ℕ = λ ps. flat_map (λ piece. piece.now) ps in
    let parts : bytes pieces ≡ (bytes (take i pieces) ++ (get_or pieces i d).now) ++ bytes (drop (suc i) pieces) =
    ap bytes (sym (take-append-drop i pieces) ∙ ap (λ t. take i pieces ++ t) (drop-cons pieces i d below))
    ∙ flat_map-append (λ piece. piece.now) (take i pieces) _
    ∙ sym (append_assoc (bytes (take i pieces)) (get_or pieces i d).now (bytes (drop (suc i) pieces))) in
    rw parts (stops_early old new _ (bytes (drop (suc i) pieces)) (stops old mid new _ _ first stop))
