-- Texts that are written one after the other are written as one.
use Rattle.std.proofs.Common.{◌≡◌, ℕ, ◌+◌, List, [], ◌++◌, Option, length, refl, sym, ◌∙◌, ap, subst, arith, length-append, append_assoc}
use Rattle.std.proofs.lemmas.List.{append-nil}
use Rattle.ad_io.specs.declared.writes.Wrote.{Wrote}
use Rattle.ad_io.specs.declared.writes.Wrote.TheVariants.{All, Failed}
use Rattle.ad_io.specs.Flow.{Gains, GainsFront, Rose}
use Rattle.ad_io.specs.Sink.{Puts}
use Rattle.ad_io.proofs.FlowLemmas.{gains_nothing, goes_on, stops, stops_early}
use Rattle.ad_lines.specs.Pen.{Goes, Counts, Weighs, capped}

front_stays : (old mid new : Option (List ℕ)) (xs : List ℕ) → GainsFront old mid xs → Gains mid new [] → GainsFront old new xs
front_stays old mid new xs first then_ = record {
  front = first.front;
  rest = first.rest;
  whole = first.whole;
  gained = rw (← append-nil first.front) (goes_on old mid new first.front [] first.gained then_);
}

-- what waits in between is a front of what the second text goes behind
in_between : (waited middle waiting xs ys front : List ℕ) → waited ++ xs ≡ front ++ middle → waited ++ (xs ++ ys) ≡ front ++ (middle ++ ys)
in_between waited middle waiting xs ys front whole = sym (append_assoc waited xs ys) ∙ ap (λ t. t ++ ys) whole ∙ append_assoc front middle ys

pub goes_begins : (now : Option (List ℕ)) (waiting : List ℕ) (so_far : Wrote) → Goes now now waiting waiting so_far so_far []
goes_begins now waiting All = record { front = []; whole = append-nil waiting; gained = gains_nothing now }
goes_begins now waiting Failed = (refl, gains_nothing now)

pub goes_joins : (old mid new : Option (List ℕ)) (waited middle waiting : List ℕ) (x y z : Wrote) (xs ys : List ℕ) → Goes old mid waited middle x y xs → Goes mid new middle waiting y z ys → Goes old new waited waiting x z (xs ++ ys)
goes_joins old mid new waited middle waiting All All All xs ys first then_ = record {
  front = first.front ++ then_.front;
  whole = in_between waited middle waiting xs ys first.front first.whole ∙ ap (λ t. first.front ++ t) then_.whole ∙ sym (append_assoc first.front then_.front waiting);
  gained = goes_on old mid new first.front then_.front first.gained then_.gained;
}
goes_joins old mid new waited middle waiting All All Failed xs ys first then_ =
    subst (GainsFront old new) (sym (in_between waited middle waiting xs ys first.front first.whole)) (stops old mid new first.front (middle ++ ys) first.gained then_)
goes_joins old mid new waited middle waiting All Failed All xs ys first then_ = cc
goes_joins old mid new waited middle waiting All Failed Failed xs ys first then_ =
    subst (GainsFront old new) (append_assoc waited xs ys) (stops_early old new (waited ++ xs) ys (front_stays old mid new (waited ++ xs) first then_.1))
goes_joins old mid new waited middle waiting Failed All z xs ys first then_ = cc
goes_joins old mid new waited middle waiting Failed Failed z xs ys first then_ = (then_.0, goes_on old mid new [] [] first.1 then_.1)

-- and where nothing waits at the end, the text itself was written, or a front of it
goes_whole : (old new : Option (List ℕ)) (z : Wrote) (text : List ℕ) → Goes old new [] [] All z text → Puts old new z text
goes_whole old new All text whole =
    let front : whole.front ≡ text = sym (append-nil whole.front) ∙ sym whole.whole in
    subst (Gains old new) front whole.gained
goes_whole old new Failed text whole = whole

pub goes_ends : (old mid new : Option (List ℕ)) (waited waiting : List ℕ) (y z : Wrote) (text : List ℕ) → waiting ≡ [] → Goes old mid [] waited All y text → Goes mid new waited waiting y z [] → Puts old new z text
goes_ends old mid new waited waiting y z text none first then_ =
    goes_whole old new z text (subst (Goes old new [] [] All z) (append-nil text) (goes_joins old mid new [] waited [] All y z text [] first (subst (λ rest. Goes mid new waited rest y z []) none then_)))

pub counts_begins : (now : ℕ) (so_far : Wrote) → Counts now now so_far so_far
counts_begins now All = record { later = omega arith; failed = λ e. absurd (cc) }
counts_begins now Failed = (refl, refl)

pub counts_joins : (old mid new : ℕ) (x y z : Wrote) → Counts old mid x y → Counts mid new y z → Counts old new x z
counts_joins old mid new All All z first then_ = record {
  later = omega (arith, first.later, then_.later);
  failed = λ e. let rose : Rose mid new = then_.failed e in let later : _ = first.later in omega arith;
}
counts_joins old mid new All Failed z first then_ = record {
  later = omega (arith, first.later, then_.1);
  failed = λ e. let rose : Rose old mid = first.failed refl in omega (arith, then_.1);
}
counts_joins old mid new Failed All z first then_ = cc
counts_joins old mid new Failed Failed z first then_ = (then_.0, omega (arith, first.1, then_.1))

pub weighs_begins : (now : ℕ) → Weighs now now []
weighs_begins now small = omega arith

pub weighs_joins : (old mid new : ℕ) (xs ys : List ℕ) → Weighs old mid xs → Weighs mid new ys → Weighs old new (xs ++ ys)
weighs_joins old mid new xs ys first then_ small =
    let is_mid : mid ≡ capped (old + length xs) = first small in
    let is_new : new ≡ capped (mid + length ys) = then_ (omega arith) in
    omega (arith, length-append xs ys)
