-- Lists that are split in parts, side by side.
use Rattle.std.proofs.Common.{◌≡◌, ℕ, ◌+◌, ◌≤◌, List, [], ◌∷◌, ◌++◌, Ok, Err, Result, length, map, sym, subst, length-append, arith}
use Rattle.std.specs.List.{All, AllZip, flat_map}
use Rattle.std.specs.Prelude.{IfOk, MatchResult}
use Rattle.std.proofs.lemmas.List.{get_or_append_left, get_or-append-add}
use Rattle.std.proofs.lemmas.List.Elements.{All-nil, All-cons}

module _ {X : Type 0} (P : X → Type 0) where
  all_left : (xs ys : List X) → All P (xs ++ ys) → All P xs
  all_left xs ys all k d l = subst P (get_or_append_left xs ys d k l) (all k d (omega (arith, length-append xs ys)))

  all_right : (xs ys : List X) → All P (xs ++ ys) → All P ys
  all_right xs ys all k d l = subst P (get_or-append-add xs ys k d) (all (length xs + k) d (omega (arith, length-append xs ys)))

  each_part : (n : ℕ) (parts : List (List X)) → All P (flat_map (λ part. part) parts) → length (flat_map (λ part. part) parts) ≤ n → All (λ part. All P part × (length part ≤ n)) parts
  each_part n [] all few = All-nil (λ part. All P part × (length part ≤ n))
  each_part n (part ∷ parts) all few =
      let rest = flat_map (λ l. l) parts in
      let long = length-append part rest in
      All-cons (λ part. All P part × (length part ≤ n)) part parts (all_left part rest all, omega (arith, long)) (each_part n parts (all_right part rest all) (omega (arith, long)))

  -- what holds of each element of a list holds of each of its parts, and no part is longer than the list may be
  pub parts_all : (n : ℕ) (parts : List (List X)) (xs : List X) → flat_map (λ part. part) parts ≡ xs → All P xs → length xs ≤ n → All (λ part. All P part × (length part ≤ n)) parts
  parts_all n parts xs whole all few = each_part n parts (subst (All P) (sym whole) all) (subst (λ l. length l ≤ n) (sym whole) few)

-- what holds of the value of a result that is `Ok`
pub if_ok : {X E : Type 0} (P Q : X → Type 0) (F : E → Type 0) (r : Result X E) → MatchResult r P F → ((x : X) → P x → Q x) → IfOk r Q
if_ok P Q F (Ok x) h f = f x h
if_ok P Q F (Err e) h f = tt

-- answers that are all `Ok`, beside what they are for
pub zip_oks : {Z X Y E : Type 0} (view : Z → X) (R : X → Y → Type 0) (S : Z → Result Y E → Type 0) → ((z : Z) (y : Y) → S z (Ok y) → R (view z) y)
    → (zs : List Z) (ys : List Y) → AllZip S zs (map Ok ys) → AllZip R (map view zs) ys
zip_oks view R S f [] [] h = tt
zip_oks view R S f [] (y ∷ ys) h = absurd h
zip_oks view R S f (z ∷ zs) [] h = absurd h
zip_oks view R S f (z ∷ zs) (y ∷ ys) h = (f z y h.0, zip_oks view R S f zs ys h.1)

-- what follows from two facts of the value of an `Ok`
pub if_ok_both : {X E : Type 0} (P Q R : X → Type 0) (r : Result X E) → IfOk r P → IfOk r Q → ((x : X) → P x → Q x → R x) → IfOk r R
if_ok_both P Q R (Ok x) p q f = f x p q
if_ok_both P Q R (Err e) p q f = tt
