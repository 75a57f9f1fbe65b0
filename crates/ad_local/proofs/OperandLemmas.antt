-- What is sure of several operands, one operand on.
use Rattle.std.proofs.Common.{◌≡◌, ℕ, ◌+◌, ◌<◌, Bool, true, false, ◌&&◌, ◌||◌, cond, nat_eq, List, ◌∷◌, length, get_or, drop, map, refl, sym, ap, ◌∙◌}
use Rattle.std.proofs.Math.Bool.{or_assoc, and_assoc}
use Rattle.std.specs.List.{list_all}
use Rattle.std.proofs.lemmas.List.{at_drop_more, length-map}
use Rattle.std.proofs.lemmas.List.Folds.{list_all-map}
use Rattle.ad_locality.specs.declared.surely.Surely.{Surely}
use Rattle.ad_locality.specs.Locality as table
use Rattle.ad_local.specs.Pairs.{both_of, either_of}

-- the third column of an intersection of three
nonempty_assoc : (an aw bw bn cw cn : Bool) → ((an && (bw && cw)) || (aw && ((bn && cw) || (bw && cn)))) ≡ ((((an && bw) || (aw && bn)) && cw) || ((aw && bw) && cn))
nonempty_assoc false false bw bn cw cn = refl
nonempty_assoc true false true bn cw cn = refl
nonempty_assoc true false false bn cw cn = refl
nonempty_assoc false true bw bn cw cn = refl
nonempty_assoc true true false bn cw cn = refl
nonempty_assoc true true true bn true cn = refl
nonempty_assoc true true true true false cn = refl
nonempty_assoc true true true false false cn = refl

both_of_assoc : (a b c : Surely) → both_of a (both_of b c) ≡ both_of (both_of a b) c
both_of_assoc a b c = rw (or_assoc a.empty b.empty c.empty, and_assoc a.whole b.whole c.whole, nonempty_assoc a.nonempty a.whole b.whole b.nonempty c.whole c.nonempty) refl

either_of_assoc : (a b c : Surely) → either_of a (either_of b c) ≡ either_of (either_of a b) c
either_of_assoc a b c = rw (and_assoc a.empty b.empty c.empty, or_assoc a.whole b.whole c.whole, or_assoc a.nonempty b.nonempty c.nonempty) refl

pub intersection_more : {X : Type 0} (f : X → Surely) (found : Surely) (xs : List X) (i : ℕ) (x : X) → i < length xs → x ≡ get_or xs i x
    → both_of (both_of found (f x)) (table.intersection (map f (drop (i + 1) xs))) ≡ both_of found (table.intersection (map f (drop i xs)))
intersection_more f found xs i x l at = sym (
    at_drop_more (λ ys. both_of found (table.intersection (map f ys))) xs i x l
    ∙ ap (λ y. both_of found (table.intersection (map f (y ∷ drop (i + 1) xs)))) (sym at)
    ∙ both_of_assoc found (f x) (table.intersection (map f (drop (i + 1) xs))))

pub union_more : {X : Type 0} (f : X → Surely) (found : Surely) (xs : List X) (i : ℕ) (x : X) → i < length xs → x ≡ get_or xs i x
    → either_of (either_of found (f x)) (table.union (map f (drop (i + 1) xs))) ≡ either_of found (table.union (map f (drop i xs)))
union_more f found xs i x l at = sym (
    at_drop_more (λ ys. either_of found (table.union (map f ys))) xs i x l
    ∙ ap (λ y. either_of found (table.union (map f (y ∷ drop (i + 1) xs)))) (sym at)
    ∙ either_of_assoc found (f x) (table.union (map f (drop (i + 1) xs))))

-- what the operands that are left have to be, where an operand was met that isn't empty, or none was
abbrev pub disjoint_left : Bool → List Surely → Bool
disjoint_left met cs = cond met (table.all_empty cs) (table.are_disjoint cs)

disjoint_empty : (met : Bool) (c : Surely) (cs : List Surely) → c.empty ≡ true → disjoint_left met (c ∷ cs) ≡ disjoint_left met cs
disjoint_empty true c cs e = rw e refl
disjoint_empty false c cs e = rw e refl

pub disjoint_more : {X : Type 0} (f : X → Surely) (met : Bool) (xs : List X) (i : ℕ) (x : X) → i < length xs → x ≡ get_or xs i x → (f x).empty ≡ true
    → disjoint_left met (map f (drop (i + 1) xs)) ≡ disjoint_left met (map f (drop i xs))
disjoint_more f met xs i x l at e = sym (
    at_drop_more (λ ys. disjoint_left met (map f ys)) xs i x l
    ∙ ap (λ y. disjoint_left met (map f (y ∷ drop (i + 1) xs))) (sym at)
    ∙ disjoint_empty met (f x) (map f (drop (i + 1) xs)) e)

disjoint_first : (c : Surely) (cs : List Surely) → c.empty ≡ false → disjoint_left false (c ∷ cs) ≡ disjoint_left true cs
disjoint_first c cs e = rw e refl

pub disjoint_meets : {X : Type 0} (f : X → Surely) (xs : List X) (i : ℕ) (x : X) → i < length xs → x ≡ get_or xs i x → (f x).empty ≡ false
    → disjoint_left true (map f (drop (i + 1) xs)) ≡ disjoint_left false (map f (drop i xs))
disjoint_meets f xs i x l at e = sym (
    at_drop_more (λ ys. disjoint_left false (map f ys)) xs i x l
    ∙ ap (λ y. disjoint_left false (map f (y ∷ drop (i + 1) xs))) (sym at)
    ∙ disjoint_first (f x) (map f (drop (i + 1) xs)) e)

disjoint_second : (c : Surely) (cs : List Surely) → c.empty ≡ false → disjoint_left true (c ∷ cs) ≡ false
disjoint_second c cs e = rw e refl

pub disjoint_fails : {X : Type 0} (f : X → Surely) (xs : List X) (i : ℕ) (x : X) → i < length xs → x ≡ get_or xs i x → (f x).empty ≡ false
    → disjoint_left true (map f (drop i xs)) ≡ false
disjoint_fails f xs i x l at e =
    at_drop_more (λ ys. disjoint_left true (map f ys)) xs i x l
    ∙ ap (λ y. disjoint_left true (map f (y ∷ drop (i + 1) xs))) (sym at)
    ∙ disjoint_second (f x) (map f (drop (i + 1) xs)) e

-- what the operands that are left have to be, by whether all so far are empty, and whether one so far is
-- everything and all others are empty
abbrev pub one_left : Bool → Bool → List Surely → Bool
one_left none one cs = (one && table.all_empty cs) || (none && table.one_is_whole cs)

one_step : (none one empty whole all rest : Bool)
    → ((one && (empty && all)) || (none && ((whole && all) || (empty && rest)))) ≡ ((((one && empty) || (none && whole)) && all) || ((none && empty) && rest))
one_step false false e w a r = refl
one_step false true true w a r = refl
one_step false true false w a r = refl
one_step true false e w a r = refl
one_step true true false w a r = refl
one_step true true true w true r = refl
one_step true true true true false r = refl
one_step true true true false false r = refl

pub one_more : {X : Type 0} (f : X → Surely) (none one : Bool) (xs : List X) (i : ℕ) (x : X) → i < length xs → x ≡ get_or xs i x
    → one_left (none && (f x).empty) ((one && (f x).empty) || (none && (f x).whole)) (map f (drop (i + 1) xs)) ≡ one_left none one (map f (drop i xs))
one_more f none one xs i x l at = sym (
    at_drop_more (λ ys. one_left none one (map f ys)) xs i x l
    ∙ ap (λ y. one_left none one (map f (y ∷ drop (i + 1) xs))) (sym at)
    ∙ one_step none one (f x).empty (f x).whole (table.all_empty (map f (drop (i + 1) xs))) (table.one_is_whole (map f (drop (i + 1) xs))))

pub all_empty_map : {X : Type 0} (f : X → Surely) (xs : List X) → table.all_empty (map f xs) ≡ list_all (λ x. (f x).empty) xs
all_empty_map f xs = list_all-map (λ s. s.empty) f xs

pub are_equivalent_map : {X : Type 0} (f : X → Surely) (xs : List X)
    → table.are_equivalent (map f xs) ≡ ((list_all (λ x. (f x).empty) xs || list_all (λ x. (f x).whole) xs) || nat_eq (length xs) 1)
are_equivalent_map f xs = rw (list_all-map (λ s. s.empty) f xs, list_all-map (λ s. s.whole) f xs, length-map xs f) refl
