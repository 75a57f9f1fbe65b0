-- What the operations of a batch come to.
use Rattle.std.proofs.Common.{◌≡◌, ℕ, suc, ◌+◌, ◌<◌, Bool, true, false, cond, ◌&&◌, List, [], ◌∷◌, ◌++◌, Option, None, Some, IsSome, is_some, nat_eq, length, get_or, take, refl, ap, sym, ◌∙◌, arith, subst, rules, append_assoc}
use Rattle.std.specs.List.{IsDistinct}
use Rattle.std.specs.HashMap.{HashMap}
use Rattle.std.specs.Map.{lookup}
use Rattle.std.specs.Borrow.{Bor}
use Rattle.std.specs.Cmp.{IsEquivalence}
use Rattle.std.specs.Arc.{arc_value}
use Rattle.std.specs.declared.sync.Arc.{Arc}
use Rattle.std.proofs.lemmas.List.{get_or-map, get_or_read, length-map, map-append, length-take}
use Rattle.std.proofs.Math.Seq.{take-suc}
use Rattle.std.proofs.lemmas.Map.Keys.{apart_from_distinct}
use borrow.Author.Count.{below_more}
use Rattle.ad_apply.specs.Same.{same_axiom}
use Rattle.ad_tree.specs.contracts.axioms.NotedEq.TheImpl.Laws as noted_laws
use Rattle.ad_tree.specs.declared.axioms.Noted.{Noted}
use Rattle.ad_apply.specs.declared.places.Place.{Place}
use Rattle.ad_apply.specs.declared.places.Place.TheVariants as places
use Rattle.ad_apply.specs.declared.steps.Step.{Step}
use Rattle.ad_syntax_laws.specs.OntologyModule.{values}
use Rattle.ad_apply.specs.Places.{place_in, is_here, here_from}
use Rattle.ad_apply.specs.Working.{Enters, is_at, IsUnsettled, StayNamed, AreNamed}
use Rattle.ad_apply.proofs.PlacesLemmas.{Agrees, here_whole, here_from-append}

-- sameness of axioms is an equivalence
pub same_axiom-equiv : IsEquivalence same_axiom
unfolding same_axiom
same_axiom-equiv = noted_laws.laws-law

lookup_agrees : {X : Type 0} (a b : Noted) → same_axiom a b ≡ true → (es : List (Bor Noted × X)) → lookup (λ key. same_axiom a key.now) es ≡ lookup (λ key. same_axiom b key.now) es
lookup_agrees a b e [] = refl
lookup_agrees a b e (x ∷ xs) = rw (same_axiom-equiv.congr a b x.0.now e, lookup_agrees a b e xs)

-- same axioms have the same entry
pub place_in-agrees : {S : Type 0} (index : HashMap (Bor Noted) Place S) → Agrees same_axiom same_axiom-equiv (place_in index)
place_in-agrees index a b e = lookup_agrees a b e index.entries

-- an axiom that gets an entry takes none from another
pub StayNamed-enters : (place new : Noted → Option Place) (a : Noted) (p : Place) → Enters place new a p → StayNamed place new
StayNamed-enters place new a p enters x some =
    subst IsSome (sym (enters x)) (elim (same_axiom a x) as (λ s. IsSome (cond s (Some p) (place x))) [ true ↦ refl | false ↦ some ])

-- it has one itself
pub named_itself : (place new : Noted → Option Place) (a : Noted) (p : Place) → Enters place new a p → IsSome (new a)
named_itself place new a p enters =
    subst IsSome (sym (enters a ∙ ap (λ s. cond s (Some p) (place a)) (same_axiom-equiv.refl a))) refl

pub unsettled_absent : (place new : Noted → Option Place) (a : Noted) → Enters place new a places.Absent → IsUnsettled place → IsUnsettled new
unsettled_absent place new a enters un x =
    ap is_at (enters x) ∙ elim (same_axiom a x) as (λ s. is_at (cond s (Some places.Absent) (place x)) ≡ false) [ true ↦ refl | false ↦ un x ]

-- one more operation whose axiom has an entry
pub named_more : (place new : Noted → Option Place) (steps : List Step) (i : ℕ) (step : Step) (p : Place) → i < length steps → step ≡ get_or steps i step → Enters place new (arc_value step.noted) p → AreNamed place steps i → AreNamed new steps (i + 1)
named_more place new steps i step p within read enters named =
    let Named : ℕ → Type 0 = λ k. (d : Step) → IsSome (new (arc_value (get_or steps k d).noted)) in
    let below : (k : ℕ) → k < i → Named k = λ k l d. StayNamed-enters place new (arc_value step.noted) p enters (arc_value (get_or steps k d).noted) (named k d l) in
    let here : Named i = λ d. subst (λ (s : Step). IsSome (new (arc_value s.noted))) (get_or_read steps i step within read d) (named_itself place new (arc_value step.noted) p enters) in
    λ k d l. below_more Named i below here k l d

-- the value of a shared axiom at a place
pub value_at : {Z : Type 0} (arcs : List (Arc Noted Z)) (i : ℕ) (arc : Arc Noted Z) → i < length arcs → arc ≡ get_or arcs i arc → (d : Noted) → get_or (values arcs) i d ≡ arc_value arc
value_at {Z} arcs i arc within read d =
    get_or-map (λ (a : Arc Noted Z). arc_value a) arcs i arc d within ∙ ap (λ (a : Arc Noted Z). arc_value a) (sym read)

pub length-values : {Z : Type 0} (arcs : List (Arc Noted Z)) → length (values arcs) ≡ length arcs
length-values {Z} arcs = length-map arcs (λ (a : Arc Noted Z). arc_value a)

pub values-push : {Z : Type 0} (arcs : List (Arc Noted Z)) (arc : Arc Noted Z) → values (arcs ++ arc ∷ []) ≡ values arcs ++ arc_value arc ∷ []
values-push {Z} arcs arc = map-append (λ (a : Arc Noted Z). arc_value a) arcs (arc ∷ [])

-- the first i axioms of the edition before are seated
pub record Seated (place : Noted → Option Place) (old : List Noted) (i : ℕ) : Type 0 where
  pub sits : (x : Noted) (j : ℕ) → place x ≡ Some (places.At j) → (j < i) × (same_axiom (get_or old j x) x ≡ true)
  pub stands : (j : ℕ) (d : Noted) → j < i → is_here (place (get_or old j d)) j ≡ true

-- what seating an axiom does to the entries
abbrev pub Seats : (Noted → Option Place) → (Noted → Option Place) → Noted → ℕ → Type 0
Seats place new x i = (y : Noted) → new y ≡ cond (is_some (place x) && same_axiom x y) (Some (places.At i)) (place y)

at_number : (i j : ℕ) → Some (places.At i) ≡ Some (places.At j) → i ≡ j
at_number i j e = cc

pub nat_eq-itself : (n : ℕ) → nat_eq n n ≡ true
nat_eq-itself n = search rules

and_false : (b : Bool) → (b && false) ≡ false
and_false true = refl
and_false false = refl

and_right : (a b : Bool) → (a && b) ≡ true → b ≡ true
and_right true b e = e
and_right false b e = absurd (let h : false ≡ true = e in cc)

none_here : (p : Option Place) (i : ℕ) → is_some p ≡ false → is_here p i ≡ true
none_here None i e = refl
none_here (Some p) i e = absurd (let h : true ≡ false = e in cc)

pub Seated-start : (place : Noted → Option Place) (old : List Noted) → IsUnsettled place → Seated place old 0
Seated-start place old un = record {
  sits = λ x j e. absurd (let h : true ≡ false = sym (ap is_at e) ∙ un x in cc);
  stands = λ j d l. absurd (omega arith);
}

pub Seated-more : (place new : Noted → Option Place) (old : List Noted) (i : ℕ) (x : Noted) → IsDistinct same_axiom old → i < length old → ((d : Noted) → get_or old i d ≡ x) → Seats place new x i → Seated place old i → Seated new old (i + 1)
Seated-more place new old i x distinct within at_i seats seated = record {
  sits = λ y j is.
      elim (is_some (place x) && same_axiom x y) as (λ b. (is_some (place x) && same_axiom x y) ≡ b → (j < i + 1) × (same_axiom (get_or old j y) y ≡ true)) [
        | true ↦ λ e.
            let now : new y ≡ Some (places.At i) = seats y ∙ ap (λ b. cond b (Some (places.At i)) (place y)) e in
            let same_place : i ≡ j = at_number i j (sym now ∙ is) in
            subst (λ k. (k < i + 1) × (same_axiom (get_or old k y) y ≡ true)) same_place (omega arith, rw (at_i y) (and_right (is_some (place x)) (same_axiom x y) e))
        | false ↦ λ e.
            let kept : new y ≡ place y = seats y ∙ ap (λ b. cond b (Some (places.At i)) (place y)) e in
            let sat = seated.sits y j (sym kept ∙ is) in
            (omega (arith, sat.0), sat.1)
      ] refl;
  stands = λ j d l. below_more (λ k. (d : Noted) → is_here (new (get_or old k d)) k ≡ true) i
      (λ k k_below d.
      let apart : same_axiom x (get_or old k d) ≡ false = ap (λ v. same_axiom v (get_or old k d)) (sym (at_i d)) ∙ same_axiom-equiv.symm (get_or old i d) (get_or old k d) ∙ apart_from_distinct same_axiom old k i d distinct k_below within in
      let kept : new (get_or old k d) ≡ place (get_or old k d) = seats (get_or old k d) ∙ ap (λ b. cond (is_some (place x) && b) (Some (places.At i)) (place (get_or old k d))) apart ∙ ap (λ b. cond b (Some (places.At i)) (place (get_or old k d))) (and_false (is_some (place x))) in
      ap (λ p. is_here p k) kept ∙ seated.stands k d k_below)
      (λ d.
      let itself : same_axiom x x ≡ true = same_axiom-equiv.refl x in
      ap (λ v. is_here (new v) i) (at_i d) ∙ ap (λ p. is_here p i) (seats x) ∙ ap (λ b. is_here (cond (is_some (place x) && b) (Some (places.At i)) (place x)) i) itself ∙
      elim (is_some (place x)) as (λ b. is_some (place x) ≡ b → is_here (cond (b && true) (Some (places.At i)) (place x)) i ≡ true) [
        | true ↦ λ e. nat_eq-itself i
        | false ↦ λ e. none_here (place x) i e
      ] refl)
      j l d;
}

-- seated axioms all stand in their places
pub Seated-whole : (place : Noted → Option Place) (old : List Noted) → Seated place old (length old) → here_from place 0 old ≡ old
Seated-whole place old seated =
    here_whole place 0 old (λ j n d l e. subst (λ k. is_here (place (get_or old j d)) k ≡ true) (let same_place : j ≡ n = omega arith in same_place) (seated.stands j d l))

pub StayNamed-seats : (place new : Noted → Option Place) (x : Noted) (i : ℕ) → Seats place new x i → StayNamed place new
StayNamed-seats place new x i seats y some =
    subst IsSome (sym (seats y)) (elim (is_some (place x) && same_axiom x y) as (λ b. IsSome (cond b (Some (places.At i)) (place y))) [ true ↦ refl | false ↦ some ])

-- one more axiom is kept or passed over
pub keep_more : (place : Noted → Option Place) (first i : ℕ) (all kept before : List Noted) (x : Noted) → i < length all → ((d : Noted) → get_or all i d ≡ x) → kept ≡ before ++ here_from place first (take i all) → kept ++ cond (is_here (place x) (first + i)) (x ∷ []) [] ≡ before ++ here_from place first (take (i + 1) all)
keep_more place first i all kept before x within at_i so_far =
    let longer : take (i + 1) all ≡ take i all ++ x ∷ [] = ap (λ n. take n all) (let s : i + 1 ≡ suc i = omega arith in s) ∙ take-suc all i x within ∙ ap (λ y. take i all ++ y ∷ []) (at_i x) in
    let split = here_from-append place first (first + i) (take i all) (x ∷ []) (omega (arith, length-take i all)) in
    ap (λ k. k ++ cond (is_here (place x) (first + i)) (x ∷ []) []) so_far ∙ append_assoc before (here_from place first (take i all)) (cond (is_here (place x) (first + i)) (x ∷ []) []) ∙ ap (λ k. before ++ k) (sym split) ∙ ap (λ k. before ++ here_from place first k) (sym longer)
