-- What one operation does to the ontology, and what all operations of a batch come to.
use Rattle.std.proofs.Common.{◌≡◌, ℕ, suc, zero, ◌+◌, ◌<◌, ◌≤◌, Bool, true, false, not, cond, ◌||◌, List, [], ◌∷◌, ◌++◌, Option, None, Some, IsSome, length, get_or, take, drop, refl, ap, sym, ◌∙◌, arith, subst, length-append, append_assoc, append-nil}
use Rattle.std.specs.List.{filter, list_any}
use Rattle.std.specs.Arc.{arc_value}
use Rattle.std.proofs.lemmas.List.{get_or-map, get_or_append_left, length-map}
use Rattle.std.proofs.lemmas.List.Filters.{length-filter_more}
use Rattle.std.proofs.Math.Seq.{drop-cons, get_or-append_seam}
use Rattle.ad_apply.specs.Same.{same_axiom}
use Rattle.ad_tree.specs.declared.axioms.Noted.{Noted}
use Rattle.ad_tree.specs.declared.edits.Op.{Op}
use Rattle.ad_tree.specs.declared.edits.Sign.{Sign}
use Rattle.ad_tree.specs.declared.edits.Sign.TheVariants as signs
use Rattle.ad_apply.specs.declared.places.Place.{Place}
use Rattle.ad_apply.specs.declared.places.Place.TheVariants as places
use Rattle.ad_apply.specs.declared.steps.Step.{Step}
use Rattle.ad_apply.specs.declared.working.Done.{Done}
use Rattle.ad_apply.specs.declared.working.Working.{Working}
use Rattle.ad_apply.specs.Apply.{Counts, counted, counts_from, has_axiom, without, done, done_by, applied}
use Rattle.ad_tree.specs.Logical.{is_logical}
use Rattle.ad_syntax_laws.specs.OntologyModule.{logical, values}
use Rattle.ad_apply.specs.Places.{is_here, here_from, Sits}
use Rattle.ad_apply.specs.Steps.{op_in, batch_in}
use Rattle.ad_apply.specs.Working.{is_at, StayNamed, AreNamed, ComesTo, AddsOne, TakesOne, Does, place_now, all_places, counts_in, total_of}
use Rattle.ad_apply.proofs.PlacesLemmas.{here_from-append, absent_has, here_has, here_removed, here_added, Sits-removed, Sits-added}
use Rattle.ad_apply.proofs.WorkingLemmas.{same_axiom-equiv, place_in-agrees, StayNamed-enters, nat_eq-itself}

absent_entry : (p : Option Place) → IsSome p → is_at p ≡ false → p ≡ Some places.Absent
absent_entry None some e = absurd (let h : false ≡ true = some in cc)
absent_entry (Some places.Absent) some e = refl
absent_entry (Some (places.At i)) some e = absurd (let h : true ≡ false = e in cc)

-- an axiom with an entry is in the ontology where it is said to stand somewhere
pub has-comes_to : (old ontology : List Noted) (w : Working) (a : Noted) → ComesTo old w ontology → IsSome (place_now w a) → has_axiom ontology a ≡ is_at (place_now w a)
has-comes_to old ontology w a comes some =
    let all = all_places old w in
    let in_places : (b : Bool) → list_any (λ b'. same_axiom b' a) (here_from (place_now w) 0 all) ≡ b → has_axiom ontology a ≡ b = λ b e. subst (λ (o : List Noted). has_axiom o a ≡ b) comes.stands e in
    elim (place_now w a) as (λ p. place_now w a ≡ p → IsSome p → has_axiom ontology a ≡ is_at p) [
      | None ↦ λ e s. absurd (let h : false ≡ true = s in cc)
      | Some p ↦ λ e s. elim p as (λ q. place_now w a ≡ Some q → has_axiom ontology a ≡ is_at (Some q)) [
        | places.Absent ↦ λ f. in_places false (absent_has same_axiom same_axiom-equiv (place_now w) a (place_in-agrees w.index) f 0 all)
        | places.At i ↦ λ f.
            let sat = comes.sits a i f in
            let stands : is_here (place_now w (get_or all i a)) i ≡ true = ap (λ q. is_here q i) (place_in-agrees w.index (get_or all i a) a sat.1 ∙ f) ∙ nat_eq-itself i in
            in_places true (here_has same_axiom same_axiom-equiv (place_now w) a 0 all i i sat.0 (omega arith) sat.1 stands)
      ] e
    ] refl some

without_absent : (a : Noted) (xs : List Noted) → list_any (λ b. same_axiom b a) xs ≡ false → filter (λ b. not (same_axiom b a)) xs ≡ xs
without_absent a [] none = refl
without_absent a (x ∷ xs) none =
    elim (same_axiom x a) as (λ s. same_axiom x a ≡ s → filter (λ b. not (same_axiom b a)) (x ∷ xs) ≡ x ∷ xs) [
      | true ↦ λ e. absurd (let h : true ≡ false = sym (ap (λ s. s || list_any (λ b. same_axiom b a) xs) e) ∙ none in cc)
      | false ↦ λ e.
          let rest : list_any (λ b. same_axiom b a) xs ≡ false = sym (ap (λ s. s || list_any (λ b. same_axiom b a) xs) e) ∙ none in
          rw e (ap (λ ys. x ∷ ys) (without_absent a xs rest))
    ] refl

adds : (old ontology : List Noted) (w w' : Working) (a : Noted) → is_at (place_now w a) ≡ false → IsSome (place_now w a) → ComesTo old w ontology → AddsOne w w' a → ComesTo old w' (ontology ++ a ∷ [])
adds old ontology w w' a out some comes one =
    let xs = all_places old w in
    let n : ℕ = w.base + w.done.added in
    let n_is : n ≡ length xs = omega (arith, comes.based, comes.counted, length-append old (values w.added.items)) in
    let longer : all_places old w' ≡ xs ++ a ∷ [] = ap (λ vs. old ++ vs) one.added ∙ sym (append_assoc old (values w.added.items) (a ∷ [])) in
    let absent : place_now w a ≡ Some places.Absent = absent_entry (place_now w a) some out in
    record {
      based = one.base ∙ comes.based;
      counted = omega (arith, ap (λ (d : Done). d.added) one.done, comes.counted, ap length one.added, length-append (values w.added.items) (a ∷ []));
      sits = subst (λ (ys : List Noted). Sits same_axiom (place_now w') ys) (sym longer)
          (Sits-added same_axiom same_axiom-equiv (place_now w) (place_now w') a n xs (xs ++ a ∷ []) one.entries comes.sits
          (omega (arith, length-append xs (a ∷ [])))
          (λ d. ap (λ k. get_or (xs ++ a ∷ []) k d) n_is ∙ get_or-append_seam xs a [] d)
          (omega (arith, length-append xs (a ∷ [])))
          (λ i d l. get_or_append_left xs (a ∷ []) d i l));
      stands = ap (λ ys. here_from (place_now w') 0 ys) longer ∙ here_added same_axiom same_axiom-equiv (place_now w) (place_now w') a n (place_in-agrees w.index) absent one.entries 0 xs (omega (arith, n_is)) ∙ ap (λ o. o ++ a ∷ []) comes.stands;
    }

takes : (old ontology : List Noted) (w w' : Working) (a : Noted) → ComesTo old w ontology → TakesOne w w' a → ComesTo old w' (without ontology a)
takes old ontology w w' a comes one =
    let xs = all_places old w in
    let same_places : all_places old w' ≡ xs = ap (λ arcs. old ++ values arcs) one.added in
    record {
      based = one.base ∙ comes.based;
      counted = ap (λ (d : Done). d.added) one.done ∙ comes.counted ∙ ap (λ arcs. length (values arcs)) (sym one.added);
      sits = subst (λ (ys : List Noted). Sits same_axiom (place_now w') ys) (sym same_places) (Sits-removed same_axiom same_axiom-equiv (place_now w) (place_now w') a xs one.entries comes.sits);
      stands = ap (λ ys. here_from (place_now w') 0 ys) same_places ∙ here_removed same_axiom same_axiom-equiv (place_now w) (place_now w') a one.entries 0 xs ∙ ap (λ o. without o a) comes.stands;
    }

-- counts alone change
counts_only : (old ontology : List Noted) (w : Working) (done' : Done) → done'.added ≡ w.done.added → ComesTo old w ontology → ComesTo old (record w { done = done' }) ontology
counts_only old ontology w done' e comes = record { based = comes.based; counted = e ∙ comes.counted; sits = comes.sits; stands = comes.stands }

-- what the ontology comes to after an operation
pub comes_to_after : (old ontology : List Noted) (w w' : Working) (a : Noted) (sign : Sign) (b : Bool) → is_at (place_now w a) ≡ b → IsSome (place_now w a) → ComesTo old w ontology → Does sign b w w' a → ComesTo old w' (done sign ontology a)
comes_to_after old ontology w w' a signs.Add false e some comes does =
    subst (λ h. ComesTo old w' (cond h ontology (ontology ++ a ∷ []))) (sym (has-comes_to old ontology w a comes some ∙ e)) (adds old ontology w w' a e some comes does)
comes_to_after old ontology w w' a signs.Add true e some comes does =
    subst (λ h. ComesTo old w' (cond h ontology (ontology ++ a ∷ []))) (sym (has-comes_to old ontology w a comes some ∙ e))
    (subst (λ (v : Working). ComesTo old v ontology) (sym does) (counts_only old ontology w (record w.done { already = w.done.already + 1 }) refl comes))
comes_to_after old ontology w w' a signs.Remove true e some comes does = takes old ontology w w' a comes does
comes_to_after old ontology w w' a signs.Remove false e some comes does =
    subst (λ (o : List Noted). ComesTo old w' o) (sym (without_absent a ontology (has-comes_to old ontology w a comes some ∙ e)))
    (subst (λ (v : Working). ComesTo old v ontology) (sym does) (counts_only old ontology w (record w.done { absent = w.done.absent + 1 }) refl comes))

-- what it counts
counts_by : (w w' : Working) (a : Noted) (sign : Sign) (b : Bool) → Does sign b w w' a → counts_in w'.done ≡ counted sign b (counts_in w.done)
counts_by w w' a signs.Add false does = ap counts_in does.done
counts_by w w' a signs.Add true does = ap (λ (v : Working). counts_in v.done) does
counts_by w w' a signs.Remove true does = ap counts_in does.done
counts_by w w' a signs.Remove false does = ap (λ (v : Working). counts_in v.done) does

pub total-counted : (sign : Sign) (b : Bool) (c : Counts) → total_of (counted sign b c) ≡ total_of c + 1
total-counted signs.Add false c = omega arith
total-counted signs.Add true c = omega arith
total-counted signs.Remove true c = omega arith
total-counted signs.Remove false c = omega arith

named_after : (w w' : Working) (a : Noted) (sign : Sign) (b : Bool) → Does sign b w w' a → StayNamed (place_now w) (place_now w')
named_after w w' a signs.Add false does = StayNamed-enters (place_now w) (place_now w') a (places.At (w.base + w.done.added)) does.entries
named_after w w' a signs.Add true does = λ x some. subst (λ (v : Working). IsSome (place_now v x)) (sym does) some
named_after w w' a signs.Remove true does = StayNamed-enters (place_now w) (place_now w') a places.Absent does.entries
named_after w w' a signs.Remove false does = λ x some. subst (λ (v : Working). IsSome (place_now v x)) (sym does) some

-- after i operations of the batch: the rest of the batch does what the whole batch does from the start
pub record GoesTo (old ontology : List Noted) (before now : Working) (batch : List Op) (i : ℕ) : Type 0 where
  pub mid : List Noted
  pub at : ComesTo old now mid
  pub rest : applied mid (drop i batch) ≡ applied ontology batch
  pub counts : counts_from (counts_in now.done) mid (drop i batch) ≡ counts_from (counts_in before.done) ontology batch

pub record Going (before now : Working) (steps : List Step) (i : ℕ) : Type 0 where
  pub named : AreNamed (place_now now) steps (length steps)
  pub total : total_of (counts_in now.done) ≡ i
  pub goes : (old ontology : List Noted) → ComesTo old before ontology → GoesTo old ontology before now (batch_in steps) i

pub Going-start : (before : Working) (steps : List Step) → AreNamed (place_now before) steps (length steps) → total_of (counts_in before.done) ≡ 0 → Going before before steps 0
Going-start before steps named fresh = record {
  named = named;
  total = fresh;
  goes = λ old ontology comes. record { mid = ontology; at = comes; rest = refl; counts = refl };
}

pub Going-more : (before w w' : Working) (steps : List Step) (i : ℕ) (step : Step) → i < length steps → step ≡ get_or steps i step → Does step.sign (is_at (place_now w (arc_value step.noted))) w w' (arc_value step.noted) → Going before w steps i → Going before w' steps (i + 1)
Going-more before w w' steps i step within read does going =
    let a = arc_value step.noted in
    let b = is_at (place_now w a) in
    let some : IsSome (place_now w a) = subst (λ (s : Step). IsSome (place_now w (arc_value s.noted))) (sym read) (going.named i step within) in
    let batch = batch_in steps in
    let one : get_or batch i (op_in step) ≡ op_in step = get_or-map op_in steps i step (op_in step) within ∙ ap op_in (sym read) in
    let head : drop i batch ≡ op_in step ∷ drop (i + 1) batch = drop-cons batch i (op_in step) (omega (arith, length-map steps op_in)) ∙ ap (λ op. op ∷ drop (suc i) batch) one ∙ ap (λ k. op_in step ∷ drop k batch) (let s : suc i ≡ i + 1 = omega arith in s) in
    record {
      named = λ k d l. named_after w w' a step.sign b does (arc_value (get_or steps k d).noted) (going.named k d l);
      total = ap total_of (counts_by w w' a step.sign b does) ∙ total-counted step.sign b (counts_in w.done) ∙ ap (λ n. n + 1) going.total;
      goes = λ old ontology comes.
          let to = going.goes old ontology comes in
          let has : b ≡ has_axiom to.mid a = sym (has-comes_to old to.mid w a to.at some) in
          let now_counts : counts_in w'.done ≡ counted step.sign (has_axiom to.mid a) (counts_in w.done) = counts_by w w' a step.sign b does ∙ ap (λ h. counted step.sign h (counts_in w.done)) has in
          record {
            mid = done_by to.mid (op_in step);
            at = comes_to_after old to.mid w w' a step.sign b refl some to.at does;
            rest = sym (ap (λ ops. applied to.mid ops) head) ∙ to.rest;
            counts = ap (λ c. counts_from c (done_by to.mid (op_in step)) (drop (i + 1) batch)) now_counts ∙ sym (ap (λ ops. counts_from (counts_in w.done) to.mid ops) head) ∙ to.counts;
          };
    }

drop_everything : {X : Type 0} (xs : List X) (i : ℕ) → length xs ≤ i → drop i xs ≡ []
drop_everything [] zero l = refl
drop_everything [] (suc i) l = refl
drop_everything (x ∷ xs) zero l = absurd (omega arith)
drop_everything (x ∷ xs) (suc i) l = drop_everything xs i (omega arith)

pub Going-end : (before now : Working) (steps : List Step) (i : ℕ) → length steps ≤ i → Going before now steps i → (old ontology : List Noted) → ComesTo old before ontology → ComesTo old now (applied ontology (batch_in steps)) × (counts_in now.done ≡ counts_from (counts_in before.done) ontology (batch_in steps))
Going-end before now steps i end going old ontology comes =
    let to = going.goes old ontology comes in
    let none : drop i (batch_in steps) ≡ [] = drop_everything (batch_in steps) i (omega (arith, length-map steps op_in)) in (
      subst (λ (o : List Noted). ComesTo old now o) (sym (ap (λ ops. applied to.mid ops) none) ∙ to.rest) to.at,
      sym (ap (λ ops. counts_from (counts_in now.done) to.mid ops) none) ∙ to.counts,
    )

-- before the first operation the ontology is that of the edition
pub ComesTo-start : (old : List Noted) (w : Working) → w.base ≡ length old → w.done.added ≡ 0 → w.added.items ≡ [] → Sits same_axiom (place_now w) old → here_from (place_now w) 0 old ≡ old → ComesTo old w old
ComesTo-start old w based fresh none sits stands =
    let places_are : all_places old w ≡ old = ap (λ arcs. old ++ values arcs) none ∙ append-nil old in
    record {
      based = based;
      counted = fresh ∙ sym (ap (λ arcs. length (values arcs)) none);
      sits = subst (λ (ys : List Noted). Sits same_axiom (place_now w) ys) (sym places_are) sits;
      stands = ap (λ ys. here_from (place_now w) 0 ys) places_are ∙ stands;
    }

-- what is kept of the old axioms and then of the added ones is the ontology
pub kept_all : (old ontology : List Noted) (w : Working) (n : ℕ) (none first second added : List Noted) → ComesTo old w ontology → n ≡ length old → none ≡ [] → first ≡ none ++ here_from (place_now w) 0 old → added ≡ values w.added.items → second ≡ first ++ here_from (place_now w) n added → second ≡ ontology
kept_all old ontology w n none first second added comes based empty one all two =
    two ∙ ap (λ f. f ++ here_from (place_now w) n added) (one ∙ ap (λ e. e ++ here_from (place_now w) 0 old) empty) ∙ ap (λ vs. here_from (place_now w) 0 old ++ here_from (place_now w) n vs) all
    ∙ sym (here_from-append (place_now w) 0 n old (values w.added.items) (omega (arith, based))) ∙ comes.stands

-- one more axiom counts where it is logical
pub logical_more : (ontology : List Noted) (i : ℕ) (a : Noted) (b : Bool) → i < length ontology → ((d : Noted) → get_or ontology i d ≡ a) → b ≡ is_logical a.axiom → length (logical (take (i + 1) ontology)) ≡ length (logical (take i ontology)) + cond b 1 0
logical_more ontology i a b within at_i is =
    length-filter_more (λ x. is_logical x.axiom) ontology i a within ∙ ap (λ (x : Noted). length (logical (take i ontology)) + cond (is_logical x.axiom) 1 0) (at_i a) ∙ ap (λ t. length (logical (take i ontology)) + cond t 1 0) (sym is)
