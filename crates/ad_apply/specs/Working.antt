-- A batch that is being applied: what was done so far, and what the ontology has come to.
use Rattle.std.specs.Prelude.{◌≡◌, ℕ, ◌+◌, ◌<◌, Bool, true, false, cond, List, [], ◌∷◌, ◌++◌, Option, None, Some, IsSome, length, slice_index_or}
use Rattle.std.specs.Arc.{arc_value}
use Rattle.ad_apply.specs.Same.{same_axiom}
use Rattle.ad_tree.specs.declared.axioms.Noted.{Noted}
use Rattle.ad_tree.specs.declared.edits.Sign.{Sign}
use Rattle.ad_tree.specs.declared.edits.Sign.TheVariants as signs
use Rattle.ad_apply.specs.Apply.{Counts}
use Rattle.ad_syntax_laws.specs.OntologyModule.{values}
use Rattle.ad_apply.specs.Places.{place_in, here_from, Sits}
use Rattle.ad_apply.specs.declared.places.Place.{Place}
use Rattle.ad_apply.specs.declared.places.Place.TheVariants as places
use Rattle.ad_apply.specs.declared.steps.Step.{Step}
use Rattle.ad_apply.specs.declared.working.Done.{Done}
use Rattle.ad_apply.specs.declared.working.Working.{Working}

abbrev pub counts_in : Done → Counts
counts_in done = record { added = done.added; already = done.already; removed = done.removed; absent = done.absent }

-- how many operations were counted
abbrev pub total_of : Counts → ℕ
total_of c = c.added + c.already + c.removed + c.absent

-- whether an axiom with this entry stands somewhere
abbrev pub is_at : Option Place → Bool
is_at None = false
is_at (Some places.Absent) = false
is_at (Some (places.At i)) = true

-- where an axiom stands
abbrev pub place_now : Working → Noted → Option Place
place_now working a = place_in working.index a

-- all places: those of the edition before, and behind them those of the axioms that were added
abbrev pub all_places : List Noted → Working → List Noted
all_places old working = old ++ values working.added.items

-- the edition before has these axioms, and the ontology has come to that one
pub record ComesTo (old : List Noted) (working : Working) (ontology : List Noted) : Type 0 where
  pub based : working.base ≡ length old
  pub counted : working.done.added ≡ length (values working.added.items)
  pub sits : Sits same_axiom (place_now working) (all_places old working)
  pub stands : here_from (place_now working) 0 (all_places old working) ≡ ontology

-- one axiom gets an entry, the others keep theirs
abbrev pub Enters : (Noted → Option Place) → (Noted → Option Place) → Noted → Place → Type 0
Enters place new a p = (x : Noted) → new x ≡ cond (same_axiom a x) (Some p) (place x)

-- an axiom gets the next place
pub record AddsOne (old new : Working) (a : Noted) : Type 0 where
  pub entries : Enters (place_now old) (place_now new) a (places.At (old.base + old.done.added))
  pub added : values new.added.items ≡ values old.added.items ++ a ∷ []
  pub base : new.base ≡ old.base
  pub done : new.done ≡ record old.done { added = old.done.added + 1 }

-- an axiom leaves its place
pub record TakesOne (old new : Working) (a : Noted) : Type 0 where
  pub entries : Enters (place_now old) (place_now new) a places.Absent
  pub added : new.added.items ≡ old.added.items
  pub base : new.base ≡ old.base
  pub done : new.done ≡ record old.done { removed = old.done.removed + 1 }

-- what an operation does, on an axiom that stands somewhere or not
abbrev pub Does : Sign → Bool → Working → Working → Noted → Type 0
Does signs.Add false old new a = AddsOne old new a
Does signs.Add true old new a = new ≡ record old { done = record old.done { already = old.done.already + 1 } }
Does signs.Remove true old new a = TakesOne old new a
Does signs.Remove false old new a = new ≡ record old { done = record old.done { absent = old.done.absent + 1 } }

-- each of the first n operations speaks of an axiom that has an entry
abbrev pub AreNamed : (Noted → Option Place) → List Step → ℕ → Type 0
AreNamed place steps n = (k : ℕ) (d : Step) → k < n → IsSome (place (arc_value (slice_index_or steps k d).noted))

-- an axiom that has an entry before has one afterwards
abbrev pub StayNamed : (Noted → Option Place) → (Noted → Option Place) → Type 0
StayNamed place new = (a : Noted) → IsSome (place a) → IsSome (new a)

-- no axiom is said to stand anywhere
abbrev pub IsUnsettled : (Noted → Option Place) → Type 0
IsUnsettled place = (a : Noted) → is_at (place a) ≡ false
