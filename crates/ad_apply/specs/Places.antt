-- Where the axioms of a batch stand while it is applied. The list of places has the axioms of the edition before, and
-- after them those that were added, in order; an axiom that is taken out leaves its place empty.
use Rattle.std.specs.Prelude.{◌≡◌, ℕ, ◌<◌, Bool, true, false, cond, List, [], ◌∷◌, Option, None, Some, nat_eq, length, slice_index_or, suc}
use Rattle.std.specs.HashMap.{HashMap, get_by}
use Rattle.std.specs.Borrow.{Bor}
use Rattle.ad_apply.specs.Same.{same_axiom}
use Rattle.ad_tree.specs.declared.axioms.Noted.{Noted}
use Rattle.ad_apply.specs.declared.places.Place.{Place}
use Rattle.ad_apply.specs.declared.places.Place.TheVariants as places

-- what an index says of an axiom: nothing, where the batch doesn't name it
abbrev pub place_in : {S : Type 0} → HashMap (Bor Noted) Place S → Noted → Option Place
place_in index a = get_by (λ key. same_axiom a key.now) index

-- whether what has this entry stands in place i
abbrev pub is_here : Option Place → ℕ → Bool
is_here None i = true
is_here (Some places.Absent) i = false
is_here (Some (places.At j)) i = nat_eq j i

-- what stands in its place, of all in the places from i on
abbrev pub here_from : {X : Type 0} → (X → Option Place) → ℕ → List X → List X
here_from place i [] = []
here_from place i (x ∷ xs) = cond (is_here (place x) i) (x ∷ here_from place (suc i) xs) (here_from place (suc i) xs)

-- what is said to stand in a place stands there
abbrev pub Sits : {X : Type 0} → (X → X → Bool) → (X → Option Place) → List X → Type 0
Sits {X} same place all = (x : X) (i : ℕ) → place x ≡ Some (places.At i) → (i < length all) × (same (slice_index_or all i x) x ≡ true)
