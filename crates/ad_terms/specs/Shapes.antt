-- How many arguments a keyword takes, and as what each is read.
use Rattle.std.specs.Prelude.{List, [], ◌∷◌, Option, None, Some}
use Rattle.std.specs.Option.{option_map, option_zip}
use Rattle.ad_terms.specs.declared.item.StackItem.{StackItem}

-- what the first argument is read as, if there is one
abbrev pub top_read : {A : Type 0} → (StackItem → Option A) → List StackItem → Option A
top_read f [] = None
top_read f (a ∷ items) = f a

-- the arguments behind the first
abbrev pub behind_top : List StackItem → List StackItem
behind_top [] = []
behind_top (a ∷ items) = items

-- what the first two are read as
abbrev pub top_two : {A B : Type 0} → (StackItem → Option A) → (StackItem → Option B) → List StackItem → Option (A × B)
top_two f g items = option_zip (top_read f items) (top_read g (behind_top items))

abbrev pub one : {A : Type 0} → (StackItem → Option A) → List StackItem → Option A
one f (a ∷ []) = f a
one f _ = None

abbrev pub two : {A B : Type 0} → (StackItem → Option A) → (StackItem → Option B) → List StackItem → Option (A × B)
two f g items = option_zip (top_read f items) (one g (behind_top items))

abbrev pub three : {A B C : Type 0} → (StackItem → Option A) → (StackItem → Option B) → (StackItem → Option C) → List StackItem → Option (A × (B × C))
three f g h items = option_zip (top_read f items) (two g h (behind_top items))

-- an argument that may be absent
abbrev pub optional : {A : Type 0} → (StackItem → Option A) → List StackItem → Option (Option A)
optional f [] = Some None
optional f (a ∷ items) = option_map Some (one f (a ∷ items))

-- an argument, and one that may be absent
abbrev pub optional_behind : {A B : Type 0} → (StackItem → Option A) → (StackItem → Option B) → List StackItem → Option (A × Option B)
optional_behind f g items = option_zip (top_read f items) (optional g (behind_top items))

-- two arguments, and a third that may be absent
abbrev pub counted : {A B C : Type 0} → (StackItem → Option A) → (StackItem → Option B) → (StackItem → Option C) → List StackItem → Option (A × (B × Option C))
counted f g h items = option_zip (top_read f items) (optional_behind g h (behind_top items))

abbrev pub more : {A : Type 0} → Option A → Option (List A) → Option (List A)
more (Some a) (Some others) = Some (a ∷ others)
more _ _ = None

abbrev pub each : {A : Type 0} → (StackItem → Option A) → List StackItem → Option (List A)
each f [] = Some []
each f (a ∷ items) = more (f a) (each f items)

abbrev pub first_and_each : {A B : Type 0} → (StackItem → Option A) → (StackItem → Option B) → List StackItem → Option (A × List B)
first_and_each f g items = option_zip (top_read f items) (each g (behind_top items))
