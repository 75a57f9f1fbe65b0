-- How items leave a stack, whose list is given from the top on.
use Rattle.std.specs.Prelude.{ℕ, zero, suc, List, [], ◌∷◌, ◌++◌, Option, None, Some}
use Rattle.ad_terms.specs.declared.item.StackItem.{StackItem}
use Rattle.ad_terms.specs.declared.item.StackItem.TheVariants as i
use Rattle.ad_tree.specs.declared.notes.Annotation.{Annotation}

-- an item more at the front of what was taken
abbrev pub taking : {A B : Type 0} → A → List A × B → List A × B
taking a taken = (a ∷ taken.0, taken.1)

-- what was taken, behind what was taken before
abbrev pub behind : {A B : Type 0} → List A → List A × B → List A × B
behind before taken = (before ++ taken.0, taken.1)

-- how many parentheses are open behind an item before which so many are, unless it closes the last
abbrev pub depth_behind : StackItem → ℕ → Option ℕ
depth_behind i.Close zero = None
depth_behind i.Close (suc depth) = Some depth
depth_behind i.Open depth = Some (suc depth)
depth_behind _ depth = Some depth

-- an item, which is taken unless it closes what was taken
abbrev pub taken_at : StackItem → List StackItem → (ℕ → List StackItem × List StackItem) → Option ℕ → List StackItem × List StackItem
taken_at item items gathered None = ([], items)
taken_at item items gathered (Some depth) = taking item (gathered depth)

-- the items up to the parenthesis that closes them, and those behind it; so many parentheses are open
abbrev pub gather : List StackItem → ℕ → List StackItem × List StackItem
gather [] depth = ([], [])
gather (item ∷ items) depth = taken_at item items (gather items) (depth_behind item depth)

-- the annotations at the front, and the items behind them
abbrev pub leading_notes : List StackItem → List Annotation × List StackItem
leading_notes (i.Note note ∷ items) = taking note (leading_notes items)
leading_notes items = ([], items)

-- what stands behind the names in front
abbrev pub behind_names : List StackItem → List StackItem
behind_names (i.Name name ∷ items) = behind_names items
behind_names items = items
