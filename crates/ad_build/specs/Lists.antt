-- The items of a whole text, read as operations or additions.
use Rattle.std.specs.Prelude.{List, [], ◌∷◌, Option, None, Some}
use Rattle.std.specs.Option.{option_map}
use Rattle.ad_tree.specs.declared.axioms.Noted.{Noted}
use Rattle.ad_tree.specs.declared.edits.Op.{Op}
use Rattle.ad_tree.specs.declared.edits.Sign.TheVariants as signs
use Rattle.ad_terms.specs.declared.item.StackItem.{StackItem}
use Rattle.ad_terms.specs.declared.item.StackItem.TheVariants as i
use Rattle.ad_terms.specs.Items.{as_sign, as_axiom}
use Rattle.ad_terms.specs.Shapes.{top_two, more}

-- an axiom that is added
abbrev pub addition : Noted → Op
addition noted = record { sign = signs.Add; noted = noted }

-- a sign, and the axiom that it stands before
abbrev pub operation : List StackItem → Option Op
operation items = option_map (λ p. record { sign = p.0; noted = p.1 }) (top_two as_sign as_axiom items)

abbrev pub operations : List StackItem → Option (List Op)
operations [] = Some []
operations (sign ∷ []) = None
operations (sign ∷ stated ∷ items) = more (operation (sign ∷ stated ∷ [])) (operations items)

-- nothing stands behind the parenthesis that closes the ontology
abbrev pub closed : List StackItem → Option (List Op)
closed [] = Some []
closed (item ∷ items) = None

-- the axioms up to that parenthesis
abbrev pub additions : List StackItem → Option (List Op)
additions (i.Close ∷ items) = closed items
additions (i.Axiom noted ∷ items) = more (Some (addition noted)) (additions items)
additions _ = None
