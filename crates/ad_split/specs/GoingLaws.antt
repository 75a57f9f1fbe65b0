-- There is one proof of how axioms go.
use Rattle.std.specs.Prelude.{ℕ, Bool, List, Option, None, Some}
use Rattle.std.proofs.Props.{props}
use Rattle.ad_numbered.specs.Numbered.{InSlots}
use Rattle.ad_syntax_laws.specs.ModuleDocument.{goes_with}
use Rattle.ad_tree.specs.declared.axioms.Noted.{Noted}
use Rattle.ad_split.specs.Going.{AreGoing, GoesAs, Tells}
use Rattle.ad_split.specs.Slots.{is_about}
use Rattle.ad_split.specs.declared.going.Going.{Going}
use Rattle.ad_split.specs.declared.going.Going.TheVariants.{Asked, Logical, Never, With}

tells_one : (numbers : ℕ) (test : (ℕ → Bool) → Bool) (going : Going) → IsProp (Tells numbers test going)
tells_one numbers test (Logical slot) = hlevel props
tells_one numbers test (With n) = hlevel props
tells_one numbers test Never = hlevel props
tells_one numbers test Asked = hlevel props

goes_one : (ontology : InSlots) (a : Noted) (slot : Option ℕ) (going : Going) → IsProp (GoesAs ontology a slot going)
goes_one ontology a None going = tells_one ontology.symbols (λ closure. goes_with (is_about ontology closure) a.axiom) going
goes_one ontology a (Some slot) (Logical i) = hlevel props
goes_one ontology a (Some slot) (With n) = hlevel props
goes_one ontology a (Some slot) Never = hlevel props
goes_one ontology a (Some slot) Asked = hlevel props

pub going_one : (ontology : InSlots) (going : List Going) → IsProp (AreGoing ontology going)
going_one ontology going = hlevel (props, goes_one)
