-- The ontology that is generated of a size. Its classes have the numbers from 0 up to the size and are declared. Each
-- but the first is below the class of half its number; that of each tenth is equivalent to another, and that of each
-- hundredth is below the class of everything too.
use Rattle.std.specs.Prelude.{ℕ, ◌+◌, ◌/◌, ◌%◌, ◌==◌, if◌then◌else◌, List, [], ◌∷◌, ◌++◌, map}
use Rattle.std.specs.List.{flat_map, range_with_len}
use Rattle.ad_entity.specs.Entities.{entity}
use Rattle.ad_entity.specs.declared.entities.EntityKind.TheVariants as kinds
use Rattle.ad_tree.specs.declared.axioms.Axiom.{Axiom}
use Rattle.ad_tree.specs.declared.axioms.Axiom.TheVariants as axioms
use Rattle.ad_tree.specs.declared.axioms.Noted.{Noted}
use Rattle.ad_tree.specs.declared.classes.Class.TheVariants as classes
use Rattle.ad_tree.specs.declared.edits.Op.{Op}
use Rattle.ad_tree.specs.declared.edits.Sign.TheVariants as signs
use Rattle.ad_gen.specs.Names.{class_name, thing, twin_name}

-- an axiom without annotations
abbrev pub plain : Axiom → Noted
plain form = record { notes = []; «axiom» = form }

-- the class with this number is declared
abbrev pub declaration : ℕ → Noted
declaration number = plain (axioms.Declaration (entity kinds.Class (class_name number)))

-- one class is below another
abbrev pub below : List ℕ → List ℕ → Noted
below lower upper = plain (axioms.SubClassOf (classes.Named lower) (classes.Named upper))

-- two classes are equivalent
abbrev pub equal : List ℕ → List ℕ → Noted
equal first second = plain (axioms.EquivalentClasses (classes.Named first ∷ classes.Named second ∷ []))

-- the class with this number is below the class of half its number
abbrev pub below_half : ℕ → Noted
below_half number = below (class_name number) (class_name (number / 2))

-- it is equivalent to its twin
abbrev pub equal_to_twin : ℕ → Noted
equal_to_twin number = equal (class_name number) (twin_name number)

-- it is below the class of everything
abbrev pub below_everything : ℕ → Noted
below_everything number = below (class_name number) thing

-- this axiom, where the divisor divides the number
abbrev pub where_divided : ℕ → ℕ → Noted → List Noted
where_divided divisor number noted = if number % divisor == 0 then noted ∷ [] else []

-- the logical axioms of the class with this number
abbrev pub axioms_of_class : ℕ → List Noted
axioms_of_class number = below_half number ∷ (where_divided 10 number (equal_to_twin number) ++ where_divided 100 number (below_everything number))

-- the declarations of the classes from 0 up to this number
abbrev pub declarations : ℕ → List Noted
declarations size = map declaration (range_with_len 0 (size + 1))

-- the logical axioms of the classes from 1 up to this number
abbrev pub axioms_of_classes : ℕ → List Noted
axioms_of_classes size = flat_map axioms_of_class (range_with_len 1 size)

-- the ontology of this size
unfoldable pub generated : ℕ → List Noted
generated size = declarations size ++ axioms_of_classes size

-- the addition of an axiom
abbrev pub added : Noted → Op
added noted = record { sign = signs.Add; noted = noted }
