-- The equations of the codes of ranges and classes, at each variant.
use Rattle.std.proofs.Common.{◌≡◌, ℕ, List, [], ◌∷◌, ◌++◌, length, map, Option, None, Some, sym, ◌∙◌, ap}
use Rattle.std.specs.List.{flat_map}
use Rattle.std.proofs.lemmas.List.{length-map}
use Rattle.std.proofs.lemmas.List.Folds.{flat_map-map}
use Rattle.ad_locality.specs.Locality.{enumeration}
use Rattle.ad_entity.specs.declared.entities.Entity.{Entity}
use Rattle.ad_entity.specs.declared.entities.EntityKind.TheVariants as kinds
use Rattle.ad_tree.specs.declared.names.ObjProp.{ObjProp}
use Rattle.ad_tree.specs.declared.names.Individual.{Individual}
use Rattle.ad_tree.specs.declared.literals.Literal.{Literal}
use Rattle.ad_tree.specs.declared.literals.Facet.{Facet}
use Rattle.ad_tree.specs.declared.ranges.Range.{Range}
use Rattle.ad_tree.specs.declared.ranges.Range.TheVariants as r
use Rattle.ad_tree.specs.declared.ranges.Range.TheOpen.{Range-F}
use Rattle.ad_tree.specs.declared.ranges.Range.TheViews.{roll-Range}
use Rattle.ad_tree.specs.declared.ranges.Range.TheFolds.{fold-Range, map-Range, fold-roll-Range}
use Rattle.ad_tree.specs.declared.classes.Class.{Class}
use Rattle.ad_tree.specs.declared.classes.Class.TheVariants as c
use Rattle.ad_tree.specs.declared.classes.Class.TheOpen.{Class-F}
use Rattle.ad_tree.specs.declared.classes.Class.TheViews.{roll-Class}
use Rattle.ad_tree.specs.declared.classes.Class.TheFolds.{fold-Class, map-Class, fold-roll-Class}
use Rattle.ad_cells.specs.declared.cell.Cell.{Cell}
use Rattle.ad_cells.specs.declared.cell.Cell.TheVariants as cells
use Rattle.ad_codes.specs.Encoded.{name_cell, property_cell, applied_to, restriction, range_step, range_code, optional_range_code, class_step, class_code, optional_class_code}

applied_to-map : {X : Type 0} (operator : ℕ → Cell) (f : X → List Cell) (xs : List X) → applied_to operator (map f xs) ≡ flat_map f xs ++ operator (length xs) ∷ []
applied_to-map operator f xs =
    ap (λ z. z ++ operator (length (map f xs)) ∷ []) (flat_map-map (λ x. x) f xs)
    ∙ ap (λ n. flat_map f xs ++ operator n ∷ []) (length-map xs f)

module _ (number : Entity → Option ℕ) where
  range_code-at : (x : Range) (y : Range-F Range) → roll-Range y ≡ x → range_code number x ≡ range_step number (map-Range Range (List Cell) (range_code number) y)
  unfolding range_code
  range_code-at x y e = ap (fold-Range (List Cell) (range_step number)) (sym e) ∙ fold-roll-Range (List Cell) (range_step number) y

  pub range_code-named : (datatype : List ℕ) → range_code number (r.Named datatype) ≡ name_cell number kinds.Datatype datatype ∷ []
  range_code-named datatype = range_code-at _ _ (r.rolls-Named datatype)

  pub range_code-intersection : (operands : List Range) → range_code number (r.And operands) ≡ flat_map (range_code number) operands ++ cells.And (length operands) ∷ []
  range_code-intersection operands = range_code-at _ _ (r.rolls-And operands) ∙ applied_to-map cells.And (range_code number) operands

  pub range_code-union : (operands : List Range) → range_code number (r.Or operands) ≡ flat_map (range_code number) operands ++ cells.Or (length operands) ∷ []
  range_code-union operands = range_code-at _ _ (r.rolls-Or operands) ∙ applied_to-map cells.Or (range_code number) operands

  pub range_code-complement : (operand : Range) → range_code number (r.Not operand) ≡ range_code number operand ++ cells.Not ∷ []
  range_code-complement operand = range_code-at _ _ (r.rolls-Not operand)

  pub range_code-one_of : (values : List Literal) → range_code number (r.OneOf values) ≡ cells.Known (enumeration values) ∷ []
  range_code-one_of values = range_code-at _ _ (r.rolls-OneOf values)

  pub range_code-restriction : (datatype : List ℕ) (facets : List Facet) → range_code number (r.Restriction datatype facets) ≡ name_cell number kinds.Datatype datatype ∷ cells.Restricted ∷ []
  range_code-restriction datatype facets = range_code-at _ _ (r.rolls-Restriction datatype facets)

  class_code-at : (x : Class) (y : Class-F Class) → roll-Class y ≡ x → class_code number x ≡ class_step number (map-Class Class (List Cell) (class_code number) y)
  unfolding class_code
  class_code-at x y e = ap (fold-Class (List Cell) (class_step number)) (sym e) ∙ fold-roll-Class (List Cell) (class_step number) y

  pub class_code-named : (class : List ℕ) → class_code number (c.Named class) ≡ name_cell number kinds.Class class ∷ []
  class_code-named class = class_code-at _ _ (c.rolls-Named class)

  pub class_code-intersection : (operands : List Class) → class_code number (c.And operands) ≡ flat_map (class_code number) operands ++ cells.And (length operands) ∷ []
  class_code-intersection operands = class_code-at _ _ (c.rolls-And operands) ∙ applied_to-map cells.And (class_code number) operands

  pub class_code-union : (operands : List Class) → class_code number (c.Or operands) ≡ flat_map (class_code number) operands ++ cells.Or (length operands) ∷ []
  class_code-union operands = class_code-at _ _ (c.rolls-Or operands) ∙ applied_to-map cells.Or (class_code number) operands

  pub class_code-complement : (operand : Class) → class_code number (c.Not operand) ≡ class_code number operand ++ cells.Not ∷ []
  class_code-complement operand = class_code-at _ _ (c.rolls-Not operand)

  pub class_code-one_of : (individuals : List Individual) → class_code number (c.OneOf individuals) ≡ cells.Known (enumeration individuals) ∷ []
  class_code-one_of individuals = class_code-at _ _ (c.rolls-OneOf individuals)

  pub class_code-obj_some : (property : ObjProp) (filler : Class) → class_code number (c.ObjSome property filler) ≡ restriction cells.Some (property_cell number property) (class_code number filler)
  class_code-obj_some property filler = class_code-at _ _ (c.rolls-ObjSome property filler)

  pub class_code-obj_all : (property : ObjProp) (filler : Class) → class_code number (c.ObjAll property filler) ≡ restriction cells.All (property_cell number property) (class_code number filler)
  class_code-obj_all property filler = class_code-at _ _ (c.rolls-ObjAll property filler)

  pub class_code-obj_value : (property : ObjProp) (individual : Individual) → class_code number (c.ObjValue property individual) ≡ property_cell number property ∷ []
  class_code-obj_value property individual = class_code-at _ _ (c.rolls-ObjValue property individual)

  pub class_code-obj_self : (property : ObjProp) → class_code number (c.ObjSelf property) ≡ property_cell number property ∷ []
  class_code-obj_self property = class_code-at _ _ (c.rolls-ObjSelf property)

  pub class_code-obj_min : (n : ℕ) (property : ObjProp) (filler : Option Class) → class_code number (c.ObjMin n property filler) ≡ restriction (cells.AtLeast n) (property_cell number property) (optional_class_code number filler)
  class_code-obj_min n property None = class_code-at _ _ (c.rolls-ObjMin n property None)
  class_code-obj_min n property (Some filler) = class_code-at _ _ (c.rolls-ObjMin n property (Some filler))

  pub class_code-obj_max : (n : ℕ) (property : ObjProp) (filler : Option Class) → class_code number (c.ObjMax n property filler) ≡ restriction (cells.AtMost n) (property_cell number property) (optional_class_code number filler)
  class_code-obj_max n property None = class_code-at _ _ (c.rolls-ObjMax n property None)
  class_code-obj_max n property (Some filler) = class_code-at _ _ (c.rolls-ObjMax n property (Some filler))

  pub class_code-obj_exact : (n : ℕ) (property : ObjProp) (filler : Option Class) → class_code number (c.ObjExact n property filler) ≡ restriction (cells.Exactly n) (property_cell number property) (optional_class_code number filler)
  class_code-obj_exact n property None = class_code-at _ _ (c.rolls-ObjExact n property None)
  class_code-obj_exact n property (Some filler) = class_code-at _ _ (c.rolls-ObjExact n property (Some filler))

  pub class_code-data_some : (property : List ℕ) (range : Range) → class_code number (c.DataSome property range) ≡ restriction cells.Some (name_cell number kinds.DataProperty property) (range_code number range)
  class_code-data_some property range = class_code-at _ _ (c.rolls-DataSome property range)

  pub class_code-data_all : (property : List ℕ) (range : Range) → class_code number (c.DataAll property range) ≡ restriction cells.All (name_cell number kinds.DataProperty property) (range_code number range)
  class_code-data_all property range = class_code-at _ _ (c.rolls-DataAll property range)

  pub class_code-data_value : (property : List ℕ) (value : Literal) → class_code number (c.DataValue property value) ≡ name_cell number kinds.DataProperty property ∷ []
  class_code-data_value property value = class_code-at _ _ (c.rolls-DataValue property value)

  pub class_code-data_min : (n : ℕ) (property : List ℕ) (range : Option Range) → class_code number (c.DataMin n property range) ≡ restriction (cells.AtLeast n) (name_cell number kinds.DataProperty property) (optional_range_code number range)
  class_code-data_min n property range = class_code-at _ _ (c.rolls-DataMin n property range)

  pub class_code-data_max : (n : ℕ) (property : List ℕ) (range : Option Range) → class_code number (c.DataMax n property range) ≡ restriction (cells.AtMost n) (name_cell number kinds.DataProperty property) (optional_range_code number range)
  class_code-data_max n property range = class_code-at _ _ (c.rolls-DataMax n property range)

  pub class_code-data_exact : (n : ℕ) (property : List ℕ) (range : Option Range) → class_code number (c.DataExact n property range) ≡ restriction (cells.Exactly n) (name_cell number kinds.DataProperty property) (optional_range_code number range)
  class_code-data_exact n property range = class_code-at _ _ (c.rolls-DataExact n property range)
