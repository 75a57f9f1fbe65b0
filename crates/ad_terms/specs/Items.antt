-- What an item can be read as where a phrase of a kind is asked for.
use Rattle.std.specs.Prelude.{ℕ, List, Option, None, Some}
use Rattle.ad_terms.specs.declared.item.StackItem.{StackItem}
use Rattle.ad_terms.specs.declared.item.StackItem.TheVariants as i
use Rattle.ad_terms.specs.declared.reads_as.Lower.{Lower}
use Rattle.ad_terms.specs.declared.reads_as.Lower.TheVariants as lower
use Rattle.ad_entity.specs.declared.entities.Entity.{Entity}
use Rattle.ad_tree.specs.declared.names.ObjProp.{ObjProp}
use Rattle.ad_tree.specs.declared.names.ObjProp.TheVariants as props
use Rattle.ad_tree.specs.declared.names.Individual.{Individual}
use Rattle.ad_tree.specs.declared.names.Individual.TheVariants as individuals
use Rattle.ad_tree.specs.declared.literals.Literal.{Literal}
use Rattle.ad_tree.specs.declared.ranges.Range.{Range}
use Rattle.ad_tree.specs.declared.ranges.Range.TheVariants as ranges
use Rattle.ad_tree.specs.declared.classes.Class.{Class}
use Rattle.ad_tree.specs.declared.classes.Class.TheVariants as classes
use Rattle.ad_tree.specs.declared.notes.Annotation.{Annotation}
use Rattle.ad_tree.specs.declared.axioms.Noted.{Noted}
use Rattle.ad_tree.specs.declared.edits.Sign.{Sign}
use Rattle.ad_tree.specs.declared.notes.Subject.{Subject}
use Rattle.ad_tree.specs.declared.notes.Subject.TheVariants as subjects
use Rattle.ad_tree.specs.declared.notes.Value.{Value}
use Rattle.ad_tree.specs.declared.notes.Value.TheVariants as values

abbrev pub as_name : StackItem → Option (List ℕ)
as_name (i.Name name) = Some name
as_name _ = None

abbrev pub as_number : StackItem → Option ℕ
as_number (i.Number n) = Some n
as_number _ = None

abbrev pub as_literal : StackItem → Option Literal
as_literal (i.Literal x) = Some x
as_literal _ = None

-- a name, or the inverse of one
abbrev pub as_property : StackItem → Option ObjProp
as_property (i.Name name) = Some (props.Named name)
as_property (i.Inverse name) = Some (props.Inverse name)
as_property _ = None

abbrev pub as_lower : StackItem → Option Lower
as_lower (i.Name name) = Some (lower.Property (props.Named name))
as_lower (i.Inverse name) = Some (lower.Property (props.Inverse name))
as_lower (i.Chain chain) = Some (lower.Chain chain)
as_lower _ = None

abbrev pub as_individual : StackItem → Option Individual
as_individual (i.Name name) = Some (individuals.Named name)
as_individual (i.Label label) = Some (individuals.Anonymous label)
as_individual _ = None

abbrev pub as_range : StackItem → Option Range
as_range (i.Name name) = Some (ranges.Named name)
as_range (i.Range x) = Some x
as_range _ = None

abbrev pub as_class : StackItem → Option Class
as_class (i.Name name) = Some (classes.Named name)
as_class (i.Class x) = Some x
as_class _ = None

abbrev pub as_entity : StackItem → Option Entity
as_entity (i.Entity x) = Some x
as_entity _ = None

abbrev pub as_subject : StackItem → Option Subject
as_subject (i.Name name) = Some (subjects.Iri name)
as_subject (i.Label label) = Some (subjects.Anonymous label)
as_subject _ = None

abbrev pub as_value : StackItem → Option Value
as_value (i.Name name) = Some (values.Iri name)
as_value (i.Label label) = Some (values.Anonymous label)
as_value (i.Literal x) = Some (values.Literal x)
as_value _ = None

abbrev pub as_note : StackItem → Option Annotation
as_note (i.Note x) = Some x
as_note _ = None

abbrev pub as_axiom : StackItem → Option Noted
as_axiom (i.Axiom x) = Some x
as_axiom _ = None

abbrev pub as_sign : StackItem → Option Sign
as_sign (i.Signed sign) = Some sign
as_sign _ = None
