-- Trees may be sent to threads and shared between them: each type of this crate, so that a type over them needs one
-- line. The lists and boxes inside follow their parts; for a tree that reaches itself the language gives the step.
use denote.RattleType.{RattleType}
use denote.Enum.Declared.{shape}
use denote.Param.Send.{IsSend, IsSync, enum_send, enum_sync, sendable}
use Rattle.std.proofs.Crossing.{crosses}
use Rattle.std.specs.contracts.option.Option as option
use Rattle.ad_base.specs.contracts.word.Word as word
use Rattle.ad_entity.specs.contracts.entities.Entity as entity
use Rattle.ad_tree.specs.contracts.many.Many as many
use Rattle.ad_tree.specs.contracts.one.One as one
use Rattle.ad_tree.specs.contracts.names.ObjProp as property
use Rattle.ad_tree.specs.contracts.names.Individual as individual
use Rattle.ad_tree.specs.contracts.literals.Literal as literal
use Rattle.ad_tree.specs.contracts.literals.Facet as facet
use Rattle.ad_tree.specs.contracts.notes.Subject as subject
use Rattle.ad_tree.specs.contracts.notes.Value as value
use Rattle.ad_tree.specs.contracts.notes.Annotation as annotation
use Rattle.ad_tree.specs.contracts.ranges.Range as range
use Rattle.ad_tree.specs.contracts.classes.Class as class
use Rattle.ad_tree.specs.contracts.axioms.Axiom as axioms
use Rattle.ad_tree.specs.contracts.axioms.Noted as noted
use Rattle.ad_tree.proofs.notes.Annotation.TheLaws.TheKnot as its_annotation
use Rattle.ad_tree.proofs.ranges.Range.TheLaws.TheKnot as its_range
use Rattle.ad_tree.proofs.classes.Class.TheLaws.TheKnot as its_class

both : {A B : Type 0} → A → B → A × B
both a b = (a, b)

pub word_sync : IsSync (word.the_field).row
word_sync = search (sendable, crosses) depth 20

pub many_sync : (R : RattleType) → IsSync R → IsSync (many.the_row R)
many_sync R y = search (sendable, crosses) depth 20

pub one_sync : (R : RattleType) → IsSync R → IsSync (one.the_row R)
one_sync R y = search (sendable, crosses) depth 20

pub option_sync : (R : RattleType) → IsSync R → IsSync (option.the_row R)
option_sync R y = search (sendable, crosses) depth 20

ruleset parts_sync = (word_sync, many_sync, one_sync, sendable)

pub entity_sync : IsSync (entity.the_field).row
entity_sync = search parts_sync depth 20

pub property_sync : IsSync (property.the_field).row
property_sync = search parts_sync depth 20

pub individual_sync : IsSync (individual.the_field).row
individual_sync = search parts_sync depth 20

pub literal_sync : IsSync (literal.the_field).row
literal_sync = search parts_sync depth 20

pub facet_sync : IsSync (facet.the_field).row
facet_sync = search (literal_sync, parts_sync) depth 20

pub subject_sync : IsSync (subject.the_field).row
subject_sync = search parts_sync depth 20

pub value_sync : IsSync (value.the_field).row
value_sync = search (literal_sync, parts_sync) depth 20

pub annotation_sync : IsSync (annotation.the_field).row
annotation_sync = its_annotation.sync-Annotation many_sync word_sync value_sync

pub range_sync : IsSync (range.the_field).row
range_sync = its_range.sync-Range word_sync many_sync one_sync (search (literal_sync, parts_sync) depth 20) (search (facet_sync, parts_sync) depth 20)

pub class_sync : IsSync (class.the_field).row
class_sync = its_class.sync-Class word_sync many_sync one_sync (search (individual_sync, parts_sync) depth 20) property_sync individual_sync
    (search sendable) (λ h y. option_sync (one.the_row h) (one_sync h y)) range_sync literal_sync (search (range_sync, sendable) depth 20)

pub axiom_sync : IsSync (axioms.the_field).row
axiom_sync =
    let c = class_sync in
    let r = range_sync in
    let p = property_sync in
    let i = individual_sync in
    let w = word_sync in
    let l = literal_sync in
    let cs : IsSync (many.the_row class.the_row) = search parts_sync depth 20 in
    let ps : IsSync (many.the_row property.the_row) = search parts_sync depth 20 in
    let is : IsSync (many.the_row individual.the_row) = search parts_sync depth 20 in
    let ws : IsSync (many.the_row word.the_row) = search parts_sync depth 20 in
    let e = entity_sync in
    let u = subject_sync in
    let v = value_sync in
    enum_sync (shape axioms.the_type) (search (both, tt) depth 60 fits 10000)

pub noted_sync : IsSync (noted.the_field).row
noted_sync = search (axiom_sync, annotation_sync, parts_sync) depth 20

pub word_send : IsSend (word.the_field).row
word_send = search (sendable, crosses) depth 20

pub many_send : (R : RattleType) → IsSend R → IsSend (many.the_row R)
many_send R y = search (sendable, crosses) depth 20

pub one_send : (R : RattleType) → IsSend R → IsSend (one.the_row R)
one_send R y = search (sendable, crosses) depth 20

pub option_send : (R : RattleType) → IsSend R → IsSend (option.the_row R)
option_send R y = search (sendable, crosses) depth 20

ruleset parts_send = (word_send, many_send, one_send, sendable)

pub entity_send : IsSend (entity.the_field).row
entity_send = search parts_send depth 20

pub property_send : IsSend (property.the_field).row
property_send = search parts_send depth 20

pub individual_send : IsSend (individual.the_field).row
individual_send = search parts_send depth 20

pub literal_send : IsSend (literal.the_field).row
literal_send = search parts_send depth 20

pub facet_send : IsSend (facet.the_field).row
facet_send = search (literal_send, parts_send) depth 20

pub subject_send : IsSend (subject.the_field).row
subject_send = search parts_send depth 20

pub value_send : IsSend (value.the_field).row
value_send = search (literal_send, parts_send) depth 20

pub annotation_send : IsSend (annotation.the_field).row
annotation_send = its_annotation.send-Annotation many_send word_send value_send

pub range_send : IsSend (range.the_field).row
range_send = its_range.send-Range word_send many_send one_send (search (literal_send, parts_send) depth 20) (search (facet_send, parts_send) depth 20)

pub class_send : IsSend (class.the_field).row
class_send = its_class.send-Class word_send many_send one_send (search (individual_send, parts_send) depth 20) property_send individual_send
    (search sendable) (λ h y. option_send (one.the_row h) (one_send h y)) range_send literal_send (search (range_send, sendable) depth 20)

pub axiom_send : IsSend (axioms.the_field).row
axiom_send =
    let c = class_send in
    let r = range_send in
    let p = property_send in
    let i = individual_send in
    let w = word_send in
    let l = literal_send in
    let cs : IsSend (many.the_row class.the_row) = search parts_send depth 20 in
    let ps : IsSend (many.the_row property.the_row) = search parts_send depth 20 in
    let is : IsSend (many.the_row individual.the_row) = search parts_send depth 20 in
    let ws : IsSend (many.the_row word.the_row) = search parts_send depth 20 in
    let e = entity_send in
    let u = subject_send in
    let v = value_send in
    enum_send (shape axioms.the_type) (search (both, tt) depth 60 fits 10000)

pub noted_send : IsSend (noted.the_field).row
noted_send = search (axiom_send, annotation_send, parts_send) depth 20
