-- Class expressions and annotations as they are written.
use Rattle.std.proofs.Common.{◌≡◌, ℕ, false, List, [], ◌∷◌, ◌++◌, map, decimal, Option, None, Some, IfSome, refl}
use Rattle.std.specs.Option.{option_map, option_to_list}
use Rattle.ad_write.specs.Keywords as kw
use Rattle.ad_write.specs.Canonical.{canon_iri, canon_literal, canon_property, canon_individual, canon_range, canon_optional, canon_class, canon_value, canon_annotation, annotation_step, compound}
use Rattle.ad_write.proofs.Equations.{canon_class-named, canon_class-intersection, canon_class-union, canon_class-complement, canon_class-one_of, canon_class-some, canon_class-all, canon_class-value, canon_class-self, canon_class-min, canon_class-max, canon_class-exact, canon_class-data_some, canon_class-data_all, canon_class-data_value, canon_class-data_min, canon_class-data_max, canon_class-data_exact}
use Rattle.ad_tree.specs.declared.classes.Class.{Class}
use Rattle.ad_tree.specs.declared.notes.Value.{Value}
use Rattle.ad_tree.specs.declared.notes.Annotation.{Annotation}
use Rattle.ad_tree.specs.declared.notes.Annotation.TheViews.{roll-Annotation}
use Rattle.ad_tree.specs.declared.notes.Annotation.TheFolds.{fold-roll-Annotation}
use Rattle.ad_tree.proofs.Induction.{ClassCases, class_induction, AnnotationCases, annotation_induction}
use Rattle.ad_grammar.specs.Shapes.{Then}
use Rattle.ad_grammar.specs.Names.{SpellsIndividual}
use Rattle.ad_grammar.specs.Phrases.{SpellsRange, SpellsClass, SpellsAnnotation, Extra}
use Rattle.ad_grammar.proofs.Equations.{spells_class-named, spells_class-and, spells_class-or, spells_class-not, spells_class-one_of, spells_class-obj_some, spells_class-obj_all, spells_class-obj_value, spells_class-obj_self, spells_class-obj_min, spells_class-obj_max, spells_class-obj_exact, spells_class-data_some, spells_class-data_all, spells_class-data_value, spells_class-data_min, spells_class-data_max, spells_class-data_exact, spells_annotation}
use Rattle.ad_canonical.specs.Spellable.{SpellableIndividual, SpellableRange, SpellableClass, SpellableAnnotation}
use Rattle.ad_canonical.proofs.Equations.{spellable_class-named, spellable_class-and, spellable_class-or, spellable_class-not, spellable_class-one_of, spellable_class-obj_some, spellable_class-obj_all, spellable_class-obj_value, spellable_class-obj_self, spellable_class-obj_min, spellable_class-obj_max, spellable_class-obj_exact, spellable_class-data_some, spellable_class-data_all, spellable_class-data_value, spellable_class-data_min, spellable_class-data_max, spellable_class-data_exact, spellable_annotation}
use Rattle.ad_canonical.proofs.Leaves.{name, number, literal, property, individual, value}
use Rattle.ad_canonical.proofs.Ranges.{read_as, tree, some_of, maybe, before, every, range}
use Rattle.ad_canonical.proofs.Written.{Phrase, Written, weaken, next, phrase}

-- what holds of every value
every_some : {X : Type 0} {A : X → Type 0} → ((x : X) → A x) → (o : Option X) → IfSome o A
every_some h None = tt
every_some h (Some x) = h x

-- no further property stands before the data range
no_more : {text : List ℕ} {P : Phrase} → Written text P → Written text (λ words. Then (Extra false words) (P words))
no_more t = weaken (λ words ts h. ([], ts, refl, refl, h)) t

abbrev IsWritten : Class → Type 0
IsWritten x = SpellableClass x → Written (canon_class x) (λ words. SpellsClass false words x)

cases : ClassCases IsWritten
cases = record {
  named = λ class h. tree (canon_class-named class) (λ words. spells_class-named false words class) (name class (read_as (spellable_class-named class) h));
  intersection = λ operands each h.
      let parts = read_as (spellable_class-and operands) h in
      tree (canon_class-intersection operands) (λ words. spells_class-and false words operands)
      (phrase kw.ObjectIntersectionOf refl (map canon_class operands) (some_of SpellableClass (SpellsClass false) canon_class operands each parts));
  union = λ operands each h.
      let parts = read_as (spellable_class-or operands) h in
      tree (canon_class-union operands) (λ words. spells_class-or false words operands)
      (phrase kw.ObjectUnionOf refl (map canon_class operands) (some_of SpellableClass (SpellsClass false) canon_class operands each parts));
  complement = λ operand is h.
      let parts = read_as (spellable_class-not operand) h in
      tree (canon_class-complement operand) (λ words. spells_class-not false words operand)
      (phrase kw.ObjectComplementOf refl (canon_class operand ∷ []) (is parts));
  one_of = λ members h.
      let parts = read_as (spellable_class-one_of members) h in
      tree (canon_class-one_of members) (λ words. spells_class-one_of false words members)
      (phrase kw.ObjectOneOf refl (map canon_individual members) (some_of SpellableIndividual SpellsIndividual canon_individual members (every individual members) parts));
  obj_some = λ p filler is h.
      let parts = read_as (spellable_class-obj_some p filler) h in
      tree (canon_class-some p filler) (λ words. spells_class-obj_some false words p filler)
      (phrase kw.ObjectSomeValuesFrom refl (canon_property p ∷ canon_class filler ∷ []) (next (canon_property p) (property p parts.0) (canon_class filler ∷ []) (is parts.1)));
  obj_all = λ p filler is h.
      let parts = read_as (spellable_class-obj_all p filler) h in
      tree (canon_class-all p filler) (λ words. spells_class-obj_all false words p filler)
      (phrase kw.ObjectAllValuesFrom refl (canon_property p ∷ canon_class filler ∷ []) (next (canon_property p) (property p parts.0) (canon_class filler ∷ []) (is parts.1)));
  obj_value = λ p i h.
      let parts = read_as (spellable_class-obj_value p i) h in
      tree (canon_class-value p i) (λ words. spells_class-obj_value false words p i)
      (phrase kw.ObjectHasValue refl (canon_property p ∷ canon_individual i ∷ []) (next (canon_property p) (property p parts.0) (canon_individual i ∷ []) (individual i parts.1)));
  obj_self = λ p h.
      let parts = read_as (spellable_class-obj_self p) h in
      tree (canon_class-self p) (λ words. spells_class-obj_self false words p)
      (phrase kw.ObjectHasSelf refl (canon_property p ∷ []) (property p parts));
  obj_min = λ n p filler is h.
      let parts = read_as (spellable_class-obj_min n p filler) h in
      tree (canon_class-min n p filler) (λ words. spells_class-obj_min false words n p filler)
      (phrase kw.ObjectMinCardinality refl (decimal n ∷ canon_property p ∷ option_to_list (option_map canon_class filler)) (next (decimal n) (number n parts.0) (canon_property p ∷ option_to_list (option_map canon_class filler)) (next (canon_property p) (property p parts.1) (option_to_list (option_map canon_class filler)) (maybe SpellableClass (SpellsClass false) canon_class filler is parts.2))));
  obj_max = λ n p filler is h.
      let parts = read_as (spellable_class-obj_max n p filler) h in
      tree (canon_class-max n p filler) (λ words. spells_class-obj_max false words n p filler)
      (phrase kw.ObjectMaxCardinality refl (decimal n ∷ canon_property p ∷ option_to_list (option_map canon_class filler)) (next (decimal n) (number n parts.0) (canon_property p ∷ option_to_list (option_map canon_class filler)) (next (canon_property p) (property p parts.1) (option_to_list (option_map canon_class filler)) (maybe SpellableClass (SpellsClass false) canon_class filler is parts.2))));
  obj_exact = λ n p filler is h.
      let parts = read_as (spellable_class-obj_exact n p filler) h in
      tree (canon_class-exact n p filler) (λ words. spells_class-obj_exact false words n p filler)
      (phrase kw.ObjectExactCardinality refl (decimal n ∷ canon_property p ∷ option_to_list (option_map canon_class filler)) (next (decimal n) (number n parts.0) (canon_property p ∷ option_to_list (option_map canon_class filler)) (next (canon_property p) (property p parts.1) (option_to_list (option_map canon_class filler)) (maybe SpellableClass (SpellsClass false) canon_class filler is parts.2))));
  data_some = λ p filler h.
      let parts = read_as (spellable_class-data_some p filler) h in
      tree (canon_class-data_some p filler) (λ words. spells_class-data_some false words p filler)
      (phrase kw.DataSomeValuesFrom refl (canon_iri p ∷ canon_range filler ∷ []) (next (canon_iri p) (name p parts.0) (canon_range filler ∷ []) (no_more (range filler parts.1))));
  data_all = λ p filler h.
      let parts = read_as (spellable_class-data_all p filler) h in
      tree (canon_class-data_all p filler) (λ words. spells_class-data_all false words p filler)
      (phrase kw.DataAllValuesFrom refl (canon_iri p ∷ canon_range filler ∷ []) (next (canon_iri p) (name p parts.0) (canon_range filler ∷ []) (no_more (range filler parts.1))));
  data_value = λ p v h.
      let parts = read_as (spellable_class-data_value p v) h in
      tree (canon_class-data_value p v) (λ words. spells_class-data_value false words p v)
      (phrase kw.DataHasValue refl (canon_iri p ∷ canon_literal v ∷ []) (next (canon_iri p) (name p parts.0) (canon_literal v ∷ []) (literal v parts.1)));
  data_min = λ n p filler h.
      let parts = read_as (spellable_class-data_min n p filler) h in
      tree (canon_class-data_min n p filler) (λ words. spells_class-data_min false words n p filler)
      (phrase kw.DataMinCardinality refl (decimal n ∷ canon_iri p ∷ canon_optional filler) (next (decimal n) (number n parts.0) (canon_iri p ∷ canon_optional filler) (next (canon_iri p) (name p parts.1) (canon_optional filler) (maybe SpellableRange SpellsRange canon_range filler (every_some range filler) parts.2))));
  data_max = λ n p filler h.
      let parts = read_as (spellable_class-data_max n p filler) h in
      tree (canon_class-data_max n p filler) (λ words. spells_class-data_max false words n p filler)
      (phrase kw.DataMaxCardinality refl (decimal n ∷ canon_iri p ∷ canon_optional filler) (next (decimal n) (number n parts.0) (canon_iri p ∷ canon_optional filler) (next (canon_iri p) (name p parts.1) (canon_optional filler) (maybe SpellableRange SpellsRange canon_range filler (every_some range filler) parts.2))));
  data_exact = λ n p filler h.
      let parts = read_as (spellable_class-data_exact n p filler) h in
      tree (canon_class-data_exact n p filler) (λ words. spells_class-data_exact false words n p filler)
      (phrase kw.DataExactCardinality refl (decimal n ∷ canon_iri p ∷ canon_optional filler) (next (decimal n) (number n parts.0) (canon_iri p ∷ canon_optional filler) (next (canon_iri p) (name p parts.1) (canon_optional filler) (maybe SpellableRange SpellsRange canon_range filler (every_some range filler) parts.2))));
}

pub class : (x : Class) → IsWritten x
class = class_induction IsWritten cases

abbrev IsNote : Annotation → Type 0
IsNote x = SpellableAnnotation x → Written (canon_annotation x) (λ words. SpellsAnnotation words x)

canon_annotation-of : (notes : List Annotation) (p : List ℕ) (v : Value) → canon_annotation (roll-Annotation (record { notes = notes; property = p; value = v })) ≡ compound kw.Annotation (map canon_annotation notes ++ canon_iri p ∷ canon_value v ∷ [])
unfolding canon_annotation
canon_annotation-of notes p v = fold-roll-Annotation (List ℕ) annotation_step (record { notes = notes; property = p; value = v })

note_cases : AnnotationCases IsNote
note_cases = record {
  annotation = λ notes p v each h.
      let parts = read_as (spellable_annotation notes p v) h in
      tree (canon_annotation-of notes p v) (λ words. spells_annotation words notes p v)
      (phrase kw.Annotation refl (map canon_annotation notes ++ canon_iri p ∷ canon_value v ∷ []) (before SpellableAnnotation SpellsAnnotation canon_annotation notes each parts.0 (canon_iri p ∷ canon_value v ∷ []) (next (canon_iri p) (name p parts.1) (canon_value v ∷ []) (value v parts.2))));
}

pub note : (x : Annotation) → IsNote x
note = annotation_induction IsNote note_cases
