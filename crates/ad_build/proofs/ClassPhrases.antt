-- Class expressions are read as the trees that they spell.
use Rattle.std.proofs.Common.{◌≡◌, ℕ, false, List, [], ◌∷◌, ◌++◌, Option, None, Some, IfSome, refl, sym, ◌∙◌, ap}
use Rattle.std.specs.Option.{option_map}
use Rattle.std.specs.List.{AllByRecursion}
use Rattle.ad_write.specs.Keywords as kw
use Rattle.ad_grammar.specs.Names.{Words, IsName, IsNumber, SpellsProperty, SpellsIndividual, SpellsLiteral}
use Rattle.ad_grammar.specs.Shapes.{Text, Then, Compound, Many0, Many1, Optional}
use Rattle.ad_grammar.specs.Phrases.{SpellsRange, SpellsClass, Extra}
use Rattle.ad_tree.specs.declared.names.ObjProp.{ObjProp}
use Rattle.ad_tree.specs.declared.names.Individual.{Individual}
use Rattle.ad_tree.specs.declared.literals.Literal.{Literal}
use Rattle.ad_tree.specs.declared.ranges.Range.{Range}
use Rattle.ad_tree.specs.declared.classes.Class.{Class}
use Rattle.ad_tree.specs.declared.classes.Class.TheOpen.{Class-F}
use Rattle.ad_tree.specs.declared.classes.Class.TheViews.{roll-Class}
use Rattle.ad_tree.specs.declared.classes.Class.TheVariants as c
use Rattle.ad_tree.proofs.Induction.{ClassCases, class_induction}
use Rattle.ad_terms.specs.declared.item.StackItem.{StackItem}
use Rattle.ad_terms.specs.declared.keyword.Keyword.{Keyword}
use Rattle.ad_terms.specs.declared.keyword.Keyword.TheVariants as keyword
use Rattle.ad_terms.specs.declared.keyword.ClassWord.{ClassWord}
use Rattle.ad_terms.specs.declared.keyword.ClassWord.TheVariants as classword
use Rattle.ad_terms.specs.declared.keyword.JoinWord.TheVariants as joinword
use Rattle.ad_terms.specs.declared.keyword.FillerWord.TheVariants as fillerword
use Rattle.ad_terms.specs.declared.keyword.CountWord.TheVariants as countword
use Rattle.ad_terms.specs.Items.{as_name, as_number, as_property, as_individual, as_literal, as_range, as_class}
use Rattle.ad_terms.specs.Shapes.{one, two, counted, each}
use Rattle.ad_build.specs.Words.{keyword_of}
use Rattle.ad_terms.specs.Built.{class_of}
use Rattle.ad_build.proofs.Readings.{ReadsAs, Is, for_all}
use Rattle.ad_build.proofs.Arguments.{Arguments, one_argument, two_arguments, each_argument, counted_arguments}
use Rattle.ad_grammar.proofs.Equations.{as_spelled, spells_class-named, spells_class-and, spells_class-or, spells_class-not, spells_class-one_of, spells_class-obj_some, spells_class-obj_all, spells_class-obj_value, spells_class-obj_self, spells_class-obj_min, spells_class-obj_max, spells_class-obj_exact, spells_class-data_some, spells_class-data_all, spells_class-data_value, spells_class-data_min, spells_class-data_max, spells_class-data_exact}
use Rattle.ad_build.proofs.Phrases.{name_as, names_read, literals_read, properties_read, individuals_read, ranges_read, class_made}

module _ (words : Words) where
  abbrev Spells : Class → Text → Type 0
  Spells = SpellsClass false words

  abbrev IsRead : Class → Type 0
  IsRead x = Is words Spells as_class x

  -- an optional data range
  optional_ranges : (x : Option Range) → IfSome x (Is words (SpellsRange words) as_range)
  optional_ranges None = tt
  optional_ranges (Some x) = ranges_read words x

  abbrev Counted : ℕ → ObjProp → Option Class → Text → Type 0
  Counted n property filler ts = Then (IsNumber n) (Then (SpellsProperty words property) (Optional Spells filler)) ts

  counted_read : (w : List ℕ) (word : ClassWord) → keyword_of w ≡ Some (keyword.Class word) → (make : (ℕ × (ObjProp × Option Class)) → Class)
      → ((items : List StackItem) → class_of word items ≡ option_map make (counted as_number as_property as_class items))
      → (n : ℕ) (property : ObjProp) (filler : Option Class) → IfSome filler IsRead → (ts : Text) → Compound w (Counted n property filler) ts → ReadsAs words as_class (make (n, (property, filler))) ts
  counted_read w word known make same n property filler is_read ts (inner, e, (a, bc, e', number, (b, c, e'', s, ss))) =
      class_made words w word known (counted as_number as_property as_class) make same (n, (property, filler)) inner ts
      (counted_arguments words as_property Spells as_class n property filler is_read inner a bc b c e' number e'' (properties_read words property b s) ss) e

  data_counted_read : (w : List ℕ) (word : ClassWord) → keyword_of w ≡ Some (keyword.Class word) → (make : (ℕ × (List ℕ × Option Range)) → Class)
      → ((items : List StackItem) → class_of word items ≡ option_map make (counted as_number as_name as_range items))
      → (n : ℕ) (property : List ℕ) (range : Option Range) → (ts : Text) → Compound w (Then (IsNumber n) (Then (IsName words property) (Optional (SpellsRange words) range))) ts → ReadsAs words as_class (make (n, (property, range))) ts
  data_counted_read w word known make same n property range ts (inner, e, (a, bc, e', number, (b, c, e'', s, ss))) =
      class_made words w word known (counted as_number as_name as_range) make same (n, (property, range)) inner ts
      (counted_arguments words as_name (SpellsRange words) as_range n property range (optional_ranges range) inner a bc b c e' number e'' (names_read words property b s) ss) e

  class_cases : ClassCases IsRead
  class_cases = record {
    named = λ class ts s. name_as words as_class (c.Named class) class refl ts (as_spelled ts (spells_class-named false words class) s);
    intersection = λ operands all ts s.
        let h : Compound kw.ObjectIntersectionOf (Many1 Spells operands) ts = as_spelled ts (spells_class-and false words operands) s in
        class_made words kw.ObjectIntersectionOf (classword.Join joinword.Intersection) refl (each as_class) c.And (λ items. refl) operands h.0 ts (each_argument words Spells as_class operands all h.0 h.2) h.1;
    union = λ operands all ts s.
        let h : Compound kw.ObjectUnionOf (Many1 Spells operands) ts = as_spelled ts (spells_class-or false words operands) s in
        class_made words kw.ObjectUnionOf (classword.Join joinword.Union) refl (each as_class) c.Or (λ items. refl) operands h.0 ts (each_argument words Spells as_class operands all h.0 h.2) h.1;
    complement = λ operand is_read ts s.
        let h : Compound kw.ObjectComplementOf (Spells operand) ts = as_spelled ts (spells_class-not false words operand) s in
        class_made words kw.ObjectComplementOf classword.Complement refl (one as_class) c.Not (λ items. refl) operand h.0 ts (one_argument words as_class operand h.0 (is_read h.0 h.2)) h.1;
    one_of = λ members ts s.
        let h : Compound kw.ObjectOneOf (Many1 (SpellsIndividual words) members) ts = as_spelled ts (spells_class-one_of false words members) s in
        class_made words kw.ObjectOneOf classword.OneOf refl (each as_individual) c.OneOf (λ items. refl) members h.0 ts (each_argument words (SpellsIndividual words) as_individual members (for_all _ (individuals_read words) members) h.0 h.2) h.1;
    obj_some = λ property filler is_read ts s.
        let h : Compound kw.ObjectSomeValuesFrom (Then (SpellsProperty words property) (Spells filler)) ts = as_spelled ts (spells_class-obj_some false words property filler) s in
        class_made words kw.ObjectSomeValuesFrom (classword.ObjectFiller fillerword.Some) refl (two as_property as_class) (λ p. c.ObjSome p.0 p.1) (λ items. refl) (property, filler) h.0 ts (two_arguments words as_property as_class property filler h.0 h.2.0 h.2.1 h.2.2 (properties_read words property h.2.0 h.2.3) (is_read h.2.1 h.2.4)) h.1;
    obj_all = λ property filler is_read ts s.
        let h : Compound kw.ObjectAllValuesFrom (Then (SpellsProperty words property) (Spells filler)) ts = as_spelled ts (spells_class-obj_all false words property filler) s in
        class_made words kw.ObjectAllValuesFrom (classword.ObjectFiller fillerword.All) refl (two as_property as_class) (λ p. c.ObjAll p.0 p.1) (λ items. refl) (property, filler) h.0 ts (two_arguments words as_property as_class property filler h.0 h.2.0 h.2.1 h.2.2 (properties_read words property h.2.0 h.2.3) (is_read h.2.1 h.2.4)) h.1;
    obj_value = λ property individual ts s.
        let h : Compound kw.ObjectHasValue (Then (SpellsProperty words property) (SpellsIndividual words individual)) ts = as_spelled ts (spells_class-obj_value false words property individual) s in
        class_made words kw.ObjectHasValue classword.ObjectValue refl (two as_property as_individual) (λ p. c.ObjValue p.0 p.1) (λ items. refl) (property, individual) h.0 ts (two_arguments words as_property as_individual property individual h.0 h.2.0 h.2.1 h.2.2 (properties_read words property h.2.0 h.2.3) (individuals_read words individual h.2.1 h.2.4)) h.1;
    obj_self = λ property ts s.
        let h : Compound kw.ObjectHasSelf (SpellsProperty words property) ts = as_spelled ts (spells_class-obj_self false words property) s in
        class_made words kw.ObjectHasSelf classword.ObjectSelf refl (one as_property) c.ObjSelf (λ items. refl) property h.0 ts (one_argument words as_property property h.0 (properties_read words property h.0 h.2)) h.1;
    obj_min = λ n property filler is_read ts s. counted_read kw.ObjectMinCardinality (classword.ObjectCount countword.Min) refl (λ p. c.ObjMin p.0 p.1.0 p.1.1) (λ items. refl) n property filler is_read ts (as_spelled ts (spells_class-obj_min false words n property filler) s);
    obj_max = λ n property filler is_read ts s. counted_read kw.ObjectMaxCardinality (classword.ObjectCount countword.Max) refl (λ p. c.ObjMax p.0 p.1.0 p.1.1) (λ items. refl) n property filler is_read ts (as_spelled ts (spells_class-obj_max false words n property filler) s);
    obj_exact = λ n property filler is_read ts s. counted_read kw.ObjectExactCardinality (classword.ObjectCount countword.Exact) refl (λ p. c.ObjExact p.0 p.1.0 p.1.1) (λ items. refl) n property filler is_read ts (as_spelled ts (spells_class-obj_exact false words n property filler) s);
    data_some = λ property range ts s.
        let h : Compound kw.DataSomeValuesFrom (Then (IsName words property) (Then (Extra false words) (SpellsRange words range))) ts = as_spelled ts (spells_class-data_some false words property range) s in
        let alone : h.0 ≡ h.2.0 ++ h.2.4.1 = h.2.2 ∙ ap (λ t. h.2.0 ++ t) (h.2.4.2 ∙ ap (λ t. t ++ h.2.4.1) h.2.4.3) in
        class_made words kw.DataSomeValuesFrom (classword.DataFiller fillerword.Some) refl (two as_name as_range) (λ p. c.DataSome p.0 p.1) (λ items. refl) (property, range) h.0 ts (two_arguments words as_name as_range property range h.0 h.2.0 h.2.4.1 alone (names_read words property h.2.0 h.2.3) (ranges_read words range h.2.4.1 h.2.4.4)) h.1;
    data_all = λ property range ts s.
        let h : Compound kw.DataAllValuesFrom (Then (IsName words property) (Then (Extra false words) (SpellsRange words range))) ts = as_spelled ts (spells_class-data_all false words property range) s in
        let alone : h.0 ≡ h.2.0 ++ h.2.4.1 = h.2.2 ∙ ap (λ t. h.2.0 ++ t) (h.2.4.2 ∙ ap (λ t. t ++ h.2.4.1) h.2.4.3) in
        class_made words kw.DataAllValuesFrom (classword.DataFiller fillerword.All) refl (two as_name as_range) (λ p. c.DataAll p.0 p.1) (λ items. refl) (property, range) h.0 ts (two_arguments words as_name as_range property range h.0 h.2.0 h.2.4.1 alone (names_read words property h.2.0 h.2.3) (ranges_read words range h.2.4.1 h.2.4.4)) h.1;
    data_value = λ property value ts s.
        let h : Compound kw.DataHasValue (Then (IsName words property) (SpellsLiteral words value)) ts = as_spelled ts (spells_class-data_value false words property value) s in
        class_made words kw.DataHasValue classword.DataValue refl (two as_name as_literal) (λ p. c.DataValue p.0 p.1) (λ items. refl) (property, value) h.0 ts (two_arguments words as_name as_literal property value h.0 h.2.0 h.2.1 h.2.2 (names_read words property h.2.0 h.2.3) (literals_read words value h.2.1 h.2.4)) h.1;
    data_min = λ n property range ts s. data_counted_read kw.DataMinCardinality (classword.DataCount countword.Min) refl (λ p. c.DataMin p.0 p.1.0 p.1.1) (λ items. refl) n property range ts (as_spelled ts (spells_class-data_min false words n property range) s);
    data_max = λ n property range ts s. data_counted_read kw.DataMaxCardinality (classword.DataCount countword.Max) refl (λ p. c.DataMax p.0 p.1.0 p.1.1) (λ items. refl) n property range ts (as_spelled ts (spells_class-data_max false words n property range) s);
    data_exact = λ n property range ts s. data_counted_read kw.DataExactCardinality (classword.DataCount countword.Exact) refl (λ p. c.DataExact p.0 p.1.0 p.1.1) (λ items. refl) n property range ts (as_spelled ts (spells_class-data_exact false words n property range) s);
  }

  pub classes_read : (x : Class) → Is words (SpellsClass false words) as_class x
  classes_read x = class_induction IsRead class_cases x
