-- Annotations and axioms are read as the trees that they spell.
use Rattle.std.proofs.Common.{◌≡◌, ℕ, false, List, [], ◌∷◌, ◌++◌, map, Option, None, Some, refl, sym, ◌∙◌, ap, subst, append_assoc}
use Rattle.std.proofs.lemmas.List.{append-nil}
use Rattle.std.specs.Option.{option_map, option_zip}
use Rattle.std.specs.List.{AllByRecursion}
use Rattle.ad_lex.specs.Lexemes as says
use Rattle.ad_write.specs.Keywords as kw
use Rattle.ad_write.specs.Canonical.{entity_kind_word}
use Rattle.ad_grammar.specs.Names.{Words, IsName, SpellsProperty, SpellsIndividual, SpellsLiteral, SpellsSubject, SpellsValue, SpellsEntity}
use Rattle.ad_grammar.specs.Shapes.{Text, Then, Group, Compound, Many0, Many1}
use Rattle.ad_grammar.specs.Phrases.{SpellsRange, SpellsClass, SpellsAnnotation}
use Rattle.ad_grammar.specs.Axioms.{SpellsAxiom, SpellsNoted}
use Rattle.ad_entity.specs.Entities.{entity}
use Rattle.ad_entity.specs.declared.entities.Entity.{Entity}
use Rattle.ad_entity.specs.declared.entities.EntityKind.{EntityKind}
use Rattle.ad_entity.specs.declared.entities.EntityKind.TheVariants as kinds
use Rattle.ad_tree.specs.declared.names.ObjProp.{ObjProp}
use Rattle.ad_tree.specs.declared.classes.Class.{Class}
use Rattle.ad_tree.specs.declared.notes.Value.{Value}
use Rattle.ad_tree.specs.declared.notes.Annotation.{Annotation}
use Rattle.ad_tree.specs.declared.notes.Annotation.TheViews.{roll-Annotation}
use Rattle.ad_tree.specs.declared.axioms.Axiom.{Axiom}
use Rattle.ad_tree.specs.declared.axioms.Axiom.TheVariants as a
use Rattle.ad_tree.specs.declared.axioms.Noted.{Noted}
use Rattle.ad_tree.proofs.Induction.{AnnotationCases, annotation_induction}
use Rattle.ad_terms.specs.declared.item.StackItem.{StackItem}
use Rattle.ad_terms.specs.declared.item.StackItem.TheVariants as i
use Rattle.ad_terms.specs.declared.keyword.Keyword.{Keyword}
use Rattle.ad_terms.specs.declared.keyword.Keyword.TheVariants as keyword
use Rattle.ad_terms.specs.declared.keyword.AxiomWord.{AxiomWord}
use Rattle.ad_terms.specs.declared.keyword.AxiomWord.TheVariants as axiomword
use Rattle.ad_terms.specs.declared.keyword.SetWord.TheVariants as setword
use Rattle.ad_terms.specs.declared.keyword.EndWord.TheVariants as endword
use Rattle.ad_terms.specs.declared.keyword.TraitWord.TheVariants as traitword
use Rattle.ad_terms.specs.declared.keyword.NamesWord.TheVariants as namesword
use Rattle.ad_terms.specs.declared.keyword.FactWord.TheVariants as factword
use Rattle.ad_terms.specs.declared.reads_as.Lower.TheVariants as lower
use Rattle.ad_terms.specs.Items.{as_name, as_property, as_lower, as_individual, as_literal, as_range, as_class, as_entity, as_subject, as_value}
use Rattle.ad_terms.specs.Shapes.{one, two, three, each, first_and_each}
use Rattle.ad_terms.specs.Stacks.{gather, behind, leading_notes}
use Rattle.ad_build.specs.Words.{keyword_of}
use Rattle.ad_terms.specs.Built.{axiom_of, below, keyed, list_at, last_list}
use Rattle.ad_build.specs.Reads.{reads, built, built_if, annotated, noted, unless_broken}
use Rattle.ad_build.proofs.Readings.{Reads, ReadsAs, ReadsEach, Gathers, Is, nothing, single, joined, made, grouped, many, name_reads, for_all}
use Rattle.ad_build.proofs.Arguments.{Arguments, one_argument, two_arguments, three_arguments, each_argument, first_and_each_argument, notes_off, bare_first}
use Rattle.ad_grammar.proofs.Equations.{as_spelled, spells_annotation}
use Rattle.ad_build.proofs.Phrases.{names_read, literals_read, properties_read, lower_reads, chain_reads, individuals_read, subjects_read, values_read, ranges_read}
use Rattle.ad_build.proofs.ClassPhrases.{classes_read}

module _ (words : Words) where
  abbrev IsNote : Annotation → Type 0
  IsNote x = (ts : Text) → SpellsAnnotation words x ts → Reads words (i.Note x) ts

  notes_gather : (notes : List Annotation) → AllByRecursion IsNote notes → (ts : Text) → Many0 (SpellsAnnotation words) notes ts → Gathers words (map i.Note notes) ts
  notes_gather [] all ts e = let P : Text → Type 0 = λ t. Gathers words [] t in subst P (sym e) (nothing words)
  notes_gather (note ∷ notes) all ts (a, b, e, s, ss) =
      let P : Text → Type 0 = λ t. Gathers words (i.Note note ∷ map i.Note notes) t in
      subst P (sym e) (joined words (i.Note note ∷ []) (map i.Note notes) a b (single words (i.Note note) a (all.0 a s)) (notes_gather notes all.1 b ss))

  annotation_read : (notes : List Annotation) (property : List ℕ) (value : Value) → AllByRecursion IsNote notes → IsNote (roll-Annotation (record { notes = notes; property = property; value = value }))
  annotation_read notes property value all ts s =
      let h : Compound kw.Annotation (Then (Many0 (SpellsAnnotation words) notes) (Then (IsName words property) (SpellsValue words value))) ts = as_spelled ts (spells_annotation words notes property value) s in
      let found = two_arguments words as_name as_value property value h.2.1 h.2.4.0 h.2.4.1 h.2.4.2 (names_read words property h.2.4.0 h.2.4.3) (values_read words value h.2.4.1 h.2.4.4) in
      let P : Text → Type 0 = λ t. Gathers words (map i.Note notes ++ found.items) t in
      made words kw.Annotation (map i.Note notes ++ found.items) (i.Note (roll-Annotation (record { notes = notes; property = property; value = value }))) h.0 ts
      (subst P (sym h.2.2) (joined words (map i.Note notes) found.items h.2.0 h.2.1 (notes_gather notes all h.2.0 h.2.3) found.gathers)) h.1
      (ap (λ taken. annotated taken.0 taken.1) (notes_off notes found.items found.bare)
      ∙ ap (unless_broken (λ p. i.Note (roll-Annotation (record { notes = notes; property = p.0; value = p.1 })))) found.is)
      refl

  pub annotations_read : (x : Annotation) → IsNote x
  annotations_read x = annotation_induction IsNote (record { annotation = annotation_read }) x

  pub notes_read : (notes : List Annotation) (ts : Text) → Many0 (SpellsAnnotation words) notes ts → Gathers words (map i.Note notes) ts
  notes_read notes ts ss = notes_gather notes (for_all IsNote annotations_read notes) ts ss

  kind_known : (kind : EntityKind) → keyword_of (entity_kind_word kind) ≡ Some (keyword.Entity kind)
  kind_known kinds.Class = refl
  kind_known kinds.Datatype = refl
  kind_known kinds.ObjectProperty = refl
  kind_known kinds.DataProperty = refl
  kind_known kinds.AnnotationProperty = refl
  kind_known kinds.NamedIndividual = refl

  pub entities_read : (x : Entity) → Is words (SpellsEntity words) as_entity x
  entities_read x ts (inner, e, n) = record {
    item = i.Entity x;
    is = refl;
    other = refl;
    phrase = made words (entity_kind_word x.kind) (i.Name x.name ∷ []) (i.Entity x) inner ts (single words (i.Name x.name) inner (name_reads words x.name inner n)) e
        (ap (λ o. built_if o (i.Name x.name ∷ [])) (kind_known x.kind)) refl;
  }

  abbrev Notes : List Annotation → Text → Type 0
  Notes notes ts = Many0 (SpellsAnnotation words) notes ts

  -- an axiom that a keyword makes of its arguments behind the annotations
  axiom_made : (w : List ℕ) (word : AxiomWord) → keyword_of w ≡ Some (keyword.Axiom word) → (notes : List Annotation) (x : Axiom) (inside : Text → Type 0)
      → ((t : Text) → inside t → Arguments words (axiom_of word) x t) → (ts : Text) → Compound w (Then (Notes notes) inside) ts → Reads words (noted notes x) ts
  axiom_made w word known notes x inside read ts (inner, e, (a, b, e', ns, s)) =
      let found = read b s in
      let P : Text → Type 0 = λ t. Gathers words (map i.Note notes ++ found.items) t in
      made words w (map i.Note notes ++ found.items) (noted notes x) inner ts
      (subst P (sym e') (joined words (map i.Note notes) found.items a b (notes_read notes a ns) found.gathers)) e
      (ap (λ o. built_if o (map i.Note notes ++ found.items)) known
      ∙ ap (λ taken. unless_broken (noted taken.0) (axiom_of word taken.1)) (notes_off notes found.items found.bare)
      ∙ ap (unless_broken (noted notes)) found.is)
      refl

  -- arguments of a shape, of which the keyword makes an axiom
  of_shape : {A : Type 0} (word : AxiomWord) (take : List StackItem → Option A) (make : A → Axiom) → ((items : List StackItem) → axiom_of word items ≡ option_map make (take items))
      → (x : A) (t : Text) → Arguments words take x t → Arguments words (axiom_of word) (make x) t
  of_shape word take make same x t found = record { items = found.items; is = same found.items ∙ ap (option_map make) found.is; bare = found.bare; gathers = found.gathers }

  module _ (w : List ℕ) (word : AxiomWord) (known : keyword_of w ≡ Some (keyword.Axiom word)) where
    axiom_one : {A : Type 0} (f : StackItem → Option A) (spells : A → Text → Type 0) (make : A → Axiom) → ((items : List StackItem) → axiom_of word items ≡ option_map make (one f items))
        → (notes : List Annotation) (x : A) → Is words spells f x → (ts : Text) → Compound w (Then (Notes notes) (spells x)) ts → Reads words (noted notes (make x)) ts
    axiom_one f spells make same notes x r ts s =
        axiom_made w word known notes (make x) (spells x) (λ t h. of_shape word (one f) make same x t (one_argument words f x t (r t h))) ts s

    axiom_two : {A B : Type 0} (f : StackItem → Option A) (g : StackItem → Option B) (spells : A → Text → Type 0) (spells' : B → Text → Type 0) (make : A × B → Axiom)
        → ((items : List StackItem) → axiom_of word items ≡ option_map make (two f g items))
        → (notes : List Annotation) (x : A) (y : B) → Is words spells f x → Is words spells' g y → (ts : Text) → Compound w (Then (Notes notes) (Then (spells x) (spells' y))) ts → Reads words (noted notes (make (x, y))) ts
    axiom_two f g spells spells' make same notes x y r r' ts s =
        axiom_made w word known notes (make (x, y)) (λ t. Then (spells x) (spells' y) t) (λ t h. of_shape word (two f g) make same (x, y) t (two_arguments words f g x y t h.0 h.1 h.2 (r h.0 h.3) (r' h.1 h.4))) ts s

    axiom_three : {A B C : Type 0} (f : StackItem → Option A) (g : StackItem → Option B) (k : StackItem → Option C) (spells : A → Text → Type 0) (spells' : B → Text → Type 0) (spells'' : C → Text → Type 0) (make : A × (B × C) → Axiom)
        → ((items : List StackItem) → axiom_of word items ≡ option_map make (three f g k items))
        → (notes : List Annotation) (x : A) (y : B) (z : C) → Is words spells f x → Is words spells' g y → Is words spells'' k z
        → (ts : Text) → Compound w (Then (Notes notes) (Then (spells x) (Then (spells' y) (spells'' z)))) ts → Reads words (noted notes (make (x, (y, z)))) ts
    axiom_three f g k spells spells' spells'' make same notes x y z r r' r'' ts s =
        axiom_made w word known notes (make (x, (y, z))) (λ t. Then (spells x) (Then (spells' y) (spells'' z)) t) (λ t h. of_shape word (three f g k) make same (x, (y, z)) t
        (three_arguments words f g k x y z t h.0 h.1 h.4.0 h.4.1 h.2 h.4.2 (r h.0 h.3) (r' h.4.0 h.4.3) (r'' h.4.1 h.4.4))) ts s

    axiom_each : {A : Type 0} (f : StackItem → Option A) (spells : A → Text → Type 0) (make : List A → Axiom) → ((items : List StackItem) → axiom_of word items ≡ option_map make (each f items))
        → (notes : List Annotation) (xs : List A) → ((x : A) → Is words spells f x) → (ts : Text) → Compound w (Then (Notes notes) (Many1 spells xs)) ts → Reads words (noted notes (make xs)) ts
    axiom_each f spells make same notes xs r ts s =
        axiom_made w word known notes (make xs) (λ t. Many1 spells xs t) (λ t h. of_shape word (each f) make same xs t (each_argument words spells f xs (for_all _ r xs) t h)) ts s

  -- the list between parentheses in front is taken off
  group_off : {X : Type 0} (f : StackItem → Option X) (xs : List X) (items rest : List StackItem) (t : Text) → each f items ≡ Some xs → Gathers words items t
      → list_at f ((i.Open ∷ (items ++ i.Close ∷ [])) ++ rest) ≡ (Some xs, rest)
  group_off {X = X} f xs items rest t are g =
      ap (λ found. let taken : Option (List X) × List StackItem = (each f (gather found 0).0, (gather found 0).1) in taken) (append_assoc items (i.Close ∷ []) rest)
      ∙ ap (λ (found : List StackItem × List StackItem). let taken : Option (List X) × List StackItem = (each f found.0, found.1) in taken) (g.balanced (i.Close ∷ rest) 0 ∙ ap (λ found. let taken : List StackItem × List StackItem = (found, rest) in taken) (append-nil items))
      ∙ ap (λ found. let taken : Option (List X) × List StackItem = (found, rest) in taken) are

  abbrev key_with : Option Class → Option (List ObjProp) → Option (List (List ℕ)) → Option Axiom
  key_with class objects values = keyed class (option_zip objects values)

  key_arguments : (class : Class) (objects : List ObjProp) (values : List (List ℕ)) (t : Text)
      → Then (SpellsClass false words class) (Then (Group (Many0 (SpellsProperty words) objects)) (Group (Many0 (IsName words) values))) t → Arguments words (axiom_of axiomword.HasKey) (a.HasKey class objects values) t
  key_arguments class objects values t (t1, t23, e, s, (t2, t3, e', (inner, e1, os), (inner', e2, ns))) =
      let r = classes_read words class t1 s in
      let first = many words (SpellsProperty words) as_property objects (for_all _ (properties_read words) objects) inner os in
      let second = many words (IsName words) as_name values (for_all _ (names_read words) values) inner' ns in
      let group1 : List StackItem = i.Open ∷ (first.items ++ i.Close ∷ []) in
      let group2 : List StackItem = i.Open ∷ (second.items ++ i.Close ∷ []) in
      let P : Text → Type 0 = λ u. Gathers words (group1 ++ group2) u in
      let Q : Text → Type 0 = λ u. Gathers words (r.item ∷ (group1 ++ group2)) u in
      record {
        items = r.item ∷ (group1 ++ group2);
        is = ap (λ (taken : Option (List ObjProp) × List StackItem). key_with (as_class r.item) taken.0 (last_list (list_at as_name taken.1))) (group_off as_property objects first.items group2 inner first.are first.gathers)
            ∙ ap (λ found. key_with (as_class r.item) (Some objects) (last_list (list_at as_name found))) (sym (append-nil group2))
            ∙ ap (λ taken. key_with (as_class r.item) (Some objects) (last_list taken)) (group_off as_name values second.items [] inner' second.are second.gathers)
            ∙ ap (λ o. key_with o (Some objects) (Some values)) r.is;
        bare = bare_first r.item (group1 ++ group2) r.other;
        gathers = subst Q (sym e) (joined words (r.item ∷ []) (group1 ++ group2) t1 t23 (single words r.item t1 r.phrase)
            (subst P (sym e') (joined words group1 group2 t2 t3 (grouped words first.items inner t2 first.gathers e1) (grouped words second.items inner' t3 second.gathers e2))));
      }

  -- an axiom is read as what it spells
  pub axioms_read : (notes : List Annotation) (x : Axiom) (ts : Text) → SpellsAxiom false words (Notes notes) x ts → Reads words (noted notes x) ts
  axioms_read notes (a.SubClassOf x y) ts s = axiom_two kw.SubClassOf axiomword.SubClassOf refl as_class as_class (SpellsClass false words) (SpellsClass false words) (λ p. a.SubClassOf p.0 p.1) (λ items. refl) notes x y (classes_read words x) (classes_read words y) ts s
  axioms_read notes (a.EquivalentClasses xs) ts s = axiom_each kw.EquivalentClasses (axiomword.Classes setword.Same) refl as_class (SpellsClass false words) a.EquivalentClasses (λ items. refl) notes xs (classes_read words) ts s
  axioms_read notes (a.DisjointClasses xs) ts s = axiom_each kw.DisjointClasses (axiomword.Classes setword.Different) refl as_class (SpellsClass false words) a.DisjointClasses (λ items. refl) notes xs (classes_read words) ts s
  axioms_read notes (a.DisjointUnion class parts) ts s = axiom_made kw.DisjointUnion axiomword.DisjointUnion refl notes (a.DisjointUnion class parts) (λ t. Then (IsName words class) (Many1 (SpellsClass false words) parts) t) (λ t h. of_shape axiomword.DisjointUnion (first_and_each as_name as_class) (λ p. a.DisjointUnion p.0 p.1) (λ items. refl) (class, parts) t (first_and_each_argument words as_name (SpellsClass false words) as_class class parts (for_all _ (classes_read words) parts) t h.0 h.1 h.2 (names_read words class h.0 h.3) h.4)) ts s
  axioms_read notes (a.SubObjectPropertyOf sub super) ts s = axiom_two kw.SubObjectPropertyOf axiomword.SubObjectPropertyOf refl as_lower as_property (λ x. SpellsProperty words sub) (SpellsProperty words) (λ p. below p.0 p.1) (λ items. refl) notes (lower.Property sub) super (lower_reads words sub) (properties_read words super) ts s
  axioms_read notes (a.SubObjectPropertyChainOf chain super) ts s = axiom_two kw.SubObjectPropertyOf axiomword.SubObjectPropertyOf refl as_lower as_property (λ x. Compound kw.ObjectPropertyChain (Many1 (SpellsProperty words) chain)) (SpellsProperty words) (λ p. below p.0 p.1) (λ items. refl) notes (lower.Chain chain) super (chain_reads words chain) (properties_read words super) ts s
  axioms_read notes (a.EquivalentObjectProperties xs) ts s = axiom_each kw.EquivalentObjectProperties (axiomword.Properties setword.Same) refl as_property (SpellsProperty words) a.EquivalentObjectProperties (λ items. refl) notes xs (properties_read words) ts s
  axioms_read notes (a.DisjointObjectProperties xs) ts s = axiom_each kw.DisjointObjectProperties (axiomword.Properties setword.Different) refl as_property (SpellsProperty words) a.DisjointObjectProperties (λ items. refl) notes xs (properties_read words) ts s
  axioms_read notes (a.InverseObjectProperties x y) ts s = axiom_two kw.InverseObjectProperties axiomword.Inverse refl as_property as_property (SpellsProperty words) (SpellsProperty words) (λ p. a.InverseObjectProperties p.0 p.1) (λ items. refl) notes x y (properties_read words x) (properties_read words y) ts s
  axioms_read notes (a.ObjectPropertyDomain x y) ts s = axiom_two kw.ObjectPropertyDomain (axiomword.PropertyEnd endword.Domain) refl as_property as_class (SpellsProperty words) (SpellsClass false words) (λ p. a.ObjectPropertyDomain p.0 p.1) (λ items. refl) notes x y (properties_read words x) (classes_read words y) ts s
  axioms_read notes (a.ObjectPropertyRange x y) ts s = axiom_two kw.ObjectPropertyRange (axiomword.PropertyEnd endword.Range) refl as_property as_class (SpellsProperty words) (SpellsClass false words) (λ p. a.ObjectPropertyRange p.0 p.1) (λ items. refl) notes x y (properties_read words x) (classes_read words y) ts s
  axioms_read notes (a.FunctionalObjectProperty x) ts s = axiom_one kw.FunctionalObjectProperty (axiomword.Trait traitword.Functional) refl as_property (SpellsProperty words) a.FunctionalObjectProperty (λ items. refl) notes x (properties_read words x) ts s
  axioms_read notes (a.InverseFunctionalObjectProperty x) ts s = axiom_one kw.InverseFunctionalObjectProperty (axiomword.Trait traitword.InverseFunctional) refl as_property (SpellsProperty words) a.InverseFunctionalObjectProperty (λ items. refl) notes x (properties_read words x) ts s
  axioms_read notes (a.ReflexiveObjectProperty x) ts s = axiom_one kw.ReflexiveObjectProperty (axiomword.Trait traitword.Reflexive) refl as_property (SpellsProperty words) a.ReflexiveObjectProperty (λ items. refl) notes x (properties_read words x) ts s
  axioms_read notes (a.IrreflexiveObjectProperty x) ts s = axiom_one kw.IrreflexiveObjectProperty (axiomword.Trait traitword.Irreflexive) refl as_property (SpellsProperty words) a.IrreflexiveObjectProperty (λ items. refl) notes x (properties_read words x) ts s
  axioms_read notes (a.SymmetricObjectProperty x) ts s = axiom_one kw.SymmetricObjectProperty (axiomword.Trait traitword.Symmetric) refl as_property (SpellsProperty words) a.SymmetricObjectProperty (λ items. refl) notes x (properties_read words x) ts s
  axioms_read notes (a.AsymmetricObjectProperty x) ts s = axiom_one kw.AsymmetricObjectProperty (axiomword.Trait traitword.Asymmetric) refl as_property (SpellsProperty words) a.AsymmetricObjectProperty (λ items. refl) notes x (properties_read words x) ts s
  axioms_read notes (a.TransitiveObjectProperty x) ts s = axiom_one kw.TransitiveObjectProperty (axiomword.Trait traitword.Transitive) refl as_property (SpellsProperty words) a.TransitiveObjectProperty (λ items. refl) notes x (properties_read words x) ts s
  axioms_read notes (a.SubDataPropertyOf x y) ts s = axiom_two kw.SubDataPropertyOf (axiomword.Names namesword.SubDataPropertyOf) refl as_name as_name (IsName words) (IsName words) (λ p. a.SubDataPropertyOf p.0 p.1) (λ items. refl) notes x y (names_read words x) (names_read words y) ts s
  axioms_read notes (a.EquivalentDataProperties xs) ts s = axiom_each kw.EquivalentDataProperties (axiomword.DataProperties setword.Same) refl as_name (IsName words) a.EquivalentDataProperties (λ items. refl) notes xs (names_read words) ts s
  axioms_read notes (a.DisjointDataProperties xs) ts s = axiom_each kw.DisjointDataProperties (axiomword.DataProperties setword.Different) refl as_name (IsName words) a.DisjointDataProperties (λ items. refl) notes xs (names_read words) ts s
  axioms_read notes (a.DataPropertyDomain x y) ts s = axiom_two kw.DataPropertyDomain axiomword.DataPropertyDomain refl as_name as_class (IsName words) (SpellsClass false words) (λ p. a.DataPropertyDomain p.0 p.1) (λ items. refl) notes x y (names_read words x) (classes_read words y) ts s
  axioms_read notes (a.DataPropertyRange x y) ts s = axiom_two kw.DataPropertyRange axiomword.DataPropertyRange refl as_name as_range (IsName words) (SpellsRange words) (λ p. a.DataPropertyRange p.0 p.1) (λ items. refl) notes x y (names_read words x) (ranges_read words y) ts s
  axioms_read notes (a.FunctionalDataProperty x) ts s = axiom_one kw.FunctionalDataProperty axiomword.FunctionalDataProperty refl as_name (IsName words) a.FunctionalDataProperty (λ items. refl) notes x (names_read words x) ts s
  axioms_read notes (a.DatatypeDefinition x y) ts s = axiom_two kw.DatatypeDefinition axiomword.DatatypeDefinition refl as_name as_range (IsName words) (SpellsRange words) (λ p. a.DatatypeDefinition p.0 p.1) (λ items. refl) notes x y (names_read words x) (ranges_read words y) ts s
  axioms_read notes (a.HasKey class objects values) ts s = axiom_made kw.HasKey axiomword.HasKey refl notes (a.HasKey class objects values) (λ t. Then (SpellsClass false words class) (Then (Group (Many0 (SpellsProperty words) objects)) (Group (Many0 (IsName words) values))) t) (λ t h. key_arguments class objects values t h) ts s
  axioms_read notes (a.SameIndividual xs) ts s = axiom_each kw.SameIndividual (axiomword.Individuals setword.Same) refl as_individual (SpellsIndividual words) a.SameIndividual (λ items. refl) notes xs (individuals_read words) ts s
  axioms_read notes (a.DifferentIndividuals xs) ts s = axiom_each kw.DifferentIndividuals (axiomword.Individuals setword.Different) refl as_individual (SpellsIndividual words) a.DifferentIndividuals (λ items. refl) notes xs (individuals_read words) ts s
  axioms_read notes (a.ClassAssertion x y) ts s = axiom_two kw.ClassAssertion axiomword.ClassAssertion refl as_class as_individual (SpellsClass false words) (SpellsIndividual words) (λ p. a.ClassAssertion p.0 p.1) (λ items. refl) notes x y (classes_read words x) (individuals_read words y) ts s
  axioms_read notes (a.ObjectPropertyAssertion x y z) ts s = axiom_three kw.ObjectPropertyAssertion (axiomword.PropertyFact factword.Holds) refl as_property as_individual as_individual (SpellsProperty words) (SpellsIndividual words) (SpellsIndividual words) (λ p. a.ObjectPropertyAssertion p.0 p.1.0 p.1.1) (λ items. refl) notes x y z (properties_read words x) (individuals_read words y) (individuals_read words z) ts s
  axioms_read notes (a.NegativeObjectPropertyAssertion x y z) ts s = axiom_three kw.NegativeObjectPropertyAssertion (axiomword.PropertyFact factword.Fails) refl as_property as_individual as_individual (SpellsProperty words) (SpellsIndividual words) (SpellsIndividual words) (λ p. a.NegativeObjectPropertyAssertion p.0 p.1.0 p.1.1) (λ items. refl) notes x y z (properties_read words x) (individuals_read words y) (individuals_read words z) ts s
  axioms_read notes (a.DataPropertyAssertion x y z) ts s = axiom_three kw.DataPropertyAssertion (axiomword.DataFact factword.Holds) refl as_name as_individual as_literal (IsName words) (SpellsIndividual words) (SpellsLiteral words) (λ p. a.DataPropertyAssertion p.0 p.1.0 p.1.1) (λ items. refl) notes x y z (names_read words x) (individuals_read words y) (literals_read words z) ts s
  axioms_read notes (a.NegativeDataPropertyAssertion x y z) ts s = axiom_three kw.NegativeDataPropertyAssertion (axiomword.DataFact factword.Fails) refl as_name as_individual as_literal (IsName words) (SpellsIndividual words) (SpellsLiteral words) (λ p. a.NegativeDataPropertyAssertion p.0 p.1.0 p.1.1) (λ items. refl) notes x y z (names_read words x) (individuals_read words y) (literals_read words z) ts s
  axioms_read notes (a.Declaration x) ts s = axiom_one kw.Declaration axiomword.Declaration refl as_entity (SpellsEntity words) a.Declaration (λ items. refl) notes x (entities_read x) ts s
  axioms_read notes (a.AnnotationAssertion x y z) ts s = axiom_three kw.AnnotationAssertion axiomword.AnnotationAssertion refl as_name as_subject as_value (IsName words) (SpellsSubject words) (SpellsValue words) (λ p. a.AnnotationAssertion p.0 p.1.0 p.1.1) (λ items. refl) notes x y z (names_read words x) (subjects_read words y) (values_read words z) ts s
  axioms_read notes (a.SubAnnotationPropertyOf x y) ts s = axiom_two kw.SubAnnotationPropertyOf (axiomword.Names namesword.SubAnnotationPropertyOf) refl as_name as_name (IsName words) (IsName words) (λ p. a.SubAnnotationPropertyOf p.0 p.1) (λ items. refl) notes x y (names_read words x) (names_read words y) ts s
  axioms_read notes (a.AnnotationPropertyDomain x y) ts s = axiom_two kw.AnnotationPropertyDomain (axiomword.Names namesword.AnnotationPropertyDomain) refl as_name as_name (IsName words) (IsName words) (λ p. a.AnnotationPropertyDomain p.0 p.1) (λ items. refl) notes x y (names_read words x) (names_read words y) ts s
  axioms_read notes (a.AnnotationPropertyRange x y) ts s = axiom_two kw.AnnotationPropertyRange (axiomword.Names namesword.AnnotationPropertyRange) refl as_name as_name (IsName words) (IsName words) (λ p. a.AnnotationPropertyRange p.0 p.1) (λ items. refl) notes x y (names_read words x) (names_read words y) ts s
