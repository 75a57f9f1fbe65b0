-- What stands behind each keyword is a tree.
use Rattle.std.proofs.Common.{◌≡◌, ℕ, ◌⊎◌, inl, inr, Bool, true, false, List, [], ◌∷◌, ◌++◌, None, Some, refl, sym, ◌∙◌, ap, subst, arith, append_assoc, append-nil}
use Rattle.std.specs.Prelude.{codes}
use Rattle.std.specs.List.{AllByRecursion}
use Rattle.std.specs.Str.{bytes_eq}
use Rattle.ad_lex.proofs.Pieces.{bytes_same}
use Rattle.ad_lex.specs.Lexemes.{Lexeme}
use Rattle.ad_lex.specs.Lexemes as says
use Rattle.ad_write.specs.Keywords as kw
use Rattle.ad_tree.specs.declared.names.ObjProp.{ObjProp}
use Rattle.ad_tree.specs.declared.names.ObjProp.TheVariants as props
use Rattle.ad_entity.specs.declared.entities.EntityKind.TheVariants as kinds
use Rattle.ad_tree.specs.declared.notes.Annotation.{Annotation}
use Rattle.ad_tree.specs.declared.notes.Annotation.TheViews.{roll-Annotation}
use Rattle.ad_tree.specs.declared.ranges.Range.{Range}
use Rattle.ad_tree.specs.declared.ranges.Range.TheVariants as r
use Rattle.ad_tree.specs.declared.classes.Class.TheVariants as c
use Rattle.ad_tree.specs.declared.axioms.Axiom.TheVariants as axioms
use Rattle.ad_grammar.specs.Shapes.{Text, Then, Group, Compound, Many0}
use Rattle.ad_grammar.specs.Names.{IsName, SpellsProperty}
use Rattle.ad_grammar.specs.Phrases.{Extra, SpellsRange}
use Rattle.ad_grammar.specs.Texts.{IsHead}
use Rattle.ad_grammar.specs.Faults.{Statement, stated, rule, SpellsStatement, IsLogicalStatement}
use Rattle.ad_grammar.proofs.Equations as eq
use Rattle.ad_grammar.proofs.Equations.{as_spelled}
use Rattle.ad_check.specs.declared.items.Symbol.{Symbol}
use Rattle.ad_check.specs.declared.items.Symbol.TheVariants as it
use Rattle.ad_check.specs.declared.items.Nonterminal.{Nonterminal}
use Rattle.ad_check.specs.declared.items.Nonterminal.TheVariants as kind
use Rattle.ad_check.specs.Machine.{Entry, lookup, rules_in, property_rows, chain_rows, range_rows, class_rows, note_rows, entity_rows, logical_rows, carried_rows, prefix_rows, ontology_rows}
use Rattle.ad_check.proofs.Taken.{none_not_some}
use Rattle.ad_check.proofs.Meant.{every, Val, SpellsKind, SpellsLink, Meaning, Means, means_one, some_is, left_back, enclosed_back, listed_back}

-- each row is that of a phrase with this property
abbrev pub EachRow : Bool → (Text → Type 0) → List Entry → Type 0
EachRow w P es = AllByRecursion (λ e. (a : Text) → Means w e.items a → P (says.Plain e.word ∷ a)) es

pub row_back : (w : Bool) (P : Text → Type 0) (es : List Entry) → EachRow w P es → (word : List ℕ) (items : List Symbol) → lookup es word ≡ Some items → (a : Text) → Means w items a → P (says.Plain word ∷ a)
row_back w P [] each word items h a m = absurd (none_not_some items h)
row_back w P (e ∷ es) each word items h a m = by_word (row_back w P es each.1 word items) (bytes_eq e.word word) refl
  where
    by_word : (lookup es word ≡ Some items → (a : Text) → Means w items a → P (says.Plain word ∷ a)) → (b : Bool) → bytes_eq e.word word ≡ b → P (says.Plain word ∷ a)
    by_word later true is = subst (λ u. P (says.Plain u ∷ a)) (bytes_same e.word word is) (each.0 a (subst (λ r. Means w r a) (sym (some_is e.items items (sym (rw is refl) ∙ h))) m))
    by_word later false is = later (sym (rw is refl) ∙ h) a m

pub each_append : (w : Bool) (P : Text → Type 0) (xs ys : List Entry) → EachRow w P xs → EachRow w P ys → EachRow w P (xs ++ ys)
each_append w P [] ys first second = second
each_append w P (x ∷ xs) ys first second = (first.0, each_append w P xs ys first.1 second)

pub each_weaker : (w : Bool) (P Q : Text → Type 0) (xs : List Entry) → ((ts : Text) → P ts → Q ts) → EachRow w P xs → EachRow w Q xs
each_weaker w P Q [] f each = tt
each_weaker w P Q (x ∷ xs) f each = ((λ a m. f (says.Plain x.word ∷ a) (each.0 a m)), each_weaker w P Q xs f each.1)

-- a logical statement
abbrev pub IsLogicalText : Bool → Text → Type 0
IsLogicalText w ts = (s : Statement) × IsLogicalStatement s × SpellsStatement w every s ts

abbrev pub IsKind : Bool → Nonterminal → Text → Type 0
IsKind w k ts = (v : Val k) × SpellsKind w k v ts

module _ (w : Bool) where
  pub property_each : EachRow w (IsKind w kind.Property) property_rows
  property_each = ((λ a m. let q = enclosed_back w kw.ObjectInverseOf (it.One kind.Name ∷ []) a m in (props.Inverse q.0, q.1)), tt)

  pub chain_each : EachRow w (IsKind w kind.Link) chain_rows
  chain_each = ((λ a m. let q = listed_back w kw.ObjectPropertyChain (it.One kind.Property ∷ []) kind.Property a m in (inr (q.0.0 ∷ q.0.1), q.1)), tt)

  pub range_each : EachRow w (IsKind w kind.Range) range_rows
  range_each = (
    (λ a m. let q = listed_back w kw.DataIntersectionOf (it.One kind.Range ∷ []) kind.Range a m in (r.And (q.0.0 ∷ q.0.1), as_spelled (says.Plain kw.DataIntersectionOf ∷ a) (sym (eq.spells_range-and every (q.0.0 ∷ q.0.1))) q.1)),
    (
      (λ a m. let q = listed_back w kw.DataUnionOf (it.One kind.Range ∷ []) kind.Range a m in (r.Or (q.0.0 ∷ q.0.1), as_spelled (says.Plain kw.DataUnionOf ∷ a) (sym (eq.spells_range-or every (q.0.0 ∷ q.0.1))) q.1)),
      (
        (λ a m. let q = enclosed_back w kw.DataComplementOf (it.One kind.Range ∷ []) a m in (r.Not q.0, as_spelled (says.Plain kw.DataComplementOf ∷ a) (sym (eq.spells_range-not every q.0)) q.1)),
        (
          (λ a m. let q = listed_back w kw.DataOneOf (it.One kind.Literal ∷ []) kind.Literal a m in (r.OneOf (q.0.0 ∷ q.0.1), as_spelled (says.Plain kw.DataOneOf ∷ a) (sym (eq.spells_range-one_of every (q.0.0 ∷ q.0.1))) q.1)),
          ((λ a m. let q = listed_back w kw.DatatypeRestriction (it.One kind.Name ∷ it.One kind.Facet ∷ []) kind.Facet a m in (r.Restriction q.0.0 (q.0.1.0 ∷ q.0.1.1), as_spelled (says.Plain kw.DatatypeRestriction ∷ a) (sym (eq.spells_range-restriction every q.0.0 (q.0.1.0 ∷ q.0.1.1))) q.1)), tt),
        ),
      ),
    ),
  )

  filled_back : (word : List ℕ) (a : Text) → Means w (it.Left ∷ it.One kind.Name ∷ it.Filler ∷ []) a → (name : List ℕ) × (x : Range) × Compound word (Then (IsName every name) (Then (Extra w every) (SpellsRange every x))) (says.Plain word ∷ a)
  filled_back word a m = from_rest (left_back w (it.One kind.Name ∷ it.Filler ∷ []) a m)
    where
      from_rest : (rest : Text) × (a ≡ says.Left ∷ rest) × Means w (it.One kind.Name ∷ it.Filler ∷ []) rest → (name : List ℕ) × (x : Range) × Compound word (Then (IsName every name) (Then (Extra w every) (SpellsRange every x))) (says.Plain word ∷ a)
      from_rest (rest, e, (n, b, e', (name, is), m')) =
          let f = means_one w it.Filler b m' in
          (name, f.2.0, (n ++ f.0, ap (λ us. says.Plain word ∷ us) (e ∙ ap (λ us. says.Left ∷ us) (e' ∙ ap (λ us. n ++ us) f.1 ∙ sym (append_assoc n f.0 (says.Right ∷ [])))), (n, f.0, refl, is, f.2.1)))

  pub class_each : EachRow w (IsKind w kind.Class) class_rows
  class_each = (
    (λ a m. let q = listed_back w kw.ObjectIntersectionOf (it.One kind.Class ∷ []) kind.Class a m in (c.And (q.0.0 ∷ q.0.1), as_spelled (says.Plain kw.ObjectIntersectionOf ∷ a) (sym (eq.spells_class-and w every (q.0.0 ∷ q.0.1))) q.1)),
    (
      (λ a m. let q = listed_back w kw.ObjectUnionOf (it.One kind.Class ∷ []) kind.Class a m in (c.Or (q.0.0 ∷ q.0.1), as_spelled (says.Plain kw.ObjectUnionOf ∷ a) (sym (eq.spells_class-or w every (q.0.0 ∷ q.0.1))) q.1)),
      (
        (λ a m. let q = enclosed_back w kw.ObjectComplementOf (it.One kind.Class ∷ []) a m in (c.Not q.0, as_spelled (says.Plain kw.ObjectComplementOf ∷ a) (sym (eq.spells_class-not w every q.0)) q.1)),
        (
          (λ a m. let q = listed_back w kw.ObjectOneOf (it.One kind.Individual ∷ []) kind.Individual a m in (c.OneOf (q.0.0 ∷ q.0.1), as_spelled (says.Plain kw.ObjectOneOf ∷ a) (sym (eq.spells_class-one_of w every (q.0.0 ∷ q.0.1))) q.1)),
          (
            (λ a m. let q = enclosed_back w kw.ObjectSomeValuesFrom (it.One kind.Property ∷ it.One kind.Class ∷ []) a m in (c.ObjSome q.0.0 q.0.1, as_spelled (says.Plain kw.ObjectSomeValuesFrom ∷ a) (sym (eq.spells_class-obj_some w every q.0.0 q.0.1)) q.1)),
            (
              (λ a m. let q = enclosed_back w kw.ObjectAllValuesFrom (it.One kind.Property ∷ it.One kind.Class ∷ []) a m in (c.ObjAll q.0.0 q.0.1, as_spelled (says.Plain kw.ObjectAllValuesFrom ∷ a) (sym (eq.spells_class-obj_all w every q.0.0 q.0.1)) q.1)),
              (
                (λ a m. let q = enclosed_back w kw.ObjectHasValue (it.One kind.Property ∷ it.One kind.Individual ∷ []) a m in (c.ObjValue q.0.0 q.0.1, as_spelled (says.Plain kw.ObjectHasValue ∷ a) (sym (eq.spells_class-obj_value w every q.0.0 q.0.1)) q.1)),
                (
                  (λ a m. let q = enclosed_back w kw.ObjectHasSelf (it.One kind.Property ∷ []) a m in (c.ObjSelf q.0, as_spelled (says.Plain kw.ObjectHasSelf ∷ a) (sym (eq.spells_class-obj_self w every q.0)) q.1)),
                  (
                    (λ a m. let q = enclosed_back w kw.ObjectMinCardinality (it.One kind.Number ∷ it.One kind.Property ∷ it.Maybe kind.Class ∷ []) a m in (c.ObjMin q.0.0 q.0.1.0 q.0.1.1, as_spelled (says.Plain kw.ObjectMinCardinality ∷ a) (sym (eq.spells_class-obj_min w every q.0.0 q.0.1.0 q.0.1.1)) q.1)),
                    (
                      (λ a m. let q = enclosed_back w kw.ObjectMaxCardinality (it.One kind.Number ∷ it.One kind.Property ∷ it.Maybe kind.Class ∷ []) a m in (c.ObjMax q.0.0 q.0.1.0 q.0.1.1, as_spelled (says.Plain kw.ObjectMaxCardinality ∷ a) (sym (eq.spells_class-obj_max w every q.0.0 q.0.1.0 q.0.1.1)) q.1)),
                      (
                        (λ a m. let q = enclosed_back w kw.ObjectExactCardinality (it.One kind.Number ∷ it.One kind.Property ∷ it.Maybe kind.Class ∷ []) a m in (c.ObjExact q.0.0 q.0.1.0 q.0.1.1, as_spelled (says.Plain kw.ObjectExactCardinality ∷ a) (sym (eq.spells_class-obj_exact w every q.0.0 q.0.1.0 q.0.1.1)) q.1)),
                        (
                          (λ a m. let q = filled_back kw.DataSomeValuesFrom a m in (c.DataSome q.0 q.1, as_spelled (says.Plain kw.DataSomeValuesFrom ∷ a) (sym (eq.spells_class-data_some w every q.0 q.1)) q.2)),
                          (
                            (λ a m. let q = filled_back kw.DataAllValuesFrom a m in (c.DataAll q.0 q.1, as_spelled (says.Plain kw.DataAllValuesFrom ∷ a) (sym (eq.spells_class-data_all w every q.0 q.1)) q.2)),
                            (
                              (λ a m. let q = enclosed_back w kw.DataHasValue (it.One kind.Name ∷ it.One kind.Literal ∷ []) a m in (c.DataValue q.0.0 q.0.1, as_spelled (says.Plain kw.DataHasValue ∷ a) (sym (eq.spells_class-data_value w every q.0.0 q.0.1)) q.1)),
                              (
                                (λ a m. let q = enclosed_back w kw.DataMinCardinality (it.One kind.Number ∷ it.One kind.Name ∷ it.Maybe kind.Range ∷ []) a m in (c.DataMin q.0.0 q.0.1.0 q.0.1.1, as_spelled (says.Plain kw.DataMinCardinality ∷ a) (sym (eq.spells_class-data_min w every q.0.0 q.0.1.0 q.0.1.1)) q.1)),
                                (
                                  (λ a m. let q = enclosed_back w kw.DataMaxCardinality (it.One kind.Number ∷ it.One kind.Name ∷ it.Maybe kind.Range ∷ []) a m in (c.DataMax q.0.0 q.0.1.0 q.0.1.1, as_spelled (says.Plain kw.DataMaxCardinality ∷ a) (sym (eq.spells_class-data_max w every q.0.0 q.0.1.0 q.0.1.1)) q.1)),
                                  ((λ a m. let q = enclosed_back w kw.DataExactCardinality (it.One kind.Number ∷ it.One kind.Name ∷ it.Maybe kind.Range ∷ []) a m in (c.DataExact q.0.0 q.0.1.0 q.0.1.1, as_spelled (says.Plain kw.DataExactCardinality ∷ a) (sym (eq.spells_class-data_exact w every q.0.0 q.0.1.0 q.0.1.1)) q.1)), tt),
                                ),
                              ),
                            ),
                          ),
                        ),
                      ),
                    ),
                  ),
                ),
              ),
            ),
          ),
        ),
      ),
    ),
  )

  pub note_each : EachRow w (IsKind w kind.Note) note_rows
  note_each = ((λ a m. let q = enclosed_back w kw.Annotation (it.Star kind.Note ∷ it.One kind.Name ∷ it.One kind.Value ∷ []) a m in (roll-Annotation (record { notes = q.0.0; property = q.0.1.0; value = q.0.1.1 }), as_spelled (says.Plain kw.Annotation ∷ a) (sym (eq.spells_annotation every q.0.0 q.0.1.0 q.0.1.1)) q.1)), tt)

  pub entity_each : EachRow w (IsKind w kind.Entity) entity_rows
  entity_each = (
    (λ a m. let q = enclosed_back w kw.Class (it.One kind.Name ∷ []) a m in (record { kind = kinds.Class; name = q.0 }, q.1)),
    (
      (λ a m. let q = enclosed_back w kw.Datatype (it.One kind.Name ∷ []) a m in (record { kind = kinds.Datatype; name = q.0 }, q.1)),
      (
        (λ a m. let q = enclosed_back w kw.ObjectProperty (it.One kind.Name ∷ []) a m in (record { kind = kinds.ObjectProperty; name = q.0 }, q.1)),
        (
          (λ a m. let q = enclosed_back w kw.DataProperty (it.One kind.Name ∷ []) a m in (record { kind = kinds.DataProperty; name = q.0 }, q.1)),
          (
            (λ a m. let q = enclosed_back w kw.AnnotationProperty (it.One kind.Name ∷ []) a m in (record { kind = kinds.AnnotationProperty; name = q.0 }, q.1)),
            ((λ a m. let q = enclosed_back w kw.NamedIndividual (it.One kind.Name ∷ []) a m in (record { kind = kinds.NamedIndividual; name = q.0 }, q.1)), tt),
          ),
        ),
      ),
    ),
  )

  -- a property or a chain below a property
  sub_property_back : (a : Text) → Means w (it.Left ∷ it.Star kind.Note ∷ it.One kind.Link ∷ it.One kind.Property ∷ it.Right ∷ []) a → IsLogicalText w (says.Plain kw.SubObjectPropertyOf ∷ a)
  sub_property_back a m =
      let q = enclosed_back w kw.SubObjectPropertyOf (it.Star kind.Note ∷ it.One kind.Link ∷ it.One kind.Property ∷ []) a m in
      by_link q.0.1.0 q.0.0 q.0.1.1 q.1
    where
      by_link : (link : ObjProp ⊎ List ObjProp) (notes : List Annotation) (p : ObjProp) → Compound kw.SubObjectPropertyOf (Then (Many0 (SpellsKind w kind.Note) notes) (Then (SpellsLink link) (SpellsProperty every p))) (says.Plain kw.SubObjectPropertyOf ∷ a) → IsLogicalText w (says.Plain kw.SubObjectPropertyOf ∷ a)
      by_link (inl sub) notes p h = (stated (record { notes = notes; «axiom» = axioms.SubObjectPropertyOf sub p }), refl, h)
      by_link (inr chain) notes p h = (stated (record { notes = notes; «axiom» = axioms.SubObjectPropertyChainOf chain p }), refl, h)

  -- a list between parentheses
  pub record Grouped (k : Nonterminal) (items : List Symbol) (ts : Text) : Type 0 where
    pub vs : List (Val k)
    pub group : Text
    pub rest : Text
    pub is : ts ≡ group ++ rest
    pub spelled : Group (Many0 (SpellsKind w k) vs) group
    pub others : Means w items rest

  group_back : (k : Nonterminal) (items : List Symbol) (ts : Text) → Means w (it.Left ∷ it.Until k ∷ items) ts → Grouped k items ts
  group_back k items ts (a, b, e, l, (x, y, e', (inner, e'', (vs, h)), m)) = record {
    vs = vs;
    group = says.Left ∷ (inner ++ says.Right ∷ []);
    rest = y;
    is = e ∙ ap (λ us. us ++ b) l ∙ ap (λ us. says.Left ∷ us) (e' ∙ ap (λ us. us ++ y) e'');
    spelled = (inner, refl, h);
    others = m;
  }

  key_back : (a : Text) → Means w (it.Left ∷ it.Star kind.Note ∷ it.One kind.Class ∷ it.Left ∷ it.Until kind.Property ∷ it.Left ∷ it.Until kind.Name ∷ it.Right ∷ []) a → IsLogicalText w (says.Plain kw.HasKey ∷ a)
  key_back a (l, b, e, left, (n, b', e', (notes, noted), (cs, d, e'', (class, spelled), m))) =
      let f = group_back kind.Property (it.Left ∷ it.Until kind.Name ∷ it.Right ∷ []) d m in
      let g = group_back kind.Name (it.Right ∷ []) f.rest f.others in
      let whole : d ≡ (f.group ++ g.group) ++ says.Right ∷ [] = f.is ∙ ap (λ us. f.group ++ us) (g.is ∙ ap (λ us. g.group ++ us) (means_one w it.Right g.rest g.others)) ∙ sym (append_assoc f.group g.group (says.Right ∷ [])) in
      let tail_ : b' ≡ (cs ++ (f.group ++ g.group)) ++ says.Right ∷ [] = e'' ∙ ap (λ us. cs ++ us) whole ∙ sym (append_assoc cs (f.group ++ g.group) (says.Right ∷ [])) in
      let all : b ≡ (n ++ (cs ++ (f.group ++ g.group))) ++ says.Right ∷ [] = e' ∙ ap (λ us. n ++ us) tail_ ∙ sym (append_assoc n (cs ++ (f.group ++ g.group)) (says.Right ∷ [])) in
      (stated (record { notes = notes; «axiom» = axioms.HasKey class f.vs g.vs }), refl, (n ++ (cs ++ (f.group ++ g.group)), ap (λ us. says.Plain kw.HasKey ∷ us) (e ∙ ap (λ us. us ++ b) left ∙ ap (λ us. says.Left ∷ us) all), (n, cs ++ (f.group ++ g.group), refl, noted, (cs, f.group ++ g.group, refl, spelled, (f.group, g.group, refl, f.spelled, g.spelled)))))

  pub logical_each : EachRow w (IsLogicalText w) logical_rows
  logical_each = (
    (λ a m. let q = enclosed_back w kw.SubClassOf (it.Star kind.Note ∷ it.One kind.Class ∷ it.One kind.Class ∷ []) a m in (stated (record { notes = q.0.0; «axiom» = axioms.SubClassOf q.0.1.0 q.0.1.1 }), refl, q.1)),
    (
      (λ a m. let q = listed_back w kw.EquivalentClasses (it.Star kind.Note ∷ it.One kind.Class ∷ []) kind.Class a m in (stated (record { notes = q.0.0; «axiom» = axioms.EquivalentClasses (q.0.1.0 ∷ q.0.1.1) }), refl, q.1)),
      (
        (λ a m. let q = listed_back w kw.DisjointClasses (it.Star kind.Note ∷ it.One kind.Class ∷ []) kind.Class a m in (stated (record { notes = q.0.0; «axiom» = axioms.DisjointClasses (q.0.1.0 ∷ q.0.1.1) }), refl, q.1)),
        (
          (λ a m. let q = listed_back w kw.DisjointUnion (it.Star kind.Note ∷ it.One kind.Name ∷ it.One kind.Class ∷ []) kind.Class a m in (stated (record { notes = q.0.0; «axiom» = axioms.DisjointUnion q.0.1.0 (q.0.1.1.0 ∷ q.0.1.1.1) }), refl, q.1)),
          (
            sub_property_back,
            (
              (λ a m. let q = listed_back w kw.EquivalentObjectProperties (it.Star kind.Note ∷ it.One kind.Property ∷ []) kind.Property a m in (stated (record { notes = q.0.0; «axiom» = axioms.EquivalentObjectProperties (q.0.1.0 ∷ q.0.1.1) }), refl, q.1)),
              (
                (λ a m. let q = listed_back w kw.DisjointObjectProperties (it.Star kind.Note ∷ it.One kind.Property ∷ []) kind.Property a m in (stated (record { notes = q.0.0; «axiom» = axioms.DisjointObjectProperties (q.0.1.0 ∷ q.0.1.1) }), refl, q.1)),
                (
                  (λ a m. let q = enclosed_back w kw.InverseObjectProperties (it.Star kind.Note ∷ it.One kind.Property ∷ it.One kind.Property ∷ []) a m in (stated (record { notes = q.0.0; «axiom» = axioms.InverseObjectProperties q.0.1.0 q.0.1.1 }), refl, q.1)),
                  (
                    (λ a m. let q = enclosed_back w kw.ObjectPropertyDomain (it.Star kind.Note ∷ it.One kind.Property ∷ it.One kind.Class ∷ []) a m in (stated (record { notes = q.0.0; «axiom» = axioms.ObjectPropertyDomain q.0.1.0 q.0.1.1 }), refl, q.1)),
                    (
                      (λ a m. let q = enclosed_back w kw.ObjectPropertyRange (it.Star kind.Note ∷ it.One kind.Property ∷ it.One kind.Class ∷ []) a m in (stated (record { notes = q.0.0; «axiom» = axioms.ObjectPropertyRange q.0.1.0 q.0.1.1 }), refl, q.1)),
                      (
                        (λ a m. let q = enclosed_back w kw.FunctionalObjectProperty (it.Star kind.Note ∷ it.One kind.Property ∷ []) a m in (stated (record { notes = q.0.0; «axiom» = axioms.FunctionalObjectProperty q.0.1 }), refl, q.1)),
                        (
                          (λ a m. let q = enclosed_back w kw.InverseFunctionalObjectProperty (it.Star kind.Note ∷ it.One kind.Property ∷ []) a m in (stated (record { notes = q.0.0; «axiom» = axioms.InverseFunctionalObjectProperty q.0.1 }), refl, q.1)),
                          (
                            (λ a m. let q = enclosed_back w kw.ReflexiveObjectProperty (it.Star kind.Note ∷ it.One kind.Property ∷ []) a m in (stated (record { notes = q.0.0; «axiom» = axioms.ReflexiveObjectProperty q.0.1 }), refl, q.1)),
                            (
                              (λ a m. let q = enclosed_back w kw.IrreflexiveObjectProperty (it.Star kind.Note ∷ it.One kind.Property ∷ []) a m in (stated (record { notes = q.0.0; «axiom» = axioms.IrreflexiveObjectProperty q.0.1 }), refl, q.1)),
                              (
                                (λ a m. let q = enclosed_back w kw.SymmetricObjectProperty (it.Star kind.Note ∷ it.One kind.Property ∷ []) a m in (stated (record { notes = q.0.0; «axiom» = axioms.SymmetricObjectProperty q.0.1 }), refl, q.1)),
                                (
                                  (λ a m. let q = enclosed_back w kw.AsymmetricObjectProperty (it.Star kind.Note ∷ it.One kind.Property ∷ []) a m in (stated (record { notes = q.0.0; «axiom» = axioms.AsymmetricObjectProperty q.0.1 }), refl, q.1)),
                                  (
                                    (λ a m. let q = enclosed_back w kw.TransitiveObjectProperty (it.Star kind.Note ∷ it.One kind.Property ∷ []) a m in (stated (record { notes = q.0.0; «axiom» = axioms.TransitiveObjectProperty q.0.1 }), refl, q.1)),
                                    (
                                      (λ a m. let q = enclosed_back w kw.SubDataPropertyOf (it.Star kind.Note ∷ it.One kind.Name ∷ it.One kind.Name ∷ []) a m in (stated (record { notes = q.0.0; «axiom» = axioms.SubDataPropertyOf q.0.1.0 q.0.1.1 }), refl, q.1)),
                                      (
                                        (λ a m. let q = listed_back w kw.EquivalentDataProperties (it.Star kind.Note ∷ it.One kind.Name ∷ []) kind.Name a m in (stated (record { notes = q.0.0; «axiom» = axioms.EquivalentDataProperties (q.0.1.0 ∷ q.0.1.1) }), refl, q.1)),
                                        (
                                          (λ a m. let q = listed_back w kw.DisjointDataProperties (it.Star kind.Note ∷ it.One kind.Name ∷ []) kind.Name a m in (stated (record { notes = q.0.0; «axiom» = axioms.DisjointDataProperties (q.0.1.0 ∷ q.0.1.1) }), refl, q.1)),
                                          (
                                            (λ a m. let q = enclosed_back w kw.DataPropertyDomain (it.Star kind.Note ∷ it.One kind.Name ∷ it.One kind.Class ∷ []) a m in (stated (record { notes = q.0.0; «axiom» = axioms.DataPropertyDomain q.0.1.0 q.0.1.1 }), refl, q.1)),
                                            (
                                              (λ a m. let q = enclosed_back w kw.DataPropertyRange (it.Star kind.Note ∷ it.One kind.Name ∷ it.One kind.Range ∷ []) a m in (stated (record { notes = q.0.0; «axiom» = axioms.DataPropertyRange q.0.1.0 q.0.1.1 }), refl, q.1)),
                                              (
                                                (λ a m. let q = enclosed_back w kw.FunctionalDataProperty (it.Star kind.Note ∷ it.One kind.Name ∷ []) a m in (stated (record { notes = q.0.0; «axiom» = axioms.FunctionalDataProperty q.0.1 }), refl, q.1)),
                                                (
                                                  (λ a m. let q = enclosed_back w kw.DatatypeDefinition (it.Star kind.Note ∷ it.One kind.Name ∷ it.One kind.Range ∷ []) a m in (stated (record { notes = q.0.0; «axiom» = axioms.DatatypeDefinition q.0.1.0 q.0.1.1 }), refl, q.1)),
                                                  (
                                                    key_back,
                                                    (
                                                      (λ a m. let q = listed_back w kw.SameIndividual (it.Star kind.Note ∷ it.One kind.Individual ∷ []) kind.Individual a m in (stated (record { notes = q.0.0; «axiom» = axioms.SameIndividual (q.0.1.0 ∷ q.0.1.1) }), refl, q.1)),
                                                      (
                                                        (λ a m. let q = listed_back w kw.DifferentIndividuals (it.Star kind.Note ∷ it.One kind.Individual ∷ []) kind.Individual a m in (stated (record { notes = q.0.0; «axiom» = axioms.DifferentIndividuals (q.0.1.0 ∷ q.0.1.1) }), refl, q.1)),
                                                        (
                                                          (λ a m. let q = enclosed_back w kw.ClassAssertion (it.Star kind.Note ∷ it.One kind.Class ∷ it.One kind.Individual ∷ []) a m in (stated (record { notes = q.0.0; «axiom» = axioms.ClassAssertion q.0.1.0 q.0.1.1 }), refl, q.1)),
                                                          (
                                                            (λ a m. let q = enclosed_back w kw.ObjectPropertyAssertion (it.Star kind.Note ∷ it.One kind.Property ∷ it.One kind.Individual ∷ it.One kind.Individual ∷ []) a m in (stated (record { notes = q.0.0; «axiom» = axioms.ObjectPropertyAssertion q.0.1.0 q.0.1.1.0 q.0.1.1.1 }), refl, q.1)),
                                                            (
                                                              (λ a m. let q = enclosed_back w kw.NegativeObjectPropertyAssertion (it.Star kind.Note ∷ it.One kind.Property ∷ it.One kind.Individual ∷ it.One kind.Individual ∷ []) a m in (stated (record { notes = q.0.0; «axiom» = axioms.NegativeObjectPropertyAssertion q.0.1.0 q.0.1.1.0 q.0.1.1.1 }), refl, q.1)),
                                                              (
                                                                (λ a m. let q = enclosed_back w kw.DataPropertyAssertion (it.Star kind.Note ∷ it.One kind.Name ∷ it.One kind.Individual ∷ it.One kind.Literal ∷ []) a m in (stated (record { notes = q.0.0; «axiom» = axioms.DataPropertyAssertion q.0.1.0 q.0.1.1.0 q.0.1.1.1 }), refl, q.1)),
                                                                ((λ a m. let q = enclosed_back w kw.NegativeDataPropertyAssertion (it.Star kind.Note ∷ it.One kind.Name ∷ it.One kind.Individual ∷ it.One kind.Literal ∷ []) a m in (stated (record { notes = q.0.0; «axiom» = axioms.NegativeDataPropertyAssertion q.0.1.0 q.0.1.1.0 q.0.1.1.1 }), refl, q.1)), tt),
                                                              ),
                                                            ),
                                                          ),
                                                        ),
                                                      ),
                                                    ),
                                                  ),
                                                ),
                                              ),
                                            ),
                                          ),
                                        ),
                                      ),
                                    ),
                                  ),
                                ),
                              ),
                            ),
                          ),
                        ),
                      ),
                    ),
                  ),
                ),
              ),
            ),
          ),
        ),
      ),
    ),
  )

  pub carried_each : EachRow w (IsKind w kind.Axiom) carried_rows
  carried_each = (
    (λ a m. let q = enclosed_back w kw.Declaration (it.Star kind.Note ∷ it.One kind.Entity ∷ []) a m in (stated (record { notes = q.0.0; «axiom» = axioms.Declaration q.0.1 }), q.1)),
    (
      (λ a m. let q = enclosed_back w kw.AnnotationAssertion (it.Star kind.Note ∷ it.One kind.Name ∷ it.One kind.Subject ∷ it.One kind.Value ∷ []) a m in (stated (record { notes = q.0.0; «axiom» = axioms.AnnotationAssertion q.0.1.0 q.0.1.1.0 q.0.1.1.1 }), q.1)),
      (
        (λ a m. let q = enclosed_back w kw.SubAnnotationPropertyOf (it.Star kind.Note ∷ it.One kind.Name ∷ it.One kind.Name ∷ []) a m in (stated (record { notes = q.0.0; «axiom» = axioms.SubAnnotationPropertyOf q.0.1.0 q.0.1.1 }), q.1)),
        (
          (λ a m. let q = enclosed_back w kw.AnnotationPropertyDomain (it.Star kind.Note ∷ it.One kind.Name ∷ it.One kind.Name ∷ []) a m in (stated (record { notes = q.0.0; «axiom» = axioms.AnnotationPropertyDomain q.0.1.0 q.0.1.1 }), q.1)),
          ((λ a m. let q = enclosed_back w kw.AnnotationPropertyRange (it.Star kind.Note ∷ it.One kind.Name ∷ it.One kind.Name ∷ []) a m in (stated (record { notes = q.0.0; «axiom» = axioms.AnnotationPropertyRange q.0.1.0 q.0.1.1 }), q.1)), tt),
        ),
      ),
    ),
  )

  pub prefix_each : EachRow w (IsKind w kind.Prefix) prefix_rows
  prefix_each = ((λ a m. prefix_back a m), tt)
    where
      prefix_back : (a : Text) → Means w (it.Left ∷ it.Label ∷ it.Equals ∷ it.Full ∷ it.Right ∷ []) a → IsKind w kind.Prefix (says.Plain kw.Prefix ∷ a)
      prefix_back a (a1, b1, e1, l1, (a2, b2, e2, (p, l2), (a3, b3, e3, l3, (a4, b4, e4, (i, l4), m5)))) = (record { prefix = p; iri = i }, ap (λ us. says.Plain kw.Prefix ∷ us) (e1 ∙ ap (λ us. us ++ b1) l1 ∙ ap (λ us. says.Left ∷ us) (e2 ∙ ap (λ us. us ++ b2) l2 ∙ ap (λ us. says.Short p [] ∷ us) (e3 ∙ ap (λ us. us ++ b3) l3 ∙ ap (λ us. says.Equals ∷ us) (e4 ∙ ap (λ us. us ++ b4) l4 ∙ ap (λ us. says.Iri i ∷ us) (means_one w it.Right b4 m5))))))

  heads : (x1 x2 : Text) → Meaning w (it.Maybe kind.Name) x1 → Meaning w (it.Maybe kind.Name) x2 → IsHead every (x1 ++ x2)
  heads x1 x2 (None, h1) (None, h2) = ([], omega arith, ap (λ us. us ++ x2) h1 ∙ h2)
  heads x1 x2 (None, h1) (Some n, h2) = (n ∷ [], omega arith, (x2, [], ap (λ us. us ++ x2) h1 ∙ sym (append-nil x2), h2, refl))
  heads x1 x2 (Some n, h1) (None, h2) = (n ∷ [], omega arith, (x1, x2, refl, h1, h2))
  heads x1 x2 (Some n, h1) (Some m, h2) = (n ∷ m ∷ [], omega arith, (x1, x2, refl, h1, (x2, [], sym (append-nil x2), h2, refl)))

  pub ontology_each : EachRow w (IsKind w kind.Ontology) ontology_rows
  ontology_each = ((λ a m. ontology_back a m), tt)
    where
      ontology_back : (a : Text) → Means w (it.Left ∷ it.Maybe kind.Name ∷ it.Maybe kind.Name ∷ it.Body ∷ []) a → IsKind w kind.Ontology (says.Plain kw.Ontology ∷ a)
      ontology_back a (l, b, e, left, (x1, y1, e1, h1, (x2, y2, e2, h2, m3))) =
          let body = means_one w it.Body y2 m3 in
          (body.2.0, ((x1 ++ x2) ++ body.0, ap (λ us. says.Plain kw.Ontology ∷ us) (e ∙ ap (λ us. us ++ b) left ∙ ap (λ us. says.Left ∷ us) (e1 ∙ ap (λ us. x1 ++ us) (e2 ∙ ap (λ us. x2 ++ us) body.1) ∙ sym (append_assoc x1 x2 (body.0 ++ says.Right ∷ [])) ∙ sym (append_assoc (x1 ++ x2) body.0 (says.Right ∷ [])))), (x1 ++ x2, body.0, refl, heads x1 x2 h1 h2, body.2.1)))

pub rule_each : (w : Bool) → EachRow w (IsLogicalText w) (rules_in w)
rule_each true = ((λ a m. rule_back a m), tt)
  where
    rule_back : (a : Text) → Means true (it.Left ∷ it.Any ∷ []) a → IsLogicalText true (says.Plain kw.DLSafeRule ∷ a)
    rule_back a m =
        let l = left_back true (it.Any ∷ []) a m in
        let q = means_one true it.Any l.0 l.2 in
        (rule, tt, (q.0, ap (λ us. says.Plain kw.DLSafeRule ∷ us) (l.1 ∙ ap (λ us. says.Left ∷ us) q.1), q.2))
rule_each false = tt
