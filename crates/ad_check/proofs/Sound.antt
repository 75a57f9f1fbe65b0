-- What is read to its end is in the grammar.
use Rattle.std.proofs.Common.{◌≡◌, ◌≢◌, ℕ, inl, inr, Bool, true, false, List, [], ◌∷◌, ◌++◌, Option, None, Some, refl, sym, ◌∙◌, ap, subst, arith, append_assoc, append-nil}
use Rattle.std.specs.Prelude.{if◌then◌else◌}
use Rattle.std.specs.Option.{option_or}
use Rattle.std.specs.Str.Parse.{digits_value}
use Rattle.std.proofs.lemmas.Bool.{true≢false}
use Rattle.ad_lex.specs.Lexemes.{Lexeme}
use Rattle.ad_lex.specs.Lexemes as says
use Rattle.ad_write.specs.Keywords as kw
use Rattle.ad_tree.specs.declared.names.ObjProp.TheVariants as props
use Rattle.ad_tree.specs.declared.names.Individual.TheVariants as individuals
use Rattle.ad_tree.specs.declared.literals.Literal.{Literal}
use Rattle.ad_tree.specs.declared.literals.Literal.TheVariants as literals
use Rattle.ad_tree.specs.declared.edits.Sign.TheVariants as signs
use Rattle.ad_tree.specs.declared.notes.Subject.TheVariants as subjects
use Rattle.ad_tree.specs.declared.notes.Value.TheVariants as values
use Rattle.ad_tree.specs.declared.notes.Annotation.{Annotation}
use Rattle.ad_tree.specs.declared.ranges.Range.TheVariants as r
use Rattle.ad_tree.specs.declared.classes.Class.TheVariants as c
use Rattle.ad_grammar.specs.Shapes.{Text}
use Rattle.ad_grammar.specs.Names.{names, SpellsLiteral}
use Rattle.ad_grammar.specs.Phrases.{Extra, SpellsAnnotation}
use Rattle.ad_grammar.specs.Texts.{Declared, IsImport, Imports, nothing, enclosed, another, Behind}
use Rattle.ad_grammar.specs.Faults.{Form, class, range, property, individual, literal, document, edit, seed, single, IsOf}
use Rattle.ad_grammar.proofs.Equations as eq
use Rattle.ad_grammar.proofs.Equations.{as_spelled}
use Rattle.ad_check.specs.declared.items.Symbol.{Symbol}
use Rattle.ad_check.specs.declared.items.Symbol.TheVariants as it
use Rattle.ad_check.specs.declared.items.Nonterminal.{Nonterminal}
use Rattle.ad_check.specs.declared.items.Nonterminal.TheVariants as kind
use Rattle.ad_check.specs.Machine.{Entry, row, opens, skips, after, step, ends, goes, accepts, behind, lookup, table, plain_table, rules_in, named, labelled, quoted, signed, counts, is_empty, is_left, is_right, is_equals, is_full, is_label, tail, filler, end, any, until, import_rows, first_row, body, property_rows, chain_rows, note_rows, logical_rows, carried_rows, start}
use Rattle.ad_check.proofs.Tables.{lookup_append}
use Rattle.ad_check.proofs.Numerals.{number_says}
use Rattle.ad_check.proofs.Taken.{none_not_some, accepts_none}
use Rattle.ad_check.proofs.Meant.{every, IsTail, IsFiller, Meaning, Means, some_is, behind_back, means_one, means_split}
use Rattle.ad_check.proofs.Spelled.{EachRow, IsKind, IsLogicalText, row_back, each_append, each_weaker, property_each, chain_each, range_each, class_each, note_each, entity_each, logical_each, carried_each, prefix_each, ontology_each, rule_each}

-- the rows of each kind
table_each : (w : Bool) (k : Nonterminal) → EachRow w (IsKind w k) (table w k)
table_each w kind.Name = tt
table_each w kind.Number = tt
table_each w kind.Property = property_each w
table_each w kind.Link = each_append w (IsKind w kind.Link) property_rows (chain_rows ++ []) (each_weaker w (IsKind w kind.Property) (IsKind w kind.Link) property_rows (λ ts h. (inl h.0, h.1)) (property_each w)) (chain_each w)
table_each w kind.Individual = tt
table_each w kind.Literal = tt
table_each w kind.Facet = tt
table_each w kind.Range = range_each w
table_each w kind.Class = class_each w
table_each w kind.Note = note_each w
table_each w kind.Subject = tt
table_each w kind.Value = tt
table_each w kind.Entity = entity_each w
table_each w kind.Axiom = each_append w (IsKind w kind.Axiom) (logical_rows ++ carried_rows) (rules_in w) (each_append w (IsKind w kind.Axiom) logical_rows carried_rows (each_weaker w (IsLogicalText w) (IsKind w kind.Axiom) logical_rows (λ ts h. (h.0, h.2)) (logical_each w)) (carried_each w)) (each_weaker w (IsLogicalText w) (IsKind w kind.Axiom) (rules_in w) (λ ts h. (h.0, h.2)) (rule_each w))
table_each w kind.Logical = each_append w (IsKind w kind.Logical) logical_rows (rules_in w) (each_weaker w (IsLogicalText w) (IsKind w kind.Logical) logical_rows (λ ts h. (h.0, (h.1, h.2))) (logical_each w)) (each_weaker w (IsLogicalText w) (IsKind w kind.Logical) (rules_in w) (λ ts h. (h.0, (h.1, h.2))) (rule_each w))
table_each w kind.Prefix = prefix_each w
table_each w kind.Signed = tt
table_each w kind.Ontology = ontology_each w

module _ (w : Bool) where
  -- a row that is written out
  given : (x r : List Symbol) (a : Text) → Some x ≡ Some r → Means w r a → Means w x a
  given x r a h m = subst (λ q. Means w q a) (sym (some_is x r h)) m

  -- a phrase that begins with a name
  name_back : (k : Nonterminal) (l : Lexeme) (n : List ℕ) → names every l ≡ Some n → (r : List Symbol) (a : Text) → named k ≡ Some r → Means w r a → IsKind w k (l ∷ a)
  name_back kind.Name l n is rs a h m = (n, (l, ap (λ us. l ∷ us) (given [] rs a h m), is))
  name_back kind.Number l n is rs a h m = absurd (none_not_some rs h)
  name_back kind.Property l n is rs a h m = (props.Named n, (l, ap (λ us. l ∷ us) (given [] rs a h m), is))
  name_back kind.Link l n is rs a h m = (inl (props.Named n), (l, ap (λ us. l ∷ us) (given [] rs a h m), is))
  name_back kind.Individual l n is rs a h m = (individuals.Named n, (l, ap (λ us. l ∷ us) (given [] rs a h m), is))
  name_back kind.Literal l n is rs a h m = absurd (none_not_some rs h)
  name_back kind.Facet l n is rs a h m = let q = means_one w (it.One kind.Literal) a (given (it.One kind.Literal ∷ []) rs a h m) in (record { facet = n; value = q.0 }, (l ∷ [], a, refl, (l, refl, is), q.1))
  name_back kind.Range l n is rs a h m = (r.Named n, as_spelled (l ∷ a) (sym (eq.spells_range-named every n)) (l, ap (λ us. l ∷ us) (given [] rs a h m), is))
  name_back kind.Class l n is rs a h m = (c.Named n, as_spelled (l ∷ a) (sym (eq.spells_class-named w every n)) (l, ap (λ us. l ∷ us) (given [] rs a h m), is))
  name_back kind.Note l n is rs a h m = absurd (none_not_some rs h)
  name_back kind.Subject l n is rs a h m = (subjects.Iri n, (l, ap (λ us. l ∷ us) (given [] rs a h m), is))
  name_back kind.Value l n is rs a h m = (values.Iri n, (l, ap (λ us. l ∷ us) (given [] rs a h m), is))
  name_back kind.Entity l n is rs a h m = absurd (none_not_some rs h)
  name_back kind.Axiom l n is rs a h m = absurd (none_not_some rs h)
  name_back kind.Logical l n is rs a h m = absurd (none_not_some rs h)
  name_back kind.Prefix l n is rs a h m = absurd (none_not_some rs h)
  name_back kind.Signed l n is rs a h m = absurd (none_not_some rs h)
  name_back kind.Ontology l n is rs a h m = absurd (none_not_some rs h)

  -- one with the label of an anonymous individual
  label_back : (k : Nonterminal) (label : List ℕ) → label ≢ [] → (r : List Symbol) (a : Text) → labelled k ≡ Some r → Means w r a → IsKind w k (says.Node label ∷ a)
  label_back kind.Name label some r a h m = absurd (none_not_some r h)
  label_back kind.Number label some r a h m = absurd (none_not_some r h)
  label_back kind.Property label some r a h m = absurd (none_not_some r h)
  label_back kind.Link label some r a h m = absurd (none_not_some r h)
  label_back kind.Individual label some r a h m = (individuals.Anonymous label, (ap (λ us. says.Node label ∷ us) (given [] r a h m), some))
  label_back kind.Literal label some r a h m = absurd (none_not_some r h)
  label_back kind.Facet label some r a h m = absurd (none_not_some r h)
  label_back kind.Range label some r a h m = absurd (none_not_some r h)
  label_back kind.Class label some r a h m = absurd (none_not_some r h)
  label_back kind.Note label some r a h m = absurd (none_not_some r h)
  label_back kind.Subject label some r a h m = (subjects.Anonymous label, (ap (λ us. says.Node label ∷ us) (given [] r a h m), some))
  label_back kind.Value label some r a h m = (values.Anonymous label, (ap (λ us. says.Node label ∷ us) (given [] r a h m), some))
  label_back kind.Entity label some r a h m = absurd (none_not_some r h)
  label_back kind.Axiom label some r a h m = absurd (none_not_some r h)
  label_back kind.Logical label some r a h m = absurd (none_not_some r h)
  label_back kind.Prefix label some r a h m = absurd (none_not_some r h)
  label_back kind.Signed label some r a h m = absurd (none_not_some r h)
  label_back kind.Ontology label some r a h m = absurd (none_not_some r h)

  literal_back : (value : List ℕ) (a : Text) → IsTail a → (x : Literal) × SpellsLiteral every x (says.Text value ∷ a)
  literal_back value a (inl e) = (literals.Plain value, ap (λ us. says.Text value ∷ us) e)
  literal_back value a (inr (inl (tag, e))) = (literals.Lang value tag, ap (λ us. says.Text value ∷ us) e)
  literal_back value a (inr (inr (datatype, name, e, is))) = (literals.Typed value datatype, (name, ap (λ us. says.Text value ∷ us) e, is))

  -- one with a string
  text_back : (k : Nonterminal) (value : List ℕ) (r : List Symbol) (a : Text) → quoted k ≡ Some r → Means w r a → IsKind w k (says.Text value ∷ a)
  text_back kind.Name value r a h m = absurd (none_not_some r h)
  text_back kind.Number value r a h m = absurd (none_not_some r h)
  text_back kind.Property value r a h m = absurd (none_not_some r h)
  text_back kind.Link value r a h m = absurd (none_not_some r h)
  text_back kind.Individual value r a h m = absurd (none_not_some r h)
  text_back kind.Literal value r a h m = literal_back value a (means_one w it.Tail a (given (it.Tail ∷ []) r a h m))
  text_back kind.Facet value r a h m = absurd (none_not_some r h)
  text_back kind.Range value r a h m = absurd (none_not_some r h)
  text_back kind.Class value r a h m = absurd (none_not_some r h)
  text_back kind.Note value r a h m = absurd (none_not_some r h)
  text_back kind.Subject value r a h m = absurd (none_not_some r h)
  text_back kind.Value value r a h m = let q = literal_back value a (means_one w it.Tail a (given (it.Tail ∷ []) r a h m)) in (values.Literal q.0, q.1)
  text_back kind.Entity value r a h m = absurd (none_not_some r h)
  text_back kind.Axiom value r a h m = absurd (none_not_some r h)
  text_back kind.Logical value r a h m = absurd (none_not_some r h)
  text_back kind.Prefix value r a h m = absurd (none_not_some r h)
  text_back kind.Signed value r a h m = absurd (none_not_some r h)
  text_back kind.Ontology value r a h m = absurd (none_not_some r h)

  -- one with a sign
  plus_back : (k : Nonterminal) (r : List Symbol) (a : Text) → signed k ≡ Some r → Means w r a → IsKind w k (says.Plus ∷ a)
  plus_back kind.Name r a h m = absurd (none_not_some r h)
  plus_back kind.Number r a h m = absurd (none_not_some r h)
  plus_back kind.Property r a h m = absurd (none_not_some r h)
  plus_back kind.Link r a h m = absurd (none_not_some r h)
  plus_back kind.Individual r a h m = absurd (none_not_some r h)
  plus_back kind.Literal r a h m = absurd (none_not_some r h)
  plus_back kind.Facet r a h m = absurd (none_not_some r h)
  plus_back kind.Range r a h m = absurd (none_not_some r h)
  plus_back kind.Class r a h m = absurd (none_not_some r h)
  plus_back kind.Note r a h m = absurd (none_not_some r h)
  plus_back kind.Subject r a h m = absurd (none_not_some r h)
  plus_back kind.Value r a h m = absurd (none_not_some r h)
  plus_back kind.Entity r a h m = absurd (none_not_some r h)
  plus_back kind.Axiom r a h m = absurd (none_not_some r h)
  plus_back kind.Logical r a h m = absurd (none_not_some r h)
  plus_back kind.Prefix r a h m = absurd (none_not_some r h)
  plus_back kind.Signed r a h m = let q = means_one w (it.One kind.Axiom) a (given (it.One kind.Axiom ∷ []) r a h m) in ((signs.Add, q.0), (a, refl, q.1))
  plus_back kind.Ontology r a h m = absurd (none_not_some r h)

  minus_back : (k : Nonterminal) (r : List Symbol) (a : Text) → signed k ≡ Some r → Means w r a → IsKind w k (says.Minus ∷ a)
  minus_back kind.Name r a h m = absurd (none_not_some r h)
  minus_back kind.Number r a h m = absurd (none_not_some r h)
  minus_back kind.Property r a h m = absurd (none_not_some r h)
  minus_back kind.Link r a h m = absurd (none_not_some r h)
  minus_back kind.Individual r a h m = absurd (none_not_some r h)
  minus_back kind.Literal r a h m = absurd (none_not_some r h)
  minus_back kind.Facet r a h m = absurd (none_not_some r h)
  minus_back kind.Range r a h m = absurd (none_not_some r h)
  minus_back kind.Class r a h m = absurd (none_not_some r h)
  minus_back kind.Note r a h m = absurd (none_not_some r h)
  minus_back kind.Subject r a h m = absurd (none_not_some r h)
  minus_back kind.Value r a h m = absurd (none_not_some r h)
  minus_back kind.Entity r a h m = absurd (none_not_some r h)
  minus_back kind.Axiom r a h m = absurd (none_not_some r h)
  minus_back kind.Logical r a h m = absurd (none_not_some r h)
  minus_back kind.Prefix r a h m = absurd (none_not_some r h)
  minus_back kind.Signed r a h m = let q = means_one w (it.One kind.Axiom) a (given (it.One kind.Axiom ∷ []) r a h m) in ((signs.Remove, q.0), (a, refl, q.1))
  minus_back kind.Ontology r a h m = absurd (none_not_some r h)

  number_back : (k : Nonterminal) (word : List ℕ) (r : List Symbol) (a : Text) → counts k word ≡ true → Some [] ≡ Some r → Means w r a → IsKind w k (says.Plain word ∷ a)
  number_back kind.Name word r a e h m = absurd (true≢false (sym e))
  number_back kind.Number word r a e h m = let n = number_says word e in (digits_value 10 word, (word, ap (λ us. says.Plain word ∷ us) (given [] r a h m), n.0, refl, omega (arith, n.1)))
  number_back kind.Property word r a e h m = absurd (true≢false (sym e))
  number_back kind.Link word r a e h m = absurd (true≢false (sym e))
  number_back kind.Individual word r a e h m = absurd (true≢false (sym e))
  number_back kind.Literal word r a e h m = absurd (true≢false (sym e))
  number_back kind.Facet word r a e h m = absurd (true≢false (sym e))
  number_back kind.Range word r a e h m = absurd (true≢false (sym e))
  number_back kind.Class word r a e h m = absurd (true≢false (sym e))
  number_back kind.Note word r a e h m = absurd (true≢false (sym e))
  number_back kind.Subject word r a e h m = absurd (true≢false (sym e))
  number_back kind.Value word r a e h m = absurd (true≢false (sym e))
  number_back kind.Entity word r a e h m = absurd (true≢false (sym e))
  number_back kind.Axiom word r a e h m = absurd (true≢false (sym e))
  number_back kind.Logical word r a e h m = absurd (true≢false (sym e))
  number_back kind.Prefix word r a e h m = absurd (true≢false (sym e))
  number_back kind.Signed word r a e h m = absurd (true≢false (sym e))
  number_back kind.Ontology word r a e h m = absurd (true≢false (sym e))

  word_back : (k : Nonterminal) (word : List ℕ) (r : List Symbol) (a : Text) (b : Bool) → counts k word ≡ b → (if b then Some [] else lookup (table w k) word) ≡ Some r → Means w r a → IsKind w k (says.Plain word ∷ a)
  word_back k word r a true e h m = number_back k word r a e h m
  word_back k word r a false e h m = row_back w (IsKind w k) (table w k) (table_each w k) word r h a m

  -- a phrase of a kind
  kind_back : (k : Nonterminal) (t : Lexeme) (r : List Symbol) (a : Text) → row w k t ≡ Some r → Means w r a → IsKind w k (t ∷ a)
  kind_back k says.Left r a h m = absurd (none_not_some r h)
  kind_back k says.Right r a h m = absurd (none_not_some r h)
  kind_back k says.Equals r a h m = absurd (none_not_some r h)
  kind_back k says.Carets r a h m = absurd (none_not_some r h)
  kind_back k says.Plus r a h m = plus_back k r a h m
  kind_back k says.Minus r a h m = minus_back k r a h m
  kind_back k (says.Iri name) r a h m = name_back k (says.Iri name) name refl r a h m
  kind_back k (says.Text value) r a h m = text_back k value r a h m
  kind_back k (says.Plain word) r a h m = word_back k word r a (counts k word) refl h m
  kind_back k (says.Short prefix local) r a h m = name_back k (says.Short prefix local) local refl r a h m
  kind_back k (says.Node []) r a h m = absurd (none_not_some r h)
  kind_back k (says.Node (b ∷ bs)) r a h m = label_back k (b ∷ bs) (λ e. true≢false (sym (ap is_empty e))) r a h m
  kind_back k (says.Lang tag) r a h m = absurd (none_not_some r h)

-- what the plain grammar has the wide one has too
found_wider : (xs ys : List Entry) (word : List ℕ) (r : List Symbol) → lookup (xs ++ []) word ≡ Some r → lookup (xs ++ ys) word ≡ Some r
found_wider xs ys word r h = lookup_append xs ys word ∙ ap (λ o. option_or o (lookup ys word)) (ap (λ es. lookup es word) (sym (append-nil xs)) ∙ h)

table_wider : (w : Bool) (k : Nonterminal) (word : List ℕ) (r : List Symbol) → lookup (table false k) word ≡ Some r → lookup (table w k) word ≡ Some r
table_wider w kind.Name word r h = h
table_wider w kind.Number word r h = h
table_wider w kind.Property word r h = h
table_wider w kind.Link word r h = h
table_wider w kind.Individual word r h = h
table_wider w kind.Literal word r h = h
table_wider w kind.Facet word r h = h
table_wider w kind.Range word r h = h
table_wider w kind.Class word r h = h
table_wider w kind.Note word r h = h
table_wider w kind.Subject word r h = h
table_wider w kind.Value word r h = h
table_wider w kind.Entity word r h = h
table_wider w kind.Axiom word r h = found_wider (plain_table kind.Axiom) (rules_in w) word r h
table_wider w kind.Logical word r h = found_wider (plain_table kind.Logical) (rules_in w) word r h
table_wider w kind.Prefix word r h = h
table_wider w kind.Signed word r h = h
table_wider w kind.Ontology word r h = h

word_wider : (w : Bool) (k : Nonterminal) (word : List ℕ) (r : List Symbol) (b : Bool) → (if b then Some [] else lookup (table false k) word) ≡ Some r → (if b then Some [] else lookup (table w k) word) ≡ Some r
word_wider w k word r true h = h
word_wider w k word r false h = table_wider w k word r h

pub row_wider : (w : Bool) (k : Nonterminal) (t : Lexeme) (r : List Symbol) → row false k t ≡ Some r → row w k t ≡ Some r
row_wider w k says.Left r h = h
row_wider w k says.Right r h = h
row_wider w k says.Equals r h = h
row_wider w k says.Carets r h = h
row_wider w k says.Plus r h = h
row_wider w k says.Minus r h = h
row_wider w k (says.Iri name) r h = h
row_wider w k (says.Text value) r h = h
row_wider w k (says.Plain word) r h = word_wider w k word r (counts k word) h
row_wider w k (says.Short prefix local) r h = h
row_wider w k (says.Node label) r h = h
row_wider w k (says.Lang tag) r h = h

module _ (w : Bool) where
  no_extra : (v : Bool) → Extra v every []
  no_extra true = ([], refl)
  no_extra false = refl

  filler_name_back : (l : Lexeme) (n : List ℕ) → names every l ≡ Some n → (a : Text) → Meaning w it.End a → IsFiller w (l ∷ a)
  filler_name_back l n is a (inl e) = (l ∷ [], ap (λ us. l ∷ us) e, (r.Named n, ([], l ∷ [], refl, no_extra w, as_spelled (l ∷ []) (sym (eq.spells_range-named every n)) (l, refl, is))))
  filler_name_back l n is a (inr (wide, (inner, e, (x, (b, c_, e', extra, spelled))))) = (l ∷ inner, ap (λ us. l ∷ us) e, (x, (l ∷ b, c_, ap (λ us. l ∷ us) e', subst (λ v. Extra v every (l ∷ b)) (sym wide) (more_names (subst (λ v. Extra v every b) wide extra)), spelled)))
    where
      more_names : Extra true every b → Extra true every (l ∷ b)
      more_names (ns, h) = (n ∷ ns, (l ∷ [], b, refl, (l, refl, is), h))

  filler_row : (word : List ℕ) (rs : List Symbol) (a : Text) → behind (it.Right ∷ []) (row false kind.Range (says.Plain word)) ≡ Some rs → Means w rs a → IsFiller w (says.Plain word ∷ a)
  filler_row word rs a h m =
      let b = behind_back (it.Right ∷ []) (row false kind.Range (says.Plain word)) rs h in
      let q = means_split w b.0 (it.Right ∷ []) a (subst (λ x. Means w x a) (sym b.2) m) in
      let one = kind_back w kind.Range (says.Plain word) b.0 q.0 (row_wider w kind.Range (says.Plain word) b.0 b.1) q.3 in
      (says.Plain word ∷ q.0, ap (λ us. says.Plain word ∷ us) (q.2 ∙ ap (λ us. q.0 ++ us) (means_one w it.Right q.1 q.4)), (one.0, ([], says.Plain word ∷ q.0, refl, no_extra w, one.1)))

  filler_back : (t : Lexeme) (r : List Symbol) (a : Text) → filler t ≡ Some r → Means w r a → IsFiller w (t ∷ a)
  filler_back says.Left rs a h m = absurd (none_not_some rs h)
  filler_back says.Right rs a h m = absurd (none_not_some rs h)
  filler_back says.Equals rs a h m = absurd (none_not_some rs h)
  filler_back says.Carets rs a h m = absurd (none_not_some rs h)
  filler_back says.Plus rs a h m = absurd (none_not_some rs h)
  filler_back says.Minus rs a h m = absurd (none_not_some rs h)
  filler_back (says.Iri name) rs a h m = filler_name_back (says.Iri name) name refl a (means_one w it.End a (subst (λ q. Means w q a) (sym (some_is (it.End ∷ []) rs h)) m))
  filler_back (says.Text value) rs a h m = absurd (none_not_some rs h)
  filler_back (says.Plain word) rs a h m = filler_row word rs a h m
  filler_back (says.Short prefix local) rs a h m = filler_name_back (says.Short prefix local) local refl a (means_one w it.End a (subst (λ q. Means w q a) (sym (some_is (it.End ∷ []) rs h)) m))
  filler_back (says.Node label) rs a h m = absurd (none_not_some rs h)
  filler_back (says.Lang tag) rs a h m = absurd (none_not_some rs h)

  end_back : (v : Bool) → w ≡ v → (t : Lexeme) (r : List Symbol) (a : Text) → end v t ≡ Some r → Means w r a → Meaning w it.End (t ∷ a)
  end_back v e says.Right rs a h m = inl (ap (λ us. says.Right ∷ us) (subst (λ q. Means w q a) (sym (some_is [] rs h)) m))
  end_back true e says.Left rs a h m = inr (e, filler_back says.Left rs a h m)
  end_back false e says.Left rs a h m = absurd (none_not_some rs h)
  end_back true e says.Equals rs a h m = inr (e, filler_back says.Equals rs a h m)
  end_back false e says.Equals rs a h m = absurd (none_not_some rs h)
  end_back true e says.Carets rs a h m = inr (e, filler_back says.Carets rs a h m)
  end_back false e says.Carets rs a h m = absurd (none_not_some rs h)
  end_back true e says.Plus rs a h m = inr (e, filler_back says.Plus rs a h m)
  end_back false e says.Plus rs a h m = absurd (none_not_some rs h)
  end_back true e says.Minus rs a h m = inr (e, filler_back says.Minus rs a h m)
  end_back false e says.Minus rs a h m = absurd (none_not_some rs h)
  end_back true e (says.Iri name) rs a h m = inr (e, filler_back (says.Iri name) rs a h m)
  end_back false e (says.Iri name) rs a h m = absurd (none_not_some rs h)
  end_back true e (says.Text value) rs a h m = inr (e, filler_back (says.Text value) rs a h m)
  end_back false e (says.Text value) rs a h m = absurd (none_not_some rs h)
  end_back true e (says.Plain word) rs a h m = inr (e, filler_back (says.Plain word) rs a h m)
  end_back false e (says.Plain word) rs a h m = absurd (none_not_some rs h)
  end_back true e (says.Short prefix local) rs a h m = inr (e, filler_back (says.Short prefix local) rs a h m)
  end_back false e (says.Short prefix local) rs a h m = absurd (none_not_some rs h)
  end_back true e (says.Node label) rs a h m = inr (e, filler_back (says.Node label) rs a h m)
  end_back false e (says.Node label) rs a h m = absurd (none_not_some rs h)
  end_back true e (says.Lang tag) rs a h m = inr (e, filler_back (says.Lang tag) rs a h m)
  end_back false e (says.Lang tag) rs a h m = absurd (none_not_some rs h)

  any_left : (a : Text) → Means w (it.Any ∷ it.Any ∷ []) a → Meaning w it.Any (says.Left ∷ a)
  any_left a (x, y, e, (i, e', inside), m) =
      let rest = means_one w it.Any y m in
      (says.Left ∷ (i ++ says.Right ∷ rest.0), ap (λ us. says.Left ∷ us) (e ∙ ap (λ us. us ++ y) e' ∙ append_assoc i (says.Right ∷ []) y ∙ ap (λ us. i ++ says.Right ∷ us) rest.1 ∙ sym (append_assoc i (says.Right ∷ rest.0) (says.Right ∷ []))), enclosed i rest.0 inside rest.2)

  any_other : (l : Lexeme) (a : Text) → l ≢ says.Left → l ≢ says.Right → Meaning w it.Any a → Meaning w it.Any (l ∷ a)
  any_other l a left right (i, e, inside) = (l ∷ i, ap (λ us. l ∷ us) e, another l i left right inside)

  any_back : (v : Bool) (t : Lexeme) (r : List Symbol) (a : Text) → any v t ≡ Some r → Means w r a → Meaning w it.Any (t ∷ a)
  any_back false t rs a h m = absurd (none_not_some rs h)
  any_back true says.Left rs a h m = any_left a (subst (λ q. Means w q a) (sym (some_is (it.Any ∷ it.Any ∷ []) rs h)) m)
  any_back true says.Right rs a h m = ([], ap (λ us. says.Right ∷ us) (subst (λ q. Means w q a) (sym (some_is [] rs h)) m), nothing)
  any_back true says.Equals rs a h m = any_other says.Equals a (λ e. none_not_some [] (ap is_left e)) (λ e. none_not_some [] (ap is_right e)) (means_one w it.Any a (subst (λ q. Means w q a) (sym (some_is (it.Any ∷ []) rs h)) m))
  any_back true says.Carets rs a h m = any_other says.Carets a (λ e. none_not_some [] (ap is_left e)) (λ e. none_not_some [] (ap is_right e)) (means_one w it.Any a (subst (λ q. Means w q a) (sym (some_is (it.Any ∷ []) rs h)) m))
  any_back true says.Plus rs a h m = any_other says.Plus a (λ e. none_not_some [] (ap is_left e)) (λ e. none_not_some [] (ap is_right e)) (means_one w it.Any a (subst (λ q. Means w q a) (sym (some_is (it.Any ∷ []) rs h)) m))
  any_back true says.Minus rs a h m = any_other says.Minus a (λ e. none_not_some [] (ap is_left e)) (λ e. none_not_some [] (ap is_right e)) (means_one w it.Any a (subst (λ q. Means w q a) (sym (some_is (it.Any ∷ []) rs h)) m))
  any_back true (says.Iri name) rs a h m = any_other (says.Iri name) a (λ e. none_not_some [] (ap is_left e)) (λ e. none_not_some [] (ap is_right e)) (means_one w it.Any a (subst (λ q. Means w q a) (sym (some_is (it.Any ∷ []) rs h)) m))
  any_back true (says.Text value) rs a h m = any_other (says.Text value) a (λ e. none_not_some [] (ap is_left e)) (λ e. none_not_some [] (ap is_right e)) (means_one w it.Any a (subst (λ q. Means w q a) (sym (some_is (it.Any ∷ []) rs h)) m))
  any_back true (says.Plain word) rs a h m = any_other (says.Plain word) a (λ e. none_not_some [] (ap is_left e)) (λ e. none_not_some [] (ap is_right e)) (means_one w it.Any a (subst (λ q. Means w q a) (sym (some_is (it.Any ∷ []) rs h)) m))
  any_back true (says.Short prefix local) rs a h m = any_other (says.Short prefix local) a (λ e. none_not_some [] (ap is_left e)) (λ e. none_not_some [] (ap is_right e)) (means_one w it.Any a (subst (λ q. Means w q a) (sym (some_is (it.Any ∷ []) rs h)) m))
  any_back true (says.Node label) rs a h m = any_other (says.Node label) a (λ e. none_not_some [] (ap is_left e)) (λ e. none_not_some [] (ap is_right e)) (means_one w it.Any a (subst (λ q. Means w q a) (sym (some_is (it.Any ∷ []) rs h)) m))
  any_back true (says.Lang tag) rs a h m = any_other (says.Lang tag) a (λ e. none_not_some [] (ap is_left e)) (λ e. none_not_some [] (ap is_right e)) (means_one w it.Any a (subst (λ q. Means w q a) (sym (some_is (it.Any ∷ []) rs h)) m))

  until_row : (k : Nonterminal) (t : Lexeme) (r : List Symbol) (a : Text) → behind (it.Until k ∷ []) (row w k t) ≡ Some r → Means w r a → Meaning w (it.Until k) (t ∷ a)
  until_row k t r a h m =
      let b = behind_back (it.Until k ∷ []) (row w k t) r h in
      let q = means_split w b.0 (it.Until k ∷ []) a (subst (λ x. Means w x a) (sym b.2) m) in
      let one = kind_back w k t b.0 q.0 b.1 q.3 in
      let rest = means_one w (it.Until k) q.1 q.4 in
      ((t ∷ q.0) ++ rest.0, ap (λ us. t ∷ us) (q.2 ∙ ap (λ us. q.0 ++ us) rest.1 ∙ sym (append_assoc q.0 rest.0 (says.Right ∷ []))), (one.0 ∷ rest.2.0, (t ∷ q.0, rest.0, refl, one.1, rest.2.1)))

  until_back : (k : Nonterminal) (t : Lexeme) (r : List Symbol) (a : Text) → until w k t ≡ Some r → Means w r a → Meaning w (it.Until k) (t ∷ a)
  until_back k says.Left rs a h m = until_row k says.Left rs a h m
  until_back k says.Right rs a h m = ([], ap (λ us. says.Right ∷ us) (subst (λ q. Means w q a) (sym (some_is [] rs h)) m), ([], refl))
  until_back k says.Equals rs a h m = until_row k says.Equals rs a h m
  until_back k says.Carets rs a h m = until_row k says.Carets rs a h m
  until_back k says.Plus rs a h m = until_row k says.Plus rs a h m
  until_back k says.Minus rs a h m = until_row k says.Minus rs a h m
  until_back k (says.Iri name) rs a h m = until_row k (says.Iri name) rs a h m
  until_back k (says.Text value) rs a h m = until_row k (says.Text value) rs a h m
  until_back k (says.Plain word) rs a h m = until_row k (says.Plain word) rs a h m
  until_back k (says.Short prefix local) rs a h m = until_row k (says.Short prefix local) rs a h m
  until_back k (says.Node label) rs a h m = until_row k (says.Node label) rs a h m
  until_back k (says.Lang tag) rs a h m = until_row k (says.Lang tag) rs a h m

  star_back : (k : Nonterminal) (t : Lexeme) (r : List Symbol) (a : Text) → behind (it.Star k ∷ []) (row false k t) ≡ Some r → Means w r a → Meaning w (it.Star k) (t ∷ a)
  star_back k t r a h m =
      let b = behind_back (it.Star k ∷ []) (row false k t) r h in
      let q = means_split w b.0 (it.Star k ∷ []) a (subst (λ x. Means w x a) (sym b.2) m) in
      let one = kind_back w k t b.0 q.0 (row_wider w k t b.0 b.1) q.3 in
      let rest = means_one w (it.Star k) q.1 q.4 in
      (one.0 ∷ rest.0, (t ∷ q.0, q.1, ap (λ us. t ∷ us) q.2, one.1, rest.1))

  maybe_back : (k : Nonterminal) (t : Lexeme) (r : List Symbol) (a : Text) → row false k t ≡ Some r → Means w r a → Meaning w (it.Maybe k) (t ∷ a)
  maybe_back k t r a h m = let one = kind_back w k t r a (row_wider w k t r h) m in (Some one.0, one.1)

  -- annotations and axioms, in which no import stands
  no_imports : (v : Bool) → Imports v every []
  no_imports true = ([], refl)
  no_imports false = refl

  axioms_back : (t : Text) → Meaning w (it.Until kind.Axiom) t → Meaning w it.Body t
  axioms_back t (inner, e, (ss, h)) = (inner, e, (ss, ([], inner, refl, no_imports w, ([], inner, refl, ([], refl), h))))

  note_first : (t : Lexeme) (r : List Symbol) (a : Text) → row w kind.Note t ≡ Some r → Means w (r ++ it.Star kind.Note ∷ it.Until kind.Axiom ∷ []) a → Meaning w it.Body (t ∷ a)
  note_first t r a h m =
      let q = means_split w r (it.Star kind.Note ∷ it.Until kind.Axiom ∷ []) a m in
      let one = kind_back w kind.Note t r q.0 h q.3 in
      notes_rest (t ∷ q.0) q.1 one.0 one.1 (ap (λ us. t ∷ us) q.2) q.4
    where
      notes_rest : (n b : Text) (note : Annotation) → SpellsAnnotation every note n → t ∷ a ≡ n ++ b → Means w (it.Star kind.Note ∷ it.Until kind.Axiom ∷ []) b → Meaning w it.Body (t ∷ a)
      notes_rest n b note spelled e (x, y, e', (notes, noted), m') =
          let u = means_one w (it.Until kind.Axiom) y m' in
          ((n ++ x) ++ u.0, e ∙ ap (λ us. n ++ us) (e' ∙ ap (λ us. x ++ us) u.1) ∙ sym (append_assoc n x (u.0 ++ says.Right ∷ [])) ∙ sym (append_assoc (n ++ x) u.0 (says.Right ∷ [])), (u.2.0, ([], (n ++ x) ++ u.0, refl, no_imports w, (n ++ x, u.0, refl, (note ∷ notes, (n, x, refl, spelled, noted)), u.2.1))))

  import_first : (v : Bool) → w ≡ v → (word : List ℕ) (r : List Symbol) (a : Text) → lookup (import_rows v) word ≡ Some r → Means w r a → Meaning w it.Body (says.Plain word ∷ a)
  import_first false e word r a h m = absurd (none_not_some r h)
  import_first true e word r a h m = row_back w (Meaning w it.Body) (import_rows true) ((λ b n. import_back b n), tt) word r h a m
    where
      import_back : (b : Text) → Means w (it.Left ∷ it.One kind.Name ∷ it.Right ∷ it.Body ∷ []) b → Meaning w it.Body (says.Plain kw.Import ∷ b)
      import_back b (a1, b1, e1, l1, (a2, b2, e2, (name, is), (a3, b3, e3, l3, m4))) =
          let body_ = means_one w it.Body b3 m4 in
          more_imports (says.Plain kw.Import ∷ says.Left ∷ (a2 ++ says.Right ∷ [])) b3 name (a2, refl, is) (ap (λ us. says.Plain kw.Import ∷ us) (e1 ∙ ap (λ us. us ++ b1) l1 ∙ ap (λ us. says.Left ∷ us) (e2 ∙ ap (λ us. a2 ++ us) (e3 ∙ ap (λ us. us ++ b3) l3) ∙ sym (append_assoc a2 (says.Right ∷ []) b3)))) body_
        where
          more_imports : (i rest : Text) (name : List ℕ) → IsImport every name i → says.Plain kw.Import ∷ b ≡ i ++ rest → Meaning w it.Body rest → Meaning w it.Body (says.Plain kw.Import ∷ b)
          more_imports i rest name one whole (inner, e', (ss, (x, y, e'', imported, others))) = (i ++ inner, whole ∙ ap (λ us. i ++ us) e' ∙ sym (append_assoc i inner (says.Right ∷ [])), (ss, (i ++ x, y, ap (λ us. i ++ us) e'' ∙ sym (append_assoc i x y), subst (λ v. Imports v every (i ++ x)) (sym e) (one_more (subst (λ v. Imports v every x) e imported)), others)))
            where
              one_more : Imports true every x → Imports true every (i ++ x)
              one_more (ns, h') = (name ∷ ns, (i, x, refl, one, h'))

  note_or : (word : List ℕ) (o : Option (List Symbol)) → lookup note_rows word ≡ o → (r : List Symbol) (a : Text) → first_row (behind (it.Star kind.Note ∷ it.Until kind.Axiom ∷ []) o) (until w kind.Axiom (says.Plain word)) ≡ Some r → Means w r a → Meaning w it.Body (says.Plain word ∷ a)
  note_or word None e r a h m = axioms_back (says.Plain word ∷ a) (until_back kind.Axiom (says.Plain word) r a h m)
  note_or word (Some x) e r a h m = note_first (says.Plain word) x a (lookup_append note_rows [] word ∙ ap (λ o. option_or o None) e) (subst (λ q. Means w q a) (sym (some_is (x ++ it.Star kind.Note ∷ it.Until kind.Axiom ∷ []) r h)) m)

  word_or : (word : List ℕ) (o : Option (List Symbol)) → lookup (import_rows w) word ≡ o → (r : List Symbol) (a : Text) → first_row o (first_row (behind (it.Star kind.Note ∷ it.Until kind.Axiom ∷ []) (lookup note_rows word)) (until w kind.Axiom (says.Plain word))) ≡ Some r → Means w r a → Meaning w it.Body (says.Plain word ∷ a)
  word_or word None e r a h m = note_or word (lookup note_rows word) refl r a h m
  word_or word (Some x) e r a h m = import_first w refl word r a (e ∙ h) m

  body_back : (t : Lexeme) (r : List Symbol) (a : Text) → body w t ≡ Some r → Means w r a → Meaning w it.Body (t ∷ a)
  body_back says.Left rs a h m = axioms_back (says.Left ∷ a) (until_back kind.Axiom says.Left rs a h m)
  body_back says.Right rs a h m = axioms_back (says.Right ∷ a) (until_back kind.Axiom says.Right rs a h m)
  body_back says.Equals rs a h m = axioms_back (says.Equals ∷ a) (until_back kind.Axiom says.Equals rs a h m)
  body_back says.Carets rs a h m = axioms_back (says.Carets ∷ a) (until_back kind.Axiom says.Carets rs a h m)
  body_back says.Plus rs a h m = axioms_back (says.Plus ∷ a) (until_back kind.Axiom says.Plus rs a h m)
  body_back says.Minus rs a h m = axioms_back (says.Minus ∷ a) (until_back kind.Axiom says.Minus rs a h m)
  body_back (says.Iri name) rs a h m = axioms_back ((says.Iri name) ∷ a) (until_back kind.Axiom (says.Iri name) rs a h m)
  body_back (says.Text value) rs a h m = axioms_back ((says.Text value) ∷ a) (until_back kind.Axiom (says.Text value) rs a h m)
  body_back (says.Plain word) rs a h m = word_or word (lookup (import_rows w) word) refl rs a h m
  body_back (says.Short prefix local) rs a h m = axioms_back ((says.Short prefix local) ∷ a) (until_back kind.Axiom (says.Short prefix local) rs a h m)
  body_back (says.Node label) rs a h m = axioms_back ((says.Node label) ∷ a) (until_back kind.Axiom (says.Node label) rs a h m)
  body_back (says.Lang tag) rs a h m = axioms_back ((says.Lang tag) ∷ a) (until_back kind.Axiom (says.Lang tag) rs a h m)

  left_sign : (t : Lexeme) (r : List Symbol) (a : Text) → is_left t ≡ Some r → Means w r a → Meaning w it.Left (t ∷ a)
  left_sign says.Left rs a h m = ap (λ us. says.Left ∷ us) (subst (λ q. Means w q a) (sym (some_is [] rs h)) m)
  left_sign says.Right rs a h m = absurd (none_not_some rs h)
  left_sign says.Equals rs a h m = absurd (none_not_some rs h)
  left_sign says.Carets rs a h m = absurd (none_not_some rs h)
  left_sign says.Plus rs a h m = absurd (none_not_some rs h)
  left_sign says.Minus rs a h m = absurd (none_not_some rs h)
  left_sign (says.Iri name) rs a h m = absurd (none_not_some rs h)
  left_sign (says.Text value) rs a h m = absurd (none_not_some rs h)
  left_sign (says.Plain word) rs a h m = absurd (none_not_some rs h)
  left_sign (says.Short prefix local) rs a h m = absurd (none_not_some rs h)
  left_sign (says.Node label) rs a h m = absurd (none_not_some rs h)
  left_sign (says.Lang tag) rs a h m = absurd (none_not_some rs h)

  right_sign : (t : Lexeme) (r : List Symbol) (a : Text) → is_right t ≡ Some r → Means w r a → Meaning w it.Right (t ∷ a)
  right_sign says.Left rs a h m = absurd (none_not_some rs h)
  right_sign says.Right rs a h m = ap (λ us. says.Right ∷ us) (subst (λ q. Means w q a) (sym (some_is [] rs h)) m)
  right_sign says.Equals rs a h m = absurd (none_not_some rs h)
  right_sign says.Carets rs a h m = absurd (none_not_some rs h)
  right_sign says.Plus rs a h m = absurd (none_not_some rs h)
  right_sign says.Minus rs a h m = absurd (none_not_some rs h)
  right_sign (says.Iri name) rs a h m = absurd (none_not_some rs h)
  right_sign (says.Text value) rs a h m = absurd (none_not_some rs h)
  right_sign (says.Plain word) rs a h m = absurd (none_not_some rs h)
  right_sign (says.Short prefix local) rs a h m = absurd (none_not_some rs h)
  right_sign (says.Node label) rs a h m = absurd (none_not_some rs h)
  right_sign (says.Lang tag) rs a h m = absurd (none_not_some rs h)

  equals_sign : (t : Lexeme) (r : List Symbol) (a : Text) → is_equals t ≡ Some r → Means w r a → Meaning w it.Equals (t ∷ a)
  equals_sign says.Left rs a h m = absurd (none_not_some rs h)
  equals_sign says.Right rs a h m = absurd (none_not_some rs h)
  equals_sign says.Equals rs a h m = ap (λ us. says.Equals ∷ us) (subst (λ q. Means w q a) (sym (some_is [] rs h)) m)
  equals_sign says.Carets rs a h m = absurd (none_not_some rs h)
  equals_sign says.Plus rs a h m = absurd (none_not_some rs h)
  equals_sign says.Minus rs a h m = absurd (none_not_some rs h)
  equals_sign (says.Iri name) rs a h m = absurd (none_not_some rs h)
  equals_sign (says.Text value) rs a h m = absurd (none_not_some rs h)
  equals_sign (says.Plain word) rs a h m = absurd (none_not_some rs h)
  equals_sign (says.Short prefix local) rs a h m = absurd (none_not_some rs h)
  equals_sign (says.Node label) rs a h m = absurd (none_not_some rs h)
  equals_sign (says.Lang tag) rs a h m = absurd (none_not_some rs h)

  full_sign : (t : Lexeme) (r : List Symbol) (a : Text) → is_full t ≡ Some r → Means w r a → Meaning w it.Full (t ∷ a)
  full_sign says.Left rs a h m = absurd (none_not_some rs h)
  full_sign says.Right rs a h m = absurd (none_not_some rs h)
  full_sign says.Equals rs a h m = absurd (none_not_some rs h)
  full_sign says.Carets rs a h m = absurd (none_not_some rs h)
  full_sign says.Plus rs a h m = absurd (none_not_some rs h)
  full_sign says.Minus rs a h m = absurd (none_not_some rs h)
  full_sign (says.Iri name) rs a h m = (name, ap (λ us. (says.Iri name) ∷ us) (subst (λ q. Means w q a) (sym (some_is [] rs h)) m))
  full_sign (says.Text value) rs a h m = absurd (none_not_some rs h)
  full_sign (says.Plain word) rs a h m = absurd (none_not_some rs h)
  full_sign (says.Short prefix local) rs a h m = absurd (none_not_some rs h)
  full_sign (says.Node label) rs a h m = absurd (none_not_some rs h)
  full_sign (says.Lang tag) rs a h m = absurd (none_not_some rs h)

  label_sign : (t : Lexeme) (r : List Symbol) (a : Text) → is_label t ≡ Some r → Means w r a → Meaning w it.Label (t ∷ a)
  label_sign says.Left rs a h m = absurd (none_not_some rs h)
  label_sign says.Right rs a h m = absurd (none_not_some rs h)
  label_sign says.Equals rs a h m = absurd (none_not_some rs h)
  label_sign says.Carets rs a h m = absurd (none_not_some rs h)
  label_sign says.Plus rs a h m = absurd (none_not_some rs h)
  label_sign says.Minus rs a h m = absurd (none_not_some rs h)
  label_sign (says.Iri name) rs a h m = absurd (none_not_some rs h)
  label_sign (says.Text value) rs a h m = absurd (none_not_some rs h)
  label_sign (says.Plain word) rs a h m = absurd (none_not_some rs h)
  label_sign (says.Short prefix []) rs a h m = (prefix, ap (λ us. says.Short prefix [] ∷ us) (subst (λ q. Means w q a) (sym (some_is [] rs h)) m))
  label_sign (says.Short prefix (b ∷ bs)) rs a h m = absurd (none_not_some rs h)
  label_sign (says.Node label) rs a h m = absurd (none_not_some rs h)
  label_sign (says.Lang tag) rs a h m = absurd (none_not_some rs h)

  tail_sign : (t : Lexeme) (r : List Symbol) (a : Text) → tail t ≡ Some r → Means w r a → Meaning w it.Tail (t ∷ a)
  tail_sign says.Left rs a h m = absurd (none_not_some rs h)
  tail_sign says.Right rs a h m = absurd (none_not_some rs h)
  tail_sign says.Equals rs a h m = absurd (none_not_some rs h)
  tail_sign says.Carets rs a h m = let q = means_one w (it.One kind.Name) a (subst (λ q. Means w q a) (sym (some_is (it.One kind.Name ∷ []) rs h)) m) in inr (inr (q.0, a, refl, q.1))
  tail_sign says.Plus rs a h m = absurd (none_not_some rs h)
  tail_sign says.Minus rs a h m = absurd (none_not_some rs h)
  tail_sign (says.Iri name) rs a h m = absurd (none_not_some rs h)
  tail_sign (says.Text value) rs a h m = absurd (none_not_some rs h)
  tail_sign (says.Plain word) rs a h m = absurd (none_not_some rs h)
  tail_sign (says.Short prefix local) rs a h m = absurd (none_not_some rs h)
  tail_sign (says.Node label) rs a h m = absurd (none_not_some rs h)
  tail_sign (says.Lang tag) rs a h m = inr (inl (tag, ap (λ us. says.Lang tag ∷ us) (subst (λ q. Means w q a) (sym (some_is [] rs h)) m)))

  opens_back : (item : Symbol) (t : Lexeme) (r : List Symbol) (a : Text) → opens w item t ≡ Some r → Means w r a → Meaning w item (t ∷ a)
  opens_back it.Left t r a h m = left_sign t r a h m
  opens_back it.Right t r a h m = right_sign t r a h m
  opens_back it.Equals t r a h m = equals_sign t r a h m
  opens_back it.Full t r a h m = full_sign t r a h m
  opens_back it.Label t r a h m = label_sign t r a h m
  opens_back it.Tail t r a h m = tail_sign t r a h m
  opens_back it.Filler t r a h m = filler_back t r a h m
  opens_back it.End t r a h m = end_back w refl t r a h m
  opens_back it.Any t r a h m = any_back w t r a h m
  opens_back it.Body t r a h m = body_back t r a h m
  opens_back (it.One k) t r a h m = kind_back w k t r a h m
  opens_back (it.Star k) t r a h m = star_back k t r a h m
  opens_back (it.Maybe k) t r a h m = maybe_back k t r a h m
  opens_back (it.Until k) t r a h m = until_back k t r a h m

  absent : (item : Symbol) → skips item ≡ true → Meaning w item []
  absent it.Left h = absurd (true≢false (sym h))
  absent it.Right h = absurd (true≢false (sym h))
  absent it.Equals h = absurd (true≢false (sym h))
  absent it.Full h = absurd (true≢false (sym h))
  absent it.Label h = absurd (true≢false (sym h))
  absent it.Tail h = inl refl
  absent it.Filler h = absurd (true≢false (sym h))
  absent it.End h = absurd (true≢false (sym h))
  absent it.Any h = absurd (true≢false (sym h))
  absent it.Body h = absurd (true≢false (sym h))
  absent (it.One k) h = absurd (true≢false (sym h))
  absent (it.Star k) h = ([], refl)
  absent (it.Maybe k) h = (None, refl)
  absent (it.Until k) h = absurd (true≢false (sym h))

  step_back : (items : List Symbol) (t : Lexeme) (next : List Symbol) (ts : Text) → step w items t ≡ Some next → Means w next ts → Means w items (t ∷ ts)
  step_back [] t next ts h m = absurd (none_not_some next h)
  step_back (item ∷ items) t next ts h m = by_opens (opens w item t) refl (skips item) refl (step_back items t next ts) h
    where
      by_opens : (o : Option (List Symbol)) → opens w item t ≡ o → (s : Bool) → skips item ≡ s → (step w items t ≡ Some next → Means w next ts → Means w items (t ∷ ts)) → after item items o (step w items t) ≡ Some next → Means w (item ∷ items) (t ∷ ts)
      by_opens (Some x) e s e' later h' =
          let q = means_split w x items ts (subst (λ us. Means w us ts) (sym (some_is (x ++ items) next h')) m) in
          (t ∷ q.0, q.1, ap (λ us. t ∷ us) q.2, opens_back item t x q.0 e q.3, q.4)
      by_opens None e true e' later h' = ([], t ∷ ts, refl, absent item e', later (sym (rw e' refl) ∙ h') m)
      by_opens None e false e' later h' = absurd (none_not_some next (sym (rw e' refl) ∙ h'))

  ends_back : (items : List Symbol) → ends items ≡ true → Means w items []
  ends_back [] h = refl
  ends_back (item ∷ items) h = by_skip (skips item) refl (ends_back items)
    where
      by_skip : (s : Bool) → skips item ≡ s → (ends items ≡ true → Means w items []) → Means w (item ∷ items) []
      by_skip true e later = ([], [], refl, absent item e, later (sym (rw e refl) ∙ h))
      by_skip false e later = absurd (true≢false (sym h ∙ rw e refl))

  pub accepts_back : (ts : Text) (items : List Symbol) → accepts w items ts ≡ true → Means w items ts
  accepts_back [] items h = ends_back items h
  accepts_back (t ∷ ts) items h = by_step (step w items t) refl (accepts_back ts)
    where
      by_step : (o : Option (List Symbol)) → step w items t ≡ o → ((next : List Symbol) → accepts w next ts ≡ true → Means w next ts) → Means w items (t ∷ ts)
      by_step None e later = absurd (true≢false (sym h ∙ accepts_none w items t ts e))
      by_step (Some next) e later = step_back items t next ts e (later next (sym (ap (goes (λ m. accepts w m ts)) e) ∙ h))

  behind_prefixes : (item : Symbol) (P : Text → Type 0) (ts : Text) → Means w (it.Star kind.Prefix ∷ item ∷ []) ts → ((b : Text) → Meaning w item b → P b) → (declared : List Declared) × Behind declared P ts
  behind_prefixes item P ts (a, b, e, (declared, h), m) f = (declared, (a, b, e, h, f b (means_one w item b m)))

  -- what is read to its end is in the grammar
  pub sound : (form : Form) (ts : Text) → accepts w (start form) ts ≡ true → IsOf w form ts
  sound class ts h = let m = means_one w (it.One kind.Class) ts (accepts_back ts (start class) h) in (every, m.0, m.1)
  sound range ts h = let m = means_one w (it.One kind.Range) ts (accepts_back ts (start range) h) in (every, m.0, m.1)
  sound property ts h = let m = means_one w (it.One kind.Property) ts (accepts_back ts (start property) h) in (every, m.0, m.1)
  sound individual ts h = let m = means_one w (it.One kind.Individual) ts (accepts_back ts (start individual) h) in (every, m.0, m.1)
  sound literal ts h = let m = means_one w (it.One kind.Literal) ts (accepts_back ts (start literal) h) in (every, m.0, m.1)
  sound document ts h = from (accepts_back ts (start document) h)
    where
      from : Means w (start document) ts → IsOf w document ts
      from (a, b, e, (declared, d), m) = let o = means_one w (it.One kind.Ontology) b m in (every, declared, o.0, (a, b, e, d, o.1))
  sound edit ts h = from (accepts_back ts (start edit) h)
    where
      from : Means w (start edit) ts → IsOf w edit ts
      from (a, b, e, (declared, d), m) = let o = means_one w (it.Star kind.Signed) b m in (every, declared, o.0, (a, b, e, d, o.1))
  sound seed ts h = from (accepts_back ts (start seed) h)
    where
      from : Means w (start seed) ts → IsOf w seed ts
      from (a, b, e, (declared, d), m) = let o = means_one w (it.Star kind.Entity) b m in (every, declared, o.0, (a, b, e, d, o.1))
  sound single ts h = from (accepts_back ts (start single) h)
    where
      from : Means w (start single) ts → IsOf w single ts
      from (a, b, e, (declared, d), m) = let o = means_one w (it.One kind.Logical) b m in (every, declared, o.0, o.1.0, (a, b, e, d, o.1.1))
