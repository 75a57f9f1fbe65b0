-- What is read is in the grammar: the meaning of each item, and of lists of them.
use Rattle.std.proofs.Common.{◌≡◌, ℕ, ◌⊎◌, inl, inr, Bool, true, List, [], ◌∷◌, ◌++◌, Option, None, Some, refl, sym, ◌∙◌, ap, subst, append_assoc, append-nil}
use Rattle.ad_lex.specs.Lexemes.{Lexeme}
use Rattle.ad_lex.specs.Lexemes as says
use Rattle.ad_tree.specs.declared.names.ObjProp.{ObjProp}
use Rattle.ad_tree.specs.declared.names.Individual.{Individual}
use Rattle.ad_tree.specs.declared.literals.Literal.{Literal}
use Rattle.ad_tree.specs.declared.literals.Facet.{Facet}
use Rattle.ad_entity.specs.declared.entities.Entity.{Entity}
use Rattle.ad_tree.specs.declared.edits.Sign.{Sign}
use Rattle.ad_tree.specs.declared.notes.Subject.{Subject}
use Rattle.ad_tree.specs.declared.notes.Value.{Value}
use Rattle.ad_tree.specs.declared.notes.Annotation.{Annotation}
use Rattle.ad_tree.specs.declared.ranges.Range.{Range}
use Rattle.ad_tree.specs.declared.classes.Class.{Class}
use Rattle.ad_write.specs.Keywords as kw
use Rattle.ad_grammar.specs.Shapes.{Text, Then, Compound, Many0, Many1, Optional}
use Rattle.ad_grammar.specs.Names.{Words, IsName, IsNumber, SpellsProperty, SpellsIndividual, SpellsLiteral, SpellsFacet, SpellsSubject, SpellsValue, SpellsEntity}
use Rattle.ad_grammar.specs.Phrases.{Extra, SpellsRange, SpellsClass, SpellsAnnotation}
use Rattle.ad_grammar.specs.Texts.{Declared, SpellsDeclared, Imports, Matching, AreNotes, Ontology}
use Rattle.ad_grammar.specs.Faults.{Statement, SpellsStatement, IsLogicalStatement, SpellsSigned}
use Rattle.ad_check.specs.declared.items.Symbol.{Symbol}
use Rattle.ad_check.specs.declared.items.Symbol.TheVariants as it
use Rattle.ad_check.specs.declared.items.Nonterminal.{Nonterminal}
use Rattle.ad_check.specs.declared.items.Nonterminal.TheVariants as kind
use Rattle.ad_check.specs.Machine.{behind}
use Rattle.ad_check.proofs.Taken.{none_not_some}

-- each prefix stands for something
abbrev pub every : Words
every prefix = Some []

-- the trees of each kind
abbrev pub Val : Nonterminal → Type 0
Val kind.Name = List ℕ
Val kind.Number = ℕ
Val kind.Property = ObjProp
Val kind.Link = ObjProp ⊎ List ObjProp
Val kind.Individual = Individual
Val kind.Literal = Literal
Val kind.Facet = Facet
Val kind.Range = Range
Val kind.Class = Class
Val kind.Note = Annotation
Val kind.Subject = Subject
Val kind.Value = Value
Val kind.Entity = Entity
Val kind.Axiom = Statement
Val kind.Logical = Statement
Val kind.Prefix = Declared
Val kind.Signed = Sign × Statement
Val kind.Ontology = List Statement

abbrev pub SpellsLink : ObjProp ⊎ List ObjProp → Text → Type 0
SpellsLink (inl p) ts = SpellsProperty every p ts
SpellsLink (inr chain) ts = Compound kw.ObjectPropertyChain (Many1 (SpellsProperty every) chain) ts

abbrev pub SpellsKind : Bool → (k : Nonterminal) → Val k → Text → Type 0
SpellsKind w kind.Name v ts = IsName every v ts
SpellsKind w kind.Number v ts = IsNumber v ts
SpellsKind w kind.Property v ts = SpellsProperty every v ts
SpellsKind w kind.Link v ts = SpellsLink v ts
SpellsKind w kind.Individual v ts = SpellsIndividual every v ts
SpellsKind w kind.Literal v ts = SpellsLiteral every v ts
SpellsKind w kind.Facet v ts = SpellsFacet every v ts
SpellsKind w kind.Range v ts = SpellsRange every v ts
SpellsKind w kind.Class v ts = SpellsClass w every v ts
SpellsKind w kind.Note v ts = SpellsAnnotation every v ts
SpellsKind w kind.Subject v ts = SpellsSubject every v ts
SpellsKind w kind.Value v ts = SpellsValue every v ts
SpellsKind w kind.Entity v ts = SpellsEntity every v ts
SpellsKind w kind.Axiom v ts = SpellsStatement w every v ts
SpellsKind w kind.Logical v ts = IsLogicalStatement v × SpellsStatement w every v ts
SpellsKind w kind.Prefix v ts = SpellsDeclared v ts
SpellsKind w kind.Signed v ts = SpellsSigned w every v ts
SpellsKind w kind.Ontology v ts = Ontology w every (Many0 (SpellsStatement w every) v) ts

-- up to a closing parenthesis
abbrev pub Closed : (Text → Type 0) → Text → Type 0
Closed P ts = (inner : Text) × (ts ≡ inner ++ says.Right ∷ []) × P inner

abbrev pub IsTail : Text → Type 0
IsTail ts = (ts ≡ []) ⊎ (((tag : List ℕ) × (ts ≡ says.Lang tag ∷ [])) ⊎ ((datatype : List ℕ) × (name : Text) × (ts ≡ says.Carets ∷ name) × IsName every datatype name))

abbrev pub IsFiller : Bool → Text → Type 0
IsFiller w ts = Closed (λ inner. (x : Range) × Then (Extra w every) (SpellsRange every x) inner) ts

abbrev pub Meaning : Bool → Symbol → Text → Type 0
Meaning w it.Left ts = ts ≡ says.Left ∷ []
Meaning w it.Right ts = ts ≡ says.Right ∷ []
Meaning w it.Equals ts = ts ≡ says.Equals ∷ []
Meaning w it.Full ts = (iri : List ℕ) × (ts ≡ says.Iri iri ∷ [])
Meaning w it.Label ts = (prefix : List ℕ) × (ts ≡ says.Short prefix [] ∷ [])
Meaning w it.Tail ts = IsTail ts
Meaning w it.Filler ts = IsFiller w ts
Meaning w it.End ts = (ts ≡ says.Right ∷ []) ⊎ ((w ≡ true) × IsFiller w ts)
Meaning w it.Any ts = Closed Matching ts
Meaning w it.Body ts = Closed (λ inner. (statements : List Statement) × Then (Imports w every) (Then (AreNotes every) (Many0 (SpellsStatement w every) statements)) inner) ts
Meaning w (it.One k) ts = (v : Val k) × SpellsKind w k v ts
Meaning w (it.Star k) ts = (vs : List (Val k)) × Many0 (SpellsKind w k) vs ts
Meaning w (it.Maybe k) ts = (v : Option (Val k)) × Optional (SpellsKind w k) v ts
Meaning w (it.Until k) ts = Closed (λ inner. (vs : List (Val k)) × Many0 (SpellsKind w k) vs inner) ts

abbrev pub Means : Bool → List Symbol → Text → Type 0
Means w [] ts = ts ≡ []
Means w (item ∷ items) ts = Then (Meaning w item) (Means w items) ts

pub some_is : (x y : List Symbol) → Some x ≡ Some y → x ≡ y
some_is x y e = ap from e
  where
    from : Option (List Symbol) → List Symbol
    from None = []
    from (Some r) = r

-- a row behind which more stands
pub behind_back : (more : List Symbol) (o : Option (List Symbol)) (r : List Symbol) → behind more o ≡ Some r → (x : List Symbol) × (o ≡ Some x) × (x ++ more ≡ r)
behind_back more None r e = absurd (none_not_some r e)
behind_back more (Some x) r e = (x, refl, some_is (x ++ more) r e)

module _ (w : Bool) where
  pub means_one : (item : Symbol) (a : Text) → Means w (item ∷ []) a → Meaning w item a
  means_one item a (x, y, e, h, none) = subst (Meaning w item) (sym (e ∙ ap (λ us. x ++ us) none ∙ append-nil x)) h

  pub means_split : (r items : List Symbol) (ts : Text) → Means w (r ++ items) ts → Then (Means w r) (Means w items) ts
  means_split [] items ts m = ([], ts, refl, refl, m)
  means_split (item ∷ r) items ts (a, b, e, h, m) =
      let q = means_split r items b m in
      (a ++ q.0, q.1, e ∙ ap (λ us. a ++ us) q.2 ∙ sym (append_assoc a q.0 q.1), (a, q.0, refl, h, q.3), q.4)

  pub means_join : (r items : List Symbol) (a b : Text) → Means w r a → Means w items b → Means w (r ++ items) (a ++ b)
  means_join [] items a b e m = subst (λ us. Means w items (us ++ b)) (sym e) m
  means_join (item ∷ r) items a b (x, y, e, h, n) m = (x, y ++ b, ap (λ us. us ++ b) e ∙ append_assoc x y b, h, means_join r items y b n m)

  -- the arguments of a row
  abbrev pub ArgVal : Symbol → Type 0
  ArgVal (it.One k) = Val k
  ArgVal (it.Star k) = List (Val k)
  ArgVal (it.Maybe k) = Option (Val k)
  ArgVal _ = Unit {0}

  abbrev pub SpellsArg : (item : Symbol) → ArgVal item → Text → Type 0
  SpellsArg (it.One k) v ts = SpellsKind w k v ts
  SpellsArg (it.Star k) vs ts = Many0 (SpellsKind w k) vs ts
  SpellsArg (it.Maybe k) v ts = Optional (SpellsKind w k) v ts
  SpellsArg item v ts = Meaning w item ts

  arg_back : (item : Symbol) (ts : Text) → Meaning w item ts → (v : ArgVal item) × SpellsArg item v ts
  arg_back it.Left ts h = (tt, h)
  arg_back it.Right ts h = (tt, h)
  arg_back it.Equals ts h = (tt, h)
  arg_back it.Full ts h = (tt, h)
  arg_back it.Label ts h = (tt, h)
  arg_back it.Tail ts h = (tt, h)
  arg_back it.Filler ts h = (tt, h)
  arg_back it.End ts h = (tt, h)
  arg_back it.Any ts h = (tt, h)
  arg_back it.Body ts h = (tt, h)
  arg_back (it.One k) ts h = h
  arg_back (it.Star k) ts h = h
  arg_back (it.Maybe k) ts h = h
  arg_back (it.Until k) ts h = (tt, h)

  abbrev pub Vals : List Symbol → Type 0
  Vals [] = Unit {0}
  Vals (i ∷ []) = ArgVal i
  Vals (i ∷ j ∷ r) = ArgVal i × Vals (j ∷ r)

  abbrev pub SpellsArgs : (items : List Symbol) → Vals items → Text → Type 0
  SpellsArgs [] v ts = ts ≡ []
  SpellsArgs (i ∷ []) v ts = SpellsArg i v ts
  SpellsArgs (i ∷ j ∷ r) v ts = Then (SpellsArg i v.0) (SpellsArgs (j ∷ r) v.1) ts

  args_back : (items : List Symbol) (ts : Text) → Means w items ts → (v : Vals items) × SpellsArgs items v ts
  args_back [] ts e = (tt, e)
  args_back (i ∷ []) ts m = arg_back i ts (means_one i ts m)
  args_back (i ∷ j ∷ r) ts (a, b, e, h, m) =
      let first = arg_back i a h in
      let others = args_back (j ∷ r) b m in
      ((first.0, others.0), (a, b, e, first.1, others.1))

  -- arguments and a closing parenthesis
  closed_back : (items : List Symbol) (ts : Text) → Means w (items ++ it.Right ∷ []) ts → (v : Vals items) × Closed (SpellsArgs items v) ts
  closed_back items ts m =
      let q = means_split items (it.Right ∷ []) ts m in
      let args = args_back items q.0 q.3 in
      (args.0, (q.0, q.2 ∙ ap (λ us. q.0 ++ us) (means_one it.Right q.1 q.4), args.1))

  -- the same where the last argument is a list
  until_back : (items : List Symbol) (k : Nonterminal) (ts : Text) → Means w (items ++ it.Until k ∷ []) ts → (v : Vals (items ++ it.Star k ∷ [])) × Closed (SpellsArgs (items ++ it.Star k ∷ []) v) ts
  until_back items k ts m =
      let q = means_split items (it.Until k ∷ []) ts m in
      let l = means_one (it.Until k) q.1 q.4 in
      let star : Means w (it.Star k ∷ []) l.0 = (l.0, [], sym (append-nil l.0), l.2, refl) in
      let args = args_back (items ++ it.Star k ∷ []) (q.0 ++ l.0) (means_join items (it.Star k ∷ []) q.0 l.0 q.3 star) in
      (args.0, (q.0 ++ l.0, q.2 ∙ ap (λ us. q.0 ++ us) l.1 ∙ sym (append_assoc q.0 l.0 (says.Right ∷ [])), args.1))

  pub left_back : (items : List Symbol) (ts : Text) → Means w (it.Left ∷ items) ts → (rest : Text) × (ts ≡ says.Left ∷ rest) × Means w items rest
  left_back items ts (a, b, e, h, m) = (b, e ∙ ap (λ us. us ++ b) h, m)

  -- a keyword and its arguments
  pub enclosed_back : (word : List ℕ) (items : List Symbol) (ts : Text) → Means w (it.Left ∷ (items ++ it.Right ∷ [])) ts → (v : Vals items) × Compound word (SpellsArgs items v) (says.Plain word ∷ ts)
  enclosed_back word items ts m =
      let l = left_back (items ++ it.Right ∷ []) ts m in
      let q = closed_back items l.0 l.2 in
      (q.0, (q.1.0, ap (λ us. says.Plain word ∷ us) (l.1 ∙ ap (λ us. says.Left ∷ us) q.1.1), q.1.2))

  pub listed_back : (word : List ℕ) (items : List Symbol) (k : Nonterminal) (ts : Text) → Means w (it.Left ∷ (items ++ it.Until k ∷ [])) ts → (v : Vals (items ++ it.Star k ∷ [])) × Compound word (SpellsArgs (items ++ it.Star k ∷ []) v) (says.Plain word ∷ ts)
  listed_back word items k ts m =
      let l = left_back (items ++ it.Until k ∷ []) ts m in
      let q = until_back items k l.0 l.2 in
      (q.0, (q.1.0, ap (λ us. says.Plain word ∷ us) (l.1 ∙ ap (λ us. says.Left ∷ us) q.1.1), q.1.2))
