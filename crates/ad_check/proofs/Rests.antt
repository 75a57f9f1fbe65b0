-- A short text completes what was read, from each place on: the rests of the open phrases, from the inside out.
use Rattle.std.proofs.Common.{◌≡◌, ℕ, Bool, true, false, not, List, [], ◌∷◌, ◌++◌, Option, None, Some, refl, sym, ◌∙◌, ap, subst, append_assoc}
use Rattle.std.specs.Prelude.{◌&&◌, ◌||◌, if◌then◌else◌, codes}
use Rattle.std.specs.List.{AllByRecursion}
use Rattle.std.specs.Option.{is_some}
use Rattle.std.specs.Str.{bytes_eq}
use Rattle.std.proofs.lemmas.Bool.{true≢false}
use Rattle.ad_lex.specs.Lexemes.{Lexeme}
use Rattle.ad_lex.specs.Lexemes as says
use Rattle.ad_write.specs.Keywords as kw
use Rattle.ad_grammar.specs.Shapes.{Text}
use Rattle.ad_check.specs.declared.items.Symbol.{Symbol}
use Rattle.ad_check.specs.declared.items.Symbol.TheVariants as it
use Rattle.ad_check.specs.declared.items.Nonterminal.{Nonterminal}
use Rattle.ad_check.specs.declared.items.Nonterminal.TheVariants as kind
use Rattle.ad_check.specs.Machine.{Entry, row, opens, skips, after, step, accepts, behind, lookup, table, counts, is_left, is_right, is_equals, is_full, is_label, tail, filler, end, any, until, import_rows, first_row, body, note_rows, named, labelled, quoted, signed}
use Rattle.ad_check.proofs.Taken.{first_tail, none_is, none_not_some, accepts_same, accepts_step}
use Rattle.ad_check.proofs.Phrased.{tail_over}
use Rattle.ad_check.proofs.Meant.{some_is, behind_back}

-- <u:x>
abbrev missing : Lexeme
missing = says.Iri (codes "u:x")

-- a shortest phrase of each kind
abbrev pub phrase : Nonterminal → Text
phrase kind.Name = missing ∷ []
phrase kind.Number = says.Plain (codes "0") ∷ []
phrase kind.Property = missing ∷ []
phrase kind.Link = missing ∷ []
phrase kind.Individual = missing ∷ []
phrase kind.Literal = says.Text [] ∷ []
phrase kind.Facet = missing ∷ says.Text [] ∷ []
phrase kind.Range = missing ∷ []
phrase kind.Class = missing ∷ []
phrase kind.Note = says.Plain kw.Annotation ∷ says.Left ∷ missing ∷ missing ∷ says.Right ∷ []
phrase kind.Subject = missing ∷ []
phrase kind.Value = missing ∷ []
phrase kind.Entity = says.Plain kw.Class ∷ says.Left ∷ missing ∷ says.Right ∷ []
phrase kind.Axiom = says.Plain kw.SubClassOf ∷ says.Left ∷ missing ∷ missing ∷ says.Right ∷ []
phrase kind.Logical = says.Plain kw.SubClassOf ∷ says.Left ∷ missing ∷ missing ∷ says.Right ∷ []
phrase kind.Prefix = says.Plain kw.Prefix ∷ says.Left ∷ says.Short [] [] ∷ says.Equals ∷ missing ∷ says.Right ∷ []
phrase kind.Signed = says.Plus ∷ says.Plain kw.SubClassOf ∷ says.Left ∷ missing ∷ missing ∷ says.Right ∷ []
phrase kind.Ontology = says.Plain kw.Ontology ∷ says.Left ∷ says.Right ∷ []

abbrev pub rest_of : Symbol → Text
rest_of it.Left = says.Left ∷ []
rest_of it.Right = says.Right ∷ []
rest_of it.Equals = says.Equals ∷ []
rest_of it.Full = missing ∷ []
rest_of it.Label = says.Short [] [] ∷ []
rest_of it.Tail = []
rest_of it.Filler = missing ∷ says.Right ∷ []
rest_of it.End = says.Right ∷ []
rest_of it.Any = says.Right ∷ []
rest_of it.Body = says.Right ∷ []
rest_of (it.One k) = phrase k
rest_of (it.Star k) = []
rest_of (it.Maybe k) = []
rest_of (it.Until k) = says.Right ∷ []

abbrev pub rests : List Symbol → Text
rests [] = []
rests (item ∷ items) = rest_of item ++ rests items

-- whether an item takes no token of the text's front
abbrev pub shut_at : Symbol → Text → Bool
shut_at item [] = true
shut_at item (t ∷ ts) = not (is_some (opens false item t))

-- the plain grammar reads no rule
abbrev pub allowed : Bool → Symbol → Bool
allowed w it.Any = w
allowed w _ = true

-- whether each item that may be absent is, in the rests
abbrev pub well : Bool → List Symbol → Bool
well w [] = true
well w (item ∷ items) = allowed w item && ((not (skips item) || shut_at item (rests items)) && well w items)

pub both : (a b : Bool) → (a && b) ≡ true → (a ≡ true) × (b ≡ true)
both true b e = (refl, e)
both false b e = absurd (true≢false (sym e))

not_true : (b : Bool) → not b ≡ true → b ≡ false
not_true true e = absurd (true≢false (sym e))
not_true false e = refl

phrase_free : (k : Nonterminal) (b : Text) → first_tail (phrase k ++ b) ≡ false
phrase_free kind.Name b = refl
phrase_free kind.Number b = refl
phrase_free kind.Property b = refl
phrase_free kind.Link b = refl
phrase_free kind.Individual b = refl
phrase_free kind.Literal b = refl
phrase_free kind.Facet b = refl
phrase_free kind.Range b = refl
phrase_free kind.Class b = refl
phrase_free kind.Note b = refl
phrase_free kind.Subject b = refl
phrase_free kind.Value b = refl
phrase_free kind.Entity b = refl
phrase_free kind.Axiom b = refl
phrase_free kind.Logical b = refl
phrase_free kind.Prefix b = refl
phrase_free kind.Signed b = refl
phrase_free kind.Ontology b = refl

rests_free : (items : List Symbol) → first_tail (rests items) ≡ false
rests_free [] = refl
rests_free (it.Left ∷ items) = refl
rests_free (it.Right ∷ items) = refl
rests_free (it.Equals ∷ items) = refl
rests_free (it.Full ∷ items) = refl
rests_free (it.Label ∷ items) = refl
rests_free (it.Tail ∷ items) = rests_free items
rests_free (it.Filler ∷ items) = refl
rests_free (it.End ∷ items) = refl
rests_free (it.Any ∷ items) = refl
rests_free (it.Body ∷ items) = refl
rests_free ((it.One k) ∷ items) = phrase_free k (rests items)
rests_free ((it.Star k) ∷ items) = rests_free items
rests_free ((it.Maybe k) ∷ items) = rests_free items
rests_free ((it.Until k) ∷ items) = refl

-- an item that may be absent opens alike in both grammars
pub skip_same : (w : Bool) (item : Symbol) (t : Lexeme) → skips item ≡ true → opens w item t ≡ opens false item t
skip_same w it.Left t h = absurd (true≢false (sym h))
skip_same w it.Right t h = absurd (true≢false (sym h))
skip_same w it.Equals t h = absurd (true≢false (sym h))
skip_same w it.Full t h = absurd (true≢false (sym h))
skip_same w it.Label t h = absurd (true≢false (sym h))
skip_same w it.Tail t h = refl
skip_same w it.Filler t h = absurd (true≢false (sym h))
skip_same w it.End t h = absurd (true≢false (sym h))
skip_same w it.Any t h = absurd (true≢false (sym h))
skip_same w it.Body t h = absurd (true≢false (sym h))
skip_same w (it.One k) t h = absurd (true≢false (sym h))
skip_same w (it.Star k) t h = refl
skip_same w (it.Maybe k) t h = refl
skip_same w (it.Until k) t h = absurd (true≢false (sym h))

module _ (w : Bool) where
  phrase_over : (k : Nonterminal) (items : List Symbol) (b : Text) → first_tail b ≡ false → accepts w (it.One k ∷ items) (phrase k ++ b) ≡ accepts w items b
  phrase_over kind.Name items b free = refl
  phrase_over kind.Number items b free = refl
  phrase_over kind.Property items b free = refl
  phrase_over kind.Link items b free = refl
  phrase_over kind.Individual items b free = refl
  phrase_over kind.Literal items b free = tail_over w items b free
  phrase_over kind.Facet items b free = tail_over w items b free
  phrase_over kind.Range items b free = refl
  phrase_over kind.Class items b free = refl
  phrase_over kind.Note items b free = refl
  phrase_over kind.Subject items b free = refl
  phrase_over kind.Value items b free = refl
  phrase_over kind.Entity items b free = refl
  phrase_over kind.Axiom items b free = refl
  phrase_over kind.Logical items b free = refl
  phrase_over kind.Prefix items b free = refl
  phrase_over kind.Signed items b free = refl
  phrase_over kind.Ontology items b free = refl

  skip_over : (item : Symbol) (items : List Symbol) (b : Text) → skips item ≡ true → shut_at item b ≡ true → accepts w (item ∷ items) b ≡ accepts w items b
  skip_over item items [] may h = rw may refl
  skip_over item items (t ∷ b) may h = accepts_same w (item ∷ items) items t b (ap (λ o. after item items o (step w items t)) (skip_same w item t may ∙ none_is (opens false item t) (not_true (is_some (opens false item t)) h)) ∙ rw may refl)

  -- the rests complete what was read
  any_right : (items : List Symbol) → w ≡ true → step w (it.Any ∷ items) says.Right ≡ Some items
  any_right items e = subst (λ v. step v (it.Any ∷ items) says.Right ≡ Some items) (sym e) refl

  pub completed : (items : List Symbol) → well w items ≡ true → accepts w items (rests items) ≡ true
  completed [] h = refl
  completed (it.Left ∷ items) h = completed items h
  completed (it.Right ∷ items) h = completed items h
  completed (it.Equals ∷ items) h = completed items h
  completed (it.Full ∷ items) h = completed items h
  completed (it.Label ∷ items) h = completed items h
  completed (it.Tail ∷ items) h = let q = both (shut_at it.Tail (rests items)) (well w items) h in skip_over it.Tail items (rests items) refl q.0 ∙ completed items q.1
  completed (it.Filler ∷ items) h = completed items h
  completed (it.End ∷ items) h = completed items h
  completed (it.Any ∷ items) h = let q = both w (well w items) h in accepts_step w (it.Any ∷ items) items says.Right (rests items) (any_right items q.0) ∙ completed items q.1
  completed (it.Body ∷ items) h = completed items h
  completed (it.One k ∷ items) h = phrase_over k items (rests items) (rests_free items) ∙ completed items h
  completed ((it.Star k) ∷ items) h = let q = both (shut_at (it.Star k) (rests items)) (well w items) h in skip_over (it.Star k) items (rests items) refl q.0 ∙ completed items q.1
  completed ((it.Maybe k) ∷ items) h = let q = both (shut_at (it.Maybe k) (rests items)) (well w items) h in skip_over (it.Maybe k) items (rests items) refl q.0 ∙ completed items q.1
  completed ((it.Until k) ∷ items) h = completed items h

-- rows lead to lists that the rests complete
abbrev EachWell : Bool → List Entry → Type 0
EachWell w es = AllByRecursion (λ e. (items : List Symbol) → well w items ≡ true → well w (e.items ++ items) ≡ true) es

lookup_well : (w : Bool) (es : List Entry) → EachWell w es → (word : List ℕ) (r : List Symbol) → lookup es word ≡ Some r → (items : List Symbol) → well w items ≡ true → well w (r ++ items) ≡ true
lookup_well w [] each word r h items good = absurd (none_not_some r h)
lookup_well w (e ∷ es) each word r h items good = by_word (lookup_well w es each.1 word r) (bytes_eq e.word word) refl
  where
    by_word : (lookup es word ≡ Some r → (items : List Symbol) → well w items ≡ true → well w (r ++ items) ≡ true) → (b : Bool) → bytes_eq e.word word ≡ b → well w (r ++ items) ≡ true
    by_word later true is = subst (λ q. well w (q ++ items) ≡ true) (some_is e.items r (sym (rw is refl) ∙ h)) (each.0 items good)
    by_word later false is = later (sym (rw is refl) ∙ h) items good

table_well : (v w : Bool) → (v ≡ true → w ≡ true) → (k : Nonterminal) → EachWell w (table v k)
table_well v w vw kind.Name = tt
table_well v w vw kind.Number = tt
table_well v w vw kind.Property = ((λ items h. h), tt)
table_well v w vw kind.Link = ((λ items h. h), ((λ items h. h), tt))
table_well v w vw kind.Individual = tt
table_well v w vw kind.Literal = tt
table_well v w vw kind.Facet = tt
table_well v w vw kind.Range = ((λ items h. h), ((λ items h. h), ((λ items h. h), ((λ items h. h), ((λ items h. h), tt)))))
table_well v w vw kind.Class = ((λ items h. h), ((λ items h. h), ((λ items h. h), ((λ items h. h), ((λ items h. h), ((λ items h. h), ((λ items h. h), ((λ items h. h), ((λ items h. h), ((λ items h. h), ((λ items h. h), ((λ items h. h), ((λ items h. h), ((λ items h. h), ((λ items h. h), ((λ items h. h), ((λ items h. h), tt)))))))))))))))))
table_well v w vw kind.Note = ((λ items h. h), tt)
table_well v w vw kind.Subject = tt
table_well v w vw kind.Value = tt
table_well v w vw kind.Entity = ((λ items h. h), ((λ items h. h), ((λ items h. h), ((λ items h. h), ((λ items h. h), ((λ items h. h), tt))))))
table_well true true vw kind.Axiom = ((λ items h. h), ((λ items h. h), ((λ items h. h), ((λ items h. h), ((λ items h. h), ((λ items h. h), ((λ items h. h), ((λ items h. h), ((λ items h. h), ((λ items h. h), ((λ items h. h), ((λ items h. h), ((λ items h. h), ((λ items h. h), ((λ items h. h), ((λ items h. h), ((λ items h. h), ((λ items h. h), ((λ items h. h), ((λ items h. h), ((λ items h. h), ((λ items h. h), ((λ items h. h), ((λ items h. h), ((λ items h. h), ((λ items h. h), ((λ items h. h), ((λ items h. h), ((λ items h. h), ((λ items h. h), ((λ items h. h), ((λ items h. h), ((λ items h. h), ((λ items h. h), ((λ items h. h), ((λ items h. h), ((λ items h. h), ((λ items h. h), tt))))))))))))))))))))))))))))))))))))))
table_well true false vw kind.Axiom = absurd (true≢false (sym (vw refl)))
table_well false w vw kind.Axiom = ((λ items h. h), ((λ items h. h), ((λ items h. h), ((λ items h. h), ((λ items h. h), ((λ items h. h), ((λ items h. h), ((λ items h. h), ((λ items h. h), ((λ items h. h), ((λ items h. h), ((λ items h. h), ((λ items h. h), ((λ items h. h), ((λ items h. h), ((λ items h. h), ((λ items h. h), ((λ items h. h), ((λ items h. h), ((λ items h. h), ((λ items h. h), ((λ items h. h), ((λ items h. h), ((λ items h. h), ((λ items h. h), ((λ items h. h), ((λ items h. h), ((λ items h. h), ((λ items h. h), ((λ items h. h), ((λ items h. h), ((λ items h. h), ((λ items h. h), ((λ items h. h), ((λ items h. h), ((λ items h. h), ((λ items h. h), tt)))))))))))))))))))))))))))))))))))))
table_well true true vw kind.Logical = ((λ items h. h), ((λ items h. h), ((λ items h. h), ((λ items h. h), ((λ items h. h), ((λ items h. h), ((λ items h. h), ((λ items h. h), ((λ items h. h), ((λ items h. h), ((λ items h. h), ((λ items h. h), ((λ items h. h), ((λ items h. h), ((λ items h. h), ((λ items h. h), ((λ items h. h), ((λ items h. h), ((λ items h. h), ((λ items h. h), ((λ items h. h), ((λ items h. h), ((λ items h. h), ((λ items h. h), ((λ items h. h), ((λ items h. h), ((λ items h. h), ((λ items h. h), ((λ items h. h), ((λ items h. h), ((λ items h. h), ((λ items h. h), ((λ items h. h), tt)))))))))))))))))))))))))))))))))
table_well true false vw kind.Logical = absurd (true≢false (sym (vw refl)))
table_well false w vw kind.Logical = ((λ items h. h), ((λ items h. h), ((λ items h. h), ((λ items h. h), ((λ items h. h), ((λ items h. h), ((λ items h. h), ((λ items h. h), ((λ items h. h), ((λ items h. h), ((λ items h. h), ((λ items h. h), ((λ items h. h), ((λ items h. h), ((λ items h. h), ((λ items h. h), ((λ items h. h), ((λ items h. h), ((λ items h. h), ((λ items h. h), ((λ items h. h), ((λ items h. h), ((λ items h. h), ((λ items h. h), ((λ items h. h), ((λ items h. h), ((λ items h. h), ((λ items h. h), ((λ items h. h), ((λ items h. h), ((λ items h. h), ((λ items h. h), tt))))))))))))))))))))))))))))))))
table_well v w vw kind.Prefix = ((λ items h. h), tt)
table_well v w vw kind.Signed = tt
table_well v w vw kind.Ontology = ((λ items h. h), tt)

written : (w : Bool) (x r items : List Symbol) → Some x ≡ Some r → well w (x ++ items) ≡ true → well w (r ++ items) ≡ true
written w x r items e h = subst (λ q. well w (q ++ items) ≡ true) (some_is x r e) h

tail_well : (w : Bool) (items : List Symbol) → well w items ≡ true → well w (it.Tail ∷ items) ≡ true
tail_well w items h = by_first (rests items) (rests_free items)
  where
    by_first : (b : Text) → first_tail b ≡ false → (shut_at it.Tail b && well w items) ≡ true
    by_first [] free = h
    by_first (t ∷ b) free = rw free h

named_well : (w : Bool) (k : Nonterminal) (r : List Symbol) → named k ≡ Some r → (items : List Symbol) → well w items ≡ true → well w (r ++ items) ≡ true
named_well w kind.Name r h items good = written w [] r items h good
named_well w kind.Number r h items good = absurd (none_not_some r h)
named_well w kind.Property r h items good = written w [] r items h good
named_well w kind.Link r h items good = written w [] r items h good
named_well w kind.Individual r h items good = written w [] r items h good
named_well w kind.Literal r h items good = absurd (none_not_some r h)
named_well w kind.Facet r h items good = written w (it.One kind.Literal ∷ []) r items h good
named_well w kind.Range r h items good = written w [] r items h good
named_well w kind.Class r h items good = written w [] r items h good
named_well w kind.Note r h items good = absurd (none_not_some r h)
named_well w kind.Subject r h items good = written w [] r items h good
named_well w kind.Value r h items good = written w [] r items h good
named_well w kind.Entity r h items good = absurd (none_not_some r h)
named_well w kind.Axiom r h items good = absurd (none_not_some r h)
named_well w kind.Logical r h items good = absurd (none_not_some r h)
named_well w kind.Prefix r h items good = absurd (none_not_some r h)
named_well w kind.Signed r h items good = absurd (none_not_some r h)
named_well w kind.Ontology r h items good = absurd (none_not_some r h)

labelled_well : (w : Bool) (k : Nonterminal) (r : List Symbol) → labelled k ≡ Some r → (items : List Symbol) → well w items ≡ true → well w (r ++ items) ≡ true
labelled_well w kind.Name r h items good = absurd (none_not_some r h)
labelled_well w kind.Number r h items good = absurd (none_not_some r h)
labelled_well w kind.Property r h items good = absurd (none_not_some r h)
labelled_well w kind.Link r h items good = absurd (none_not_some r h)
labelled_well w kind.Individual r h items good = written w [] r items h good
labelled_well w kind.Literal r h items good = absurd (none_not_some r h)
labelled_well w kind.Facet r h items good = absurd (none_not_some r h)
labelled_well w kind.Range r h items good = absurd (none_not_some r h)
labelled_well w kind.Class r h items good = absurd (none_not_some r h)
labelled_well w kind.Note r h items good = absurd (none_not_some r h)
labelled_well w kind.Subject r h items good = written w [] r items h good
labelled_well w kind.Value r h items good = written w [] r items h good
labelled_well w kind.Entity r h items good = absurd (none_not_some r h)
labelled_well w kind.Axiom r h items good = absurd (none_not_some r h)
labelled_well w kind.Logical r h items good = absurd (none_not_some r h)
labelled_well w kind.Prefix r h items good = absurd (none_not_some r h)
labelled_well w kind.Signed r h items good = absurd (none_not_some r h)
labelled_well w kind.Ontology r h items good = absurd (none_not_some r h)

quoted_well : (w : Bool) (k : Nonterminal) (r : List Symbol) → quoted k ≡ Some r → (items : List Symbol) → well w items ≡ true → well w (r ++ items) ≡ true
quoted_well w kind.Name r h items good = absurd (none_not_some r h)
quoted_well w kind.Number r h items good = absurd (none_not_some r h)
quoted_well w kind.Property r h items good = absurd (none_not_some r h)
quoted_well w kind.Link r h items good = absurd (none_not_some r h)
quoted_well w kind.Individual r h items good = absurd (none_not_some r h)
quoted_well w kind.Literal r h items good = written w (it.Tail ∷ []) r items h (tail_well w items good)
quoted_well w kind.Facet r h items good = absurd (none_not_some r h)
quoted_well w kind.Range r h items good = absurd (none_not_some r h)
quoted_well w kind.Class r h items good = absurd (none_not_some r h)
quoted_well w kind.Note r h items good = absurd (none_not_some r h)
quoted_well w kind.Subject r h items good = absurd (none_not_some r h)
quoted_well w kind.Value r h items good = written w (it.Tail ∷ []) r items h (tail_well w items good)
quoted_well w kind.Entity r h items good = absurd (none_not_some r h)
quoted_well w kind.Axiom r h items good = absurd (none_not_some r h)
quoted_well w kind.Logical r h items good = absurd (none_not_some r h)
quoted_well w kind.Prefix r h items good = absurd (none_not_some r h)
quoted_well w kind.Signed r h items good = absurd (none_not_some r h)
quoted_well w kind.Ontology r h items good = absurd (none_not_some r h)

signed_well : (w : Bool) (k : Nonterminal) (r : List Symbol) → signed k ≡ Some r → (items : List Symbol) → well w items ≡ true → well w (r ++ items) ≡ true
signed_well w kind.Name r h items good = absurd (none_not_some r h)
signed_well w kind.Number r h items good = absurd (none_not_some r h)
signed_well w kind.Property r h items good = absurd (none_not_some r h)
signed_well w kind.Link r h items good = absurd (none_not_some r h)
signed_well w kind.Individual r h items good = absurd (none_not_some r h)
signed_well w kind.Literal r h items good = absurd (none_not_some r h)
signed_well w kind.Facet r h items good = absurd (none_not_some r h)
signed_well w kind.Range r h items good = absurd (none_not_some r h)
signed_well w kind.Class r h items good = absurd (none_not_some r h)
signed_well w kind.Note r h items good = absurd (none_not_some r h)
signed_well w kind.Subject r h items good = absurd (none_not_some r h)
signed_well w kind.Value r h items good = absurd (none_not_some r h)
signed_well w kind.Entity r h items good = absurd (none_not_some r h)
signed_well w kind.Axiom r h items good = absurd (none_not_some r h)
signed_well w kind.Logical r h items good = absurd (none_not_some r h)
signed_well w kind.Prefix r h items good = absurd (none_not_some r h)
signed_well w kind.Signed r h items good = written w (it.One kind.Axiom ∷ []) r items h good
signed_well w kind.Ontology r h items good = absurd (none_not_some r h)

module _ (v w : Bool) (vw : v ≡ true → w ≡ true) where
  word_well : (k : Nonterminal) (word : List ℕ) (b : Bool) (r : List Symbol) → (if b then Some [] else lookup (table v k) word) ≡ Some r → (items : List Symbol) → well w items ≡ true → well w (r ++ items) ≡ true
  word_well k word true r h items good = written w [] r items h good
  word_well k word false r h items good = lookup_well w (table v k) (table_well v w vw k) word r h items good

  row_well : (k : Nonterminal) (t : Lexeme) (r : List Symbol) → row v k t ≡ Some r → (items : List Symbol) → well w items ≡ true → well w (r ++ items) ≡ true
  row_well k says.Left r h items good = absurd (none_not_some r h)
  row_well k says.Right r h items good = absurd (none_not_some r h)
  row_well k says.Equals r h items good = absurd (none_not_some r h)
  row_well k says.Carets r h items good = absurd (none_not_some r h)
  row_well k says.Plus r h items good = signed_well w k r h items good
  row_well k says.Minus r h items good = signed_well w k r h items good
  row_well k (says.Iri name) r h items good = named_well w k r h items good
  row_well k (says.Text value) r h items good = quoted_well w k r h items good
  row_well k (says.Plain word) r h items good = word_well k word (counts k word) r h items good
  row_well k (says.Short prefix local) r h items good = named_well w k r h items good
  row_well k (says.Node []) r h items good = absurd (none_not_some r h)
  row_well k (says.Node (c ∷ cs)) r h items good = labelled_well w k r h items good
  row_well k (says.Lang tag) r h items good = absurd (none_not_some r h)

  behind_well : (k : Nonterminal) (t : Lexeme) (more r : List Symbol) → behind more (row v k t) ≡ Some r → (items : List Symbol) → well w (more ++ items) ≡ true → well w (r ++ items) ≡ true
  behind_well k t more r h items good =
      let b = behind_back more (row v k t) r h in
      subst (λ q. well w (q ++ items) ≡ true) b.2 (ap (well w) (append_assoc b.0 more items) ∙ row_well k t b.0 b.1 (more ++ items) good)

never : (w : Bool) → false ≡ true → w ≡ true
never w e = absurd (true≢false (sym e))

star_well : (w : Bool) (k : Nonterminal) (t : Lexeme) (r : List Symbol) → behind (it.Star k ∷ []) (row false k t) ≡ Some r → (items : List Symbol) → well w (it.Star k ∷ items) ≡ true → well w (r ++ items) ≡ true
star_well w k t r h items good = behind_well false w (never w) k t (it.Star k ∷ []) r h items good

filler_well : (w : Bool) (t : Lexeme) (r : List Symbol) → filler t ≡ Some r → (items : List Symbol) → well w items ≡ true → well w (r ++ items) ≡ true
filler_well w says.Left r h items good = absurd (none_not_some r h)
filler_well w says.Right r h items good = absurd (none_not_some r h)
filler_well w says.Equals r h items good = absurd (none_not_some r h)
filler_well w says.Carets r h items good = absurd (none_not_some r h)
filler_well w says.Plus r h items good = absurd (none_not_some r h)
filler_well w says.Minus r h items good = absurd (none_not_some r h)
filler_well w (says.Iri name) r h items good = written w (it.End ∷ []) r items h good
filler_well w (says.Text value) r h items good = absurd (none_not_some r h)
filler_well w (says.Plain word) r h items good = behind_well false w (never w) kind.Range (says.Plain word) (it.Right ∷ []) r h items good
filler_well w (says.Short prefix local) r h items good = written w (it.End ∷ []) r items h good
filler_well w (says.Node label) r h items good = absurd (none_not_some r h)
filler_well w (says.Lang tag) r h items good = absurd (none_not_some r h)

end_well : (w : Bool) (t : Lexeme) (r : List Symbol) → end w t ≡ Some r → (items : List Symbol) → well w items ≡ true → well w (r ++ items) ≡ true
end_well w says.Right r h items good = written w [] r items h good
end_well true says.Left r h items good = filler_well true says.Left r h items good
end_well false says.Left r h items good = absurd (none_not_some r h)
end_well true says.Equals r h items good = filler_well true says.Equals r h items good
end_well false says.Equals r h items good = absurd (none_not_some r h)
end_well true says.Carets r h items good = filler_well true says.Carets r h items good
end_well false says.Carets r h items good = absurd (none_not_some r h)
end_well true says.Plus r h items good = filler_well true says.Plus r h items good
end_well false says.Plus r h items good = absurd (none_not_some r h)
end_well true says.Minus r h items good = filler_well true says.Minus r h items good
end_well false says.Minus r h items good = absurd (none_not_some r h)
end_well true (says.Iri name) r h items good = filler_well true (says.Iri name) r h items good
end_well false (says.Iri name) r h items good = absurd (none_not_some r h)
end_well true (says.Text value) r h items good = filler_well true (says.Text value) r h items good
end_well false (says.Text value) r h items good = absurd (none_not_some r h)
end_well true (says.Plain word) r h items good = filler_well true (says.Plain word) r h items good
end_well false (says.Plain word) r h items good = absurd (none_not_some r h)
end_well true (says.Short prefix local) r h items good = filler_well true (says.Short prefix local) r h items good
end_well false (says.Short prefix local) r h items good = absurd (none_not_some r h)
end_well true (says.Node label) r h items good = filler_well true (says.Node label) r h items good
end_well false (says.Node label) r h items good = absurd (none_not_some r h)
end_well true (says.Lang tag) r h items good = filler_well true (says.Lang tag) r h items good
end_well false (says.Lang tag) r h items good = absurd (none_not_some r h)

any_well : (w : Bool) (t : Lexeme) (r : List Symbol) → any w t ≡ Some r → (items : List Symbol) → well w items ≡ true → well w (r ++ items) ≡ true
any_well false t r h items good = absurd (none_not_some r h)
any_well true says.Left r h items good = written true (it.Any ∷ it.Any ∷ []) r items h good
any_well true says.Right r h items good = written true [] r items h good
any_well true says.Equals r h items good = written true (it.Any ∷ []) r items h good
any_well true says.Carets r h items good = written true (it.Any ∷ []) r items h good
any_well true says.Plus r h items good = written true (it.Any ∷ []) r items h good
any_well true says.Minus r h items good = written true (it.Any ∷ []) r items h good
any_well true (says.Iri name) r h items good = written true (it.Any ∷ []) r items h good
any_well true (says.Text value) r h items good = written true (it.Any ∷ []) r items h good
any_well true (says.Plain word) r h items good = written true (it.Any ∷ []) r items h good
any_well true (says.Short prefix local) r h items good = written true (it.Any ∷ []) r items h good
any_well true (says.Node label) r h items good = written true (it.Any ∷ []) r items h good
any_well true (says.Lang tag) r h items good = written true (it.Any ∷ []) r items h good

until_well : (w : Bool) (k : Nonterminal) (t : Lexeme) (r : List Symbol) → until w k t ≡ Some r → (items : List Symbol) → well w items ≡ true → well w (r ++ items) ≡ true
until_well w k says.Left r h items good = behind_well w w (λ e. e) k says.Left (it.Until k ∷ []) r h items good
until_well w k says.Right r h items good = written w [] r items h good
until_well w k says.Equals r h items good = behind_well w w (λ e. e) k says.Equals (it.Until k ∷ []) r h items good
until_well w k says.Carets r h items good = behind_well w w (λ e. e) k says.Carets (it.Until k ∷ []) r h items good
until_well w k says.Plus r h items good = behind_well w w (λ e. e) k says.Plus (it.Until k ∷ []) r h items good
until_well w k says.Minus r h items good = behind_well w w (λ e. e) k says.Minus (it.Until k ∷ []) r h items good
until_well w k (says.Iri name) r h items good = behind_well w w (λ e. e) k (says.Iri name) (it.Until k ∷ []) r h items good
until_well w k (says.Text value) r h items good = behind_well w w (λ e. e) k (says.Text value) (it.Until k ∷ []) r h items good
until_well w k (says.Plain word) r h items good = behind_well w w (λ e. e) k (says.Plain word) (it.Until k ∷ []) r h items good
until_well w k (says.Short prefix local) r h items good = behind_well w w (λ e. e) k (says.Short prefix local) (it.Until k ∷ []) r h items good
until_well w k (says.Node label) r h items good = behind_well w w (λ e. e) k (says.Node label) (it.Until k ∷ []) r h items good
until_well w k (says.Lang tag) r h items good = behind_well w w (λ e. e) k (says.Lang tag) (it.Until k ∷ []) r h items good

note_or_well : (w : Bool) (word : List ℕ) (o : Option (List Symbol)) → lookup note_rows word ≡ o → (r : List Symbol) → first_row (behind (it.Star kind.Note ∷ it.Until kind.Axiom ∷ []) o) (until w kind.Axiom (says.Plain word)) ≡ Some r → (items : List Symbol) → well w items ≡ true → well w (r ++ items) ≡ true
note_or_well w word None e r h items good = until_well w kind.Axiom (says.Plain word) r h items good
note_or_well w word (Some x) e r h items good = subst (λ q. well w (q ++ items) ≡ true) (some_is (x ++ it.Star kind.Note ∷ it.Until kind.Axiom ∷ []) r h) (ap (well w) (append_assoc x (it.Star kind.Note ∷ it.Until kind.Axiom ∷ []) items) ∙ lookup_well w note_rows note_each word x e (it.Star kind.Note ∷ it.Until kind.Axiom ∷ items) good)
  where
    note_each : EachWell w note_rows
    note_each = ((λ items h. h), tt)

import_or_well : (w : Bool) (word : List ℕ) (o : Option (List Symbol)) → lookup (import_rows w) word ≡ o → (r : List Symbol) → first_row o (first_row (behind (it.Star kind.Note ∷ it.Until kind.Axiom ∷ []) (lookup note_rows word)) (until w kind.Axiom (says.Plain word))) ≡ Some r → (items : List Symbol) → well w items ≡ true → well w (r ++ items) ≡ true
import_or_well w word None e r h items good = note_or_well w word (lookup note_rows word) refl r h items good
import_or_well w word (Some x) e r h items good = lookup_well w (import_rows w) (import_each w) word r (e ∙ h) items good
  where
    import_each : (v : Bool) → EachWell w (import_rows v)
    import_each true = ((λ items h. h), tt)
    import_each false = tt

body_well : (w : Bool) (t : Lexeme) (r : List Symbol) → body w t ≡ Some r → (items : List Symbol) → well w items ≡ true → well w (r ++ items) ≡ true
body_well w says.Left r h items good = until_well w kind.Axiom says.Left r h items good
body_well w says.Right r h items good = until_well w kind.Axiom says.Right r h items good
body_well w says.Equals r h items good = until_well w kind.Axiom says.Equals r h items good
body_well w says.Carets r h items good = until_well w kind.Axiom says.Carets r h items good
body_well w says.Plus r h items good = until_well w kind.Axiom says.Plus r h items good
body_well w says.Minus r h items good = until_well w kind.Axiom says.Minus r h items good
body_well w (says.Iri name) r h items good = until_well w kind.Axiom (says.Iri name) r h items good
body_well w (says.Text value) r h items good = until_well w kind.Axiom (says.Text value) r h items good
body_well w (says.Plain word) r h items good = import_or_well w word (lookup (import_rows w) word) refl r h items good
body_well w (says.Short prefix local) r h items good = until_well w kind.Axiom (says.Short prefix local) r h items good
body_well w (says.Node label) r h items good = until_well w kind.Axiom (says.Node label) r h items good
body_well w (says.Lang tag) r h items good = until_well w kind.Axiom (says.Lang tag) r h items good

sign_well : (w : Bool) (o : Option (List Symbol)) → ((r : List Symbol) → o ≡ Some r → r ≡ []) → (r : List Symbol) → o ≡ Some r → (items : List Symbol) → well w items ≡ true → well w (r ++ items) ≡ true
sign_well w o alone r h items good = subst (λ q. well w (q ++ items) ≡ true) (sym (alone r h)) good

left_alone : (t : Lexeme) (r : List Symbol) → is_left t ≡ Some r → r ≡ []
left_alone says.Left r h = sym (some_is [] r h)
left_alone says.Right r h = absurd (none_not_some r h)
left_alone says.Equals r h = absurd (none_not_some r h)
left_alone says.Carets r h = absurd (none_not_some r h)
left_alone says.Plus r h = absurd (none_not_some r h)
left_alone says.Minus r h = absurd (none_not_some r h)
left_alone (says.Iri name) r h = absurd (none_not_some r h)
left_alone (says.Text value) r h = absurd (none_not_some r h)
left_alone (says.Plain word) r h = absurd (none_not_some r h)
left_alone (says.Short prefix local) r h = absurd (none_not_some r h)
left_alone (says.Node label) r h = absurd (none_not_some r h)
left_alone (says.Lang tag) r h = absurd (none_not_some r h)

right_alone : (t : Lexeme) (r : List Symbol) → is_right t ≡ Some r → r ≡ []
right_alone says.Left r h = absurd (none_not_some r h)
right_alone says.Right r h = sym (some_is [] r h)
right_alone says.Equals r h = absurd (none_not_some r h)
right_alone says.Carets r h = absurd (none_not_some r h)
right_alone says.Plus r h = absurd (none_not_some r h)
right_alone says.Minus r h = absurd (none_not_some r h)
right_alone (says.Iri name) r h = absurd (none_not_some r h)
right_alone (says.Text value) r h = absurd (none_not_some r h)
right_alone (says.Plain word) r h = absurd (none_not_some r h)
right_alone (says.Short prefix local) r h = absurd (none_not_some r h)
right_alone (says.Node label) r h = absurd (none_not_some r h)
right_alone (says.Lang tag) r h = absurd (none_not_some r h)

equals_alone : (t : Lexeme) (r : List Symbol) → is_equals t ≡ Some r → r ≡ []
equals_alone says.Left r h = absurd (none_not_some r h)
equals_alone says.Right r h = absurd (none_not_some r h)
equals_alone says.Equals r h = sym (some_is [] r h)
equals_alone says.Carets r h = absurd (none_not_some r h)
equals_alone says.Plus r h = absurd (none_not_some r h)
equals_alone says.Minus r h = absurd (none_not_some r h)
equals_alone (says.Iri name) r h = absurd (none_not_some r h)
equals_alone (says.Text value) r h = absurd (none_not_some r h)
equals_alone (says.Plain word) r h = absurd (none_not_some r h)
equals_alone (says.Short prefix local) r h = absurd (none_not_some r h)
equals_alone (says.Node label) r h = absurd (none_not_some r h)
equals_alone (says.Lang tag) r h = absurd (none_not_some r h)

full_alone : (t : Lexeme) (r : List Symbol) → is_full t ≡ Some r → r ≡ []
full_alone says.Left r h = absurd (none_not_some r h)
full_alone says.Right r h = absurd (none_not_some r h)
full_alone says.Equals r h = absurd (none_not_some r h)
full_alone says.Carets r h = absurd (none_not_some r h)
full_alone says.Plus r h = absurd (none_not_some r h)
full_alone says.Minus r h = absurd (none_not_some r h)
full_alone (says.Iri name) r h = sym (some_is [] r h)
full_alone (says.Text value) r h = absurd (none_not_some r h)
full_alone (says.Plain word) r h = absurd (none_not_some r h)
full_alone (says.Short prefix local) r h = absurd (none_not_some r h)
full_alone (says.Node label) r h = absurd (none_not_some r h)
full_alone (says.Lang tag) r h = absurd (none_not_some r h)

label_alone : (t : Lexeme) (r : List Symbol) → is_label t ≡ Some r → r ≡ []
label_alone says.Left r h = absurd (none_not_some r h)
label_alone says.Right r h = absurd (none_not_some r h)
label_alone says.Equals r h = absurd (none_not_some r h)
label_alone says.Carets r h = absurd (none_not_some r h)
label_alone says.Plus r h = absurd (none_not_some r h)
label_alone says.Minus r h = absurd (none_not_some r h)
label_alone (says.Iri name) r h = absurd (none_not_some r h)
label_alone (says.Text value) r h = absurd (none_not_some r h)
label_alone (says.Plain word) r h = absurd (none_not_some r h)
label_alone (says.Short prefix []) r h = sym (some_is [] r h)
label_alone (says.Short prefix (c ∷ cs)) r h = absurd (none_not_some r h)
label_alone (says.Node label) r h = absurd (none_not_some r h)
label_alone (says.Lang tag) r h = absurd (none_not_some r h)

tail_row_well : (w : Bool) (t : Lexeme) (r : List Symbol) → tail t ≡ Some r → (items : List Symbol) → well w items ≡ true → well w (r ++ items) ≡ true
tail_row_well w says.Left r h items good = absurd (none_not_some r h)
tail_row_well w says.Right r h items good = absurd (none_not_some r h)
tail_row_well w says.Equals r h items good = absurd (none_not_some r h)
tail_row_well w says.Carets r h items good = written w (it.One kind.Name ∷ []) r items h good
tail_row_well w says.Plus r h items good = absurd (none_not_some r h)
tail_row_well w says.Minus r h items good = absurd (none_not_some r h)
tail_row_well w (says.Iri name) r h items good = absurd (none_not_some r h)
tail_row_well w (says.Text value) r h items good = absurd (none_not_some r h)
tail_row_well w (says.Plain word) r h items good = absurd (none_not_some r h)
tail_row_well w (says.Short prefix local) r h items good = absurd (none_not_some r h)
tail_row_well w (says.Node label) r h items good = absurd (none_not_some r h)
tail_row_well w (says.Lang tag) r h items good = written w [] r items h good

opens_well : (w : Bool) (item : Symbol) (t : Lexeme) (r : List Symbol) → opens w item t ≡ Some r → (items : List Symbol) → well w (item ∷ items) ≡ true → well w (r ++ items) ≡ true
opens_well w it.Left t r h items good = sign_well w (is_left t) (left_alone t) r h items good
opens_well w it.Right t r h items good = sign_well w (is_right t) (right_alone t) r h items good
opens_well w it.Equals t r h items good = sign_well w (is_equals t) (equals_alone t) r h items good
opens_well w it.Full t r h items good = sign_well w (is_full t) (full_alone t) r h items good
opens_well w it.Label t r h items good = sign_well w (is_label t) (label_alone t) r h items good
opens_well w it.Tail t r h items good = tail_row_well w t r h items (both (shut_at it.Tail (rests items)) (well w items) good).1
opens_well w it.Filler t r h items good = filler_well w t r h items good
opens_well w it.End t r h items good = end_well w t r h items good
opens_well w it.Any t r h items good = any_well w t r h items (both w (well w items) good).1
opens_well w it.Body t r h items good = body_well w t r h items good
opens_well w (it.One k) t r h items good = row_well w w (λ e. e) k t r h items good
opens_well w (it.Star k) t r h items good = star_well w k t r h items good
opens_well w (it.Maybe k) t r h items good = row_well false w (never w) k t r h items (both (shut_at (it.Maybe k) (rests items)) (well w items) good).1
opens_well w (it.Until k) t r h items good = until_well w k t r h items good

-- each step leads to a list that the rests complete
pub step_well : (w : Bool) (items : List Symbol) (t : Lexeme) (next : List Symbol) → step w items t ≡ Some next → well w items ≡ true → well w next ≡ true
step_well w [] t next h good = absurd (none_not_some next h)
step_well w (item ∷ items) t next h good = by_opens (opens w item t) refl (skips item) refl (step_well w items t next) h
  where
    by_opens : (o : Option (List Symbol)) → opens w item t ≡ o → (s : Bool) → skips item ≡ s → (step w items t ≡ Some next → well w items ≡ true → well w next ≡ true) → after item items o (step w items t) ≡ Some next → well w next ≡ true
    by_opens (Some x) e s e' later h' = subst (λ q. well w q ≡ true) (some_is (x ++ items) next h') (opens_well w item t x e items good)
    by_opens None e true e' later h' = later (sym (rw e' refl) ∙ h') (both (not (skips item) || shut_at item (rests items)) (well w items) (both (allowed w item) ((not (skips item) || shut_at item (rests items)) && well w items) good).1).1
    by_opens None e false e' later h' = absurd (none_not_some next (sym (rw e' refl) ∙ h'))

-- what the rests complete in the plain grammar, they complete in the wide one
pub well_wider : (items : List Symbol) → well false items ≡ true → well true items ≡ true
well_wider [] h = refl
well_wider (it.Left ∷ items) h = well_wider items h
well_wider (it.Right ∷ items) h = well_wider items h
well_wider (it.Equals ∷ items) h = well_wider items h
well_wider (it.Full ∷ items) h = well_wider items h
well_wider (it.Label ∷ items) h = well_wider items h
well_wider (it.Tail ∷ items) h = let q = both (shut_at it.Tail (rests items)) (well false items) h in rw (q.0) (well_wider items q.1)
well_wider (it.Filler ∷ items) h = well_wider items h
well_wider (it.End ∷ items) h = well_wider items h
well_wider (it.Any ∷ items) h = absurd (true≢false (sym h))
well_wider (it.Body ∷ items) h = well_wider items h
well_wider ((it.One k) ∷ items) h = well_wider items h
well_wider ((it.Star k) ∷ items) h = let q = both (shut_at (it.Star k) (rests items)) (well false items) h in rw (q.0) (well_wider items q.1)
well_wider ((it.Maybe k) ∷ items) h = let q = both (shut_at (it.Maybe k) (rests items)) (well false items) h in rw (q.0) (well_wider items q.1)
well_wider ((it.Until k) ∷ items) h = well_wider items h
