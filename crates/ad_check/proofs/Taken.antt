-- What the grammar has is read: each phrase is taken off by the item that stands for it.
use Rattle.std.proofs.Common.{◌≡◌, ℕ, Bool, true, false, List, [], ◌∷◌, ◌++◌, Option, None, Some, IfSome, refl, sym, ◌∙◌, ap, subst, append_assoc}
use Rattle.std.specs.List.{AllByRecursion}
use Rattle.std.specs.Option.{is_some}
use Rattle.std.specs.Str.{bytes_eq}
use Rattle.std.proofs.lemmas.Bool.{true≢false}
use Rattle.ad_lex.proofs.Pieces.{bytes_same}
use Rattle.ad_lex.specs.Lexemes.{Lexeme}
use Rattle.ad_lex.specs.Lexemes as says
use Rattle.ad_write.specs.Keywords as kw
use Rattle.ad_grammar.specs.Shapes.{Text, Then, Compound, Many0, Many1, Optional}
use Rattle.ad_grammar.specs.Names.{Words, names, IsName}
use Rattle.ad_grammar.specs.Phrases.{Extra}
use Rattle.ad_check.specs.declared.items.Symbol.{Symbol}
use Rattle.ad_check.specs.declared.items.Symbol.TheVariants as it
use Rattle.ad_check.specs.declared.items.Nonterminal.{Nonterminal}
use Rattle.ad_check.specs.declared.items.Nonterminal.TheVariants as kind
use Rattle.ad_check.specs.Machine.{row, after, step, goes, accepts, behind, is_right, is_name, tail}
use Rattle.ad_check.proofs.Readings.{step_opens, until_same}
use Rattle.ad_check.proofs.Single.{filler_name, filler_same}

-- whether a text begins with what may stand behind a string
abbrev pub first_tail : Text → Bool
first_tail [] = false
first_tail (t ∷ ts) = is_some (tail t)

-- whether a text begins with an annotation
abbrev pub first_note : Text → Bool
first_note [] = false
first_note (t ∷ ts) = is_some (row false kind.Note t)

-- no list of these items begins with the tail of a literal
abbrev pub no_tail : List Symbol → Bool
no_tail [] = false
no_tail (it.Tail ∷ r) = false
no_tail (it.End ∷ r) = false
no_tail (it.Any ∷ r) = false
no_tail (it.Star k ∷ r) = no_tail r
no_tail (it.Maybe k ∷ r) = no_tail r
no_tail (_ ∷ r) = true

pub none_is : {X : Type 0} (o : Option X) → is_some o ≡ false → o ≡ None
none_is None h = refl
none_is (Some x) h = absurd (true≢false h)

pub none_not_some : {X : Type 0} (x : X) → None ≡ Some x → ⊥
none_not_some x h = absurd (true≢false (sym (ap is_some h)))

pub false_by : (b : Bool) → (b ≡ true → ⊥) → b ≡ false
false_by true h = absurd (h refl)
false_by false h = refl

note_word : (t : Lexeme) → is_some (row false kind.Note t) ≡ true → t ≡ says.Plain kw.Annotation
note_word says.Left h = absurd (true≢false (sym h))
note_word says.Right h = absurd (true≢false (sym h))
note_word says.Equals h = absurd (true≢false (sym h))
note_word says.Carets h = absurd (true≢false (sym h))
note_word says.Plus h = absurd (true≢false (sym h))
note_word says.Minus h = absurd (true≢false (sym h))
note_word (says.Iri name) h = absurd (true≢false (sym h))
note_word (says.Text value) h = absurd (true≢false (sym h))
note_word (says.Plain word) h = ap says.Plain (sym (annotation_word (bytes_eq kw.Annotation word) refl h))
  where
    annotation_word : (b : Bool) → bytes_eq kw.Annotation word ≡ b → is_some (row false kind.Note (says.Plain word)) ≡ true → kw.Annotation ≡ word
    annotation_word true e h' = bytes_same kw.Annotation word e
    annotation_word false e h' = absurd (true≢false (sym h' ∙ rw e refl))
note_word (says.Short prefix local) h = absurd (true≢false (sym h))
note_word (says.Node []) h = absurd (true≢false (sym h))
note_word (says.Node (c ∷ cs)) h = absurd (true≢false (sym h))
note_word (says.Lang tag) h = absurd (true≢false (sym h))

pub not_right : (w : Bool) (k : Nonterminal) (t : Lexeme) (r : List Symbol) → row w k t ≡ Some r → is_right t ≡ None
not_right w k says.Left r h = refl
not_right w k says.Right r h = absurd (none_not_some r h)
not_right w k says.Equals r h = refl
not_right w k says.Carets r h = refl
not_right w k says.Plus r h = refl
not_right w k says.Minus r h = refl
not_right w k (says.Iri name) r h = refl
not_right w k (says.Text value) r h = refl
not_right w k (says.Plain word) r h = refl
not_right w k (says.Short prefix local) r h = refl
not_right w k (says.Node label) r h = refl
not_right w k (says.Lang tag) r h = refl

range_name : (w : Bool) (t : Lexeme) → is_name t ≡ true → row w kind.Range t ≡ Some []
range_name w says.Left h = absurd (true≢false (sym h))
range_name w says.Right h = absurd (true≢false (sym h))
range_name w says.Equals h = absurd (true≢false (sym h))
range_name w says.Carets h = absurd (true≢false (sym h))
range_name w says.Plus h = absurd (true≢false (sym h))
range_name w says.Minus h = absurd (true≢false (sym h))
range_name w (says.Iri name) h = refl
range_name w (says.Text value) h = absurd (true≢false (sym h))
range_name w (says.Plain word) h = absurd (true≢false (sym h))
range_name w (says.Short prefix local) h = refl
range_name w (says.Node label) h = absurd (true≢false (sym h))
range_name w (says.Lang tag) h = absurd (true≢false (sym h))

pub is_a_name : (words : Words) (l : Lexeme) (name : List ℕ) → names words l ≡ Some name → is_name l ≡ true
is_a_name words says.Left n h = absurd (none_not_some n h)
is_a_name words says.Right n h = absurd (none_not_some n h)
is_a_name words says.Equals n h = absurd (none_not_some n h)
is_a_name words says.Carets n h = absurd (none_not_some n h)
is_a_name words says.Plus n h = absurd (none_not_some n h)
is_a_name words says.Minus n h = absurd (none_not_some n h)
is_a_name words (says.Iri name) n h = refl
is_a_name words (says.Text value) n h = absurd (none_not_some n h)
is_a_name words (says.Plain word) n h = absurd (none_not_some n h)
is_a_name words (says.Short prefix local) n h = refl
is_a_name words (says.Node label) n h = absurd (none_not_some n h)
is_a_name words (says.Lang tag) n h = absurd (none_not_some n h)

module _ (w : Bool) where
  -- a phrase of this kind, which is taken off whatever stands behind it but for the tail of a literal
  pub record Takes (k : Nonterminal) (a : Text) : Type 0 where
    pub taken : (items : List Symbol) (b : Text) → first_tail b ≡ false → accepts w (it.One k ∷ items) (a ++ b) ≡ accepts w items b

  -- what stands before a closing parenthesis
  pub record Closes (r : List Symbol) (inner : Text) : Type 0 where
    pub closed : (items : List Symbol) (b : Text) → accepts w (r ++ items) (inner ++ says.Right ∷ b) ≡ accepts w items b

  pub accepts_step : (items next : List Symbol) (t : Lexeme) (ts : Text) → step w items t ≡ Some next → accepts w items (t ∷ ts) ≡ accepts w next ts
  accepts_step items next t ts h = ap (goes (λ m. accepts w m ts)) h

  pub accepts_none : (items : List Symbol) (t : Lexeme) (ts : Text) → step w items t ≡ None → accepts w items (t ∷ ts) ≡ false
  accepts_none items t ts h = ap (goes (λ m. accepts w m ts)) h

  pub accepts_same : (items others : List Symbol) (t : Lexeme) (ts : Text) → step w items t ≡ step w others t → accepts w items (t ∷ ts) ≡ accepts w others (t ∷ ts)
  accepts_same items others t ts h = ap (goes (λ m. accepts w m ts)) h

  -- how a phrase begins
  pub record First (k : Nonterminal) (a : Text) : Type 0 where
    pub token : Lexeme
    pub rest : Text
    pub is : a ≡ token ∷ rest
    pub items : List Symbol
    pub begins : row w k token ≡ Some items

  pub takes_first : (k : Nonterminal) (a : Text) → Takes k a → First k a
  takes_first k [] p = absurd (true≢false (sym (p.taken [] [] refl)))
  takes_first k (t ∷ rest) p = by_row (row w k t) refl
    where
      by_row : (o : Option (List Symbol)) → row w k t ≡ o → First k (t ∷ rest)
      by_row None e = absurd (true≢false (sym (p.taken [] [] refl) ∙ accepts_none (it.One k ∷ []) t (rest ++ []) (ap (λ o. after (it.One k) [] o None) e)))
      by_row (Some r) e = record { token = t; rest = rest; is = refl; items = r; begins = e }

  shut_lang : (r : List Symbol) → no_tail r ≡ true → (tag : List ℕ) (items : List Symbol) → step w (r ++ items) (says.Lang tag) ≡ None
  shut_lang [] h tag items = absurd (true≢false (sym h))
  shut_lang (it.Left ∷ r) h tag items = refl
  shut_lang (it.Right ∷ r) h tag items = refl
  shut_lang (it.Equals ∷ r) h tag items = refl
  shut_lang (it.Full ∷ r) h tag items = refl
  shut_lang (it.Label ∷ r) h tag items = refl
  shut_lang (it.Tail ∷ r) h tag items = absurd (true≢false (sym h))
  shut_lang (it.Filler ∷ r) h tag items = refl
  shut_lang (it.End ∷ r) h tag items = absurd (true≢false (sym h))
  shut_lang (it.Any ∷ r) h tag items = absurd (true≢false (sym h))
  shut_lang (it.Body ∷ r) h tag items = refl
  shut_lang (it.One k ∷ r) h tag items = refl
  shut_lang (it.Star k ∷ r) h tag items = shut_lang r h tag items
  shut_lang (it.Maybe k ∷ r) h tag items = shut_lang r h tag items
  shut_lang (it.Until k ∷ r) h tag items = refl

  shut_carets : (r : List Symbol) → no_tail r ≡ true → (items : List Symbol) → step w (r ++ items) says.Carets ≡ None
  shut_carets [] h items = absurd (true≢false (sym h))
  shut_carets (it.Left ∷ r) h items = refl
  shut_carets (it.Right ∷ r) h items = refl
  shut_carets (it.Equals ∷ r) h items = refl
  shut_carets (it.Full ∷ r) h items = refl
  shut_carets (it.Label ∷ r) h items = refl
  shut_carets (it.Tail ∷ r) h items = absurd (true≢false (sym h))
  shut_carets (it.Filler ∷ r) h items = refl
  shut_carets (it.End ∷ r) h items = absurd (true≢false (sym h))
  shut_carets (it.Any ∷ r) h items = absurd (true≢false (sym h))
  shut_carets (it.Body ∷ r) h items = refl
  shut_carets (it.One k ∷ r) h items = refl
  shut_carets (it.Star k ∷ r) h items = shut_carets r h items
  shut_carets (it.Maybe k ∷ r) h items = shut_carets r h items
  shut_carets (it.Until k ∷ r) h items = refl

  pub shut : (r : List Symbol) → no_tail r ≡ true → (t : Lexeme) → is_some (tail t) ≡ true → (items : List Symbol) → step w (r ++ items) t ≡ None
  shut r h says.Carets e items = shut_carets r h items
  shut r h (says.Lang tag) e items = shut_lang r h tag items
  shut r h says.Left e items = absurd (true≢false (sym e))
  shut r h says.Right e items = absurd (true≢false (sym e))
  shut r h says.Equals e items = absurd (true≢false (sym e))
  shut r h says.Plus e items = absurd (true≢false (sym e))
  shut r h says.Minus e items = absurd (true≢false (sym e))
  shut r h (says.Iri name) e items = absurd (true≢false (sym e))
  shut r h (says.Text value) e items = absurd (true≢false (sym e))
  shut r h (says.Plain word) e items = absurd (true≢false (sym e))
  shut r h (says.Short prefix local) e items = absurd (true≢false (sym e))
  shut r h (says.Node label) e items = absurd (true≢false (sym e))

  -- what is closed doesn't begin with a tail, nor, where no annotation may stand, with one
  free_closes : (r : List Symbol) (inner : Text) → no_tail r ≡ true → Closes r inner → (b : Text) → first_tail (inner ++ says.Right ∷ b) ≡ false
  free_closes r [] h p b = refl
  free_closes r (t ∷ q) h p b = false_by (is_some (tail t)) (λ e. true≢false (sym (p.closed [] []) ∙ accepts_none (r ++ []) t (q ++ says.Right ∷ []) (shut r h t e [])))

  abbrev pub Unnoted : List Symbol → Type 0
  Unnoted r = (items : List Symbol) → step w (r ++ items) (says.Plain kw.Annotation) ≡ None

  free_notes : (r : List Symbol) (inner : Text) → Unnoted r → Closes r inner → (b : Text) → first_note (inner ++ says.Right ∷ b) ≡ false
  free_notes r [] h p b = refl
  free_notes r (t ∷ q) h p b = false_by (is_some (row false kind.Note t)) (λ e. true≢false (sym (p.closed [] []) ∙ accepts_none (r ++ []) t (q ++ says.Right ∷ []) (subst (λ u. step w (r ++ []) u ≡ None) (sym (note_word t e)) (h []))))

  -- a keyword, and its arguments between parentheses
  pub compound : (k : Nonterminal) (word : List ℕ) (r : List Symbol) (arguments : Text → Type 0) → row w k (says.Plain word) ≡ Some (it.Left ∷ r) → ((inner : Text) → arguments inner → Closes r inner) → (ts : Text) → Compound word arguments ts → Takes k ts
  compound k word r arguments h closes ts (inner, e, args) = subst (Takes k) (sym e) (record {
    taken = λ items b free.
        accepts_step (it.One k ∷ items) (it.Left ∷ (r ++ items)) (says.Plain word) (says.Left ∷ ((inner ++ says.Right ∷ []) ++ b)) (step_opens w (it.One k) items (it.Left ∷ r) (says.Plain word) h)
        ∙ ap (accepts w (r ++ items)) (append_assoc inner (says.Right ∷ []) b)
        ∙ (closes inner args).closed items b;
  })

  -- the last argument
  pub c_last : (k : Nonterminal) (P : Text → Type 0) → ((ts : Text) → P ts → Takes k ts) → (inner : Text) → P inner → Closes (it.One k ∷ it.Right ∷ []) inner
  c_last k P takes inner h = record { closed = λ items b. (takes inner h).taken (it.Right ∷ items) (says.Right ∷ b) refl }

  -- an argument, and then others
  pub c_one : (k : Nonterminal) (r : List Symbol) (P Q : Text → Type 0) → no_tail r ≡ true → ((ts : Text) → P ts → Takes k ts) → ((inner : Text) → Q inner → Closes r inner) → (inner : Text) → Then P Q inner → Closes (it.One k ∷ r) inner
  c_one k r P Q shuts takes closes inner (a, q, e, p, rest) = subst (Closes (it.One k ∷ r)) (sym e) (record {
    closed = λ items b.
        ap (accepts w (it.One k ∷ (r ++ items))) (append_assoc a q (says.Right ∷ b))
        ∙ (takes a p).taken (r ++ items) (q ++ says.Right ∷ b) (free_closes r q shuts (closes q rest) b)
        ∙ (closes q rest).closed items b;
  })

  until_one : (k : Nonterminal) (a : Text) → Takes k a → (items : List Symbol) (b : Text) → accepts w (it.Until k ∷ items) (a ++ b) ≡ accepts w (it.One k ∷ it.Until k ∷ items) (a ++ b)
  until_one k a p items b =
      let f = takes_first k a p in
      subst (λ us. accepts w (it.Until k ∷ items) (us ++ b) ≡ accepts w (it.One k ∷ it.Until k ∷ items) (us ++ b)) (sym f.is) (accepts_same (it.Until k ∷ items) (it.One k ∷ it.Until k ∷ items) f.token (f.rest ++ b) (until_same w k items f.token (not_right w k f.token f.items f.begins)))

  -- any number of phrases
  pub c_many : {X : Type 0} (k : Nonterminal) (spells : X → Text → Type 0) (xs : List X) → AllByRecursion (λ x. (ts : Text) → spells x ts → Takes k ts) xs → (inner : Text) → Many0 spells xs inner → Closes (it.Until k ∷ []) inner
  c_many k spells [] each inner e = subst (Closes (it.Until k ∷ [])) (sym e) (record { closed = λ items b. refl })
  c_many k spells (x ∷ xs) each inner (a, q, e, p, rest) = subst (Closes (it.Until k ∷ [])) (sym e) (record {
    closed = λ items b.
        let others = c_many k spells xs each.1 q rest in
        ap (accepts w (it.Until k ∷ items)) (append_assoc a q (says.Right ∷ b))
        ∙ until_one k a (each.0 a p) items (q ++ says.Right ∷ b)
        ∙ (each.0 a p).taken (it.Until k ∷ items) (q ++ says.Right ∷ b) (free_closes (it.Until k ∷ []) q refl others b)
        ∙ others.closed items b;
  })

  -- one or more
  pub c_some : {X : Type 0} (k : Nonterminal) (spells : X → Text → Type 0) (xs : List X) → AllByRecursion (λ x. (ts : Text) → spells x ts → Takes k ts) xs → (inner : Text) → Many1 spells xs inner → Closes (it.One k ∷ it.Until k ∷ []) inner
  c_some k spells [] each inner h = absurd h
  c_some k spells (x ∷ xs) each inner h = c_one k (it.Until k ∷ []) (spells x) (Many0 spells xs) refl each.0 (c_many k spells xs each.1) inner h

  maybe_one : (k : Nonterminal) (a : Text) → ((t : Lexeme) → row w k t ≡ row false k t) → Takes k a → (items : List Symbol) (b : Text) → accepts w (it.Maybe k ∷ items) (a ++ b) ≡ accepts w (it.One k ∷ items) (a ++ b)
  maybe_one k a same p items b =
      let f = takes_first k a p in
      subst (λ us. accepts w (it.Maybe k ∷ items) (us ++ b) ≡ accepts w (it.One k ∷ items) (us ++ b)) (sym f.is) (accepts_same (it.Maybe k ∷ items) (it.One k ∷ items) f.token (f.rest ++ b) (step_opens w (it.Maybe k) items f.items f.token (sym (same f.token) ∙ f.begins) ∙ sym (step_opens w (it.One k) items f.items f.token f.begins)))

  -- what may be absent, last
  pub c_maybe : {X : Type 0} (k : Nonterminal) (spells : X → Text → Type 0) (x : Option X) → ((t : Lexeme) → row w k t ≡ row false k t) → IfSome x (λ y. (ts : Text) → spells y ts → Takes k ts) → (inner : Text) → Optional spells x inner → Closes (it.Maybe k ∷ it.Right ∷ []) inner
  c_maybe k spells None same takes inner e = subst (Closes (it.Maybe k ∷ it.Right ∷ [])) (sym e) (record { closed = λ items b. refl })
  c_maybe k spells (Some x) same takes inner h = record { closed = λ items b. maybe_one k inner same (takes inner h) (it.Right ∷ items) (says.Right ∷ b) ∙ (takes inner h).taken (it.Right ∷ items) (says.Right ∷ b) refl }

  pub star_one : (k : Nonterminal) (a : Text) → ((t : Lexeme) → row w k t ≡ row false k t) → Takes k a → (items : List Symbol) (b : Text) → accepts w (it.Star k ∷ items) (a ++ b) ≡ accepts w (it.One k ∷ it.Star k ∷ items) (a ++ b)
  star_one k a same p items b =
      let f = takes_first k a p in
      subst (λ us. accepts w (it.Star k ∷ items) (us ++ b) ≡ accepts w (it.One k ∷ it.Star k ∷ items) (us ++ b)) (sym f.is) (accepts_same (it.Star k ∷ items) (it.One k ∷ it.Star k ∷ items) f.token (f.rest ++ b) (step_opens w (it.Star k) items (f.items ++ it.Star k ∷ []) f.token (ap (behind (it.Star k ∷ [])) (sym (same f.token) ∙ f.begins)) ∙ ap Some (append_assoc f.items (it.Star k ∷ []) items) ∙ sym (step_opens w (it.One k) (it.Star k ∷ items) f.items f.token f.begins)))

  star_over : (items : List Symbol) (b : Text) → first_note b ≡ false → accepts w (it.Star kind.Note ∷ items) b ≡ accepts w items b
  star_over items [] h = refl
  star_over items (t ∷ b) h = accepts_same (it.Star kind.Note ∷ items) items t b (ap (λ o. after (it.Star kind.Note) items (behind (it.Star kind.Note ∷ []) o) (step w items t)) (none_is (row false kind.Note t) h))

  note_same : (t : Lexeme) → row w kind.Note t ≡ row false kind.Note t
  note_same says.Left = refl
  note_same says.Right = refl
  note_same says.Equals = refl
  note_same says.Carets = refl
  note_same says.Plus = refl
  note_same says.Minus = refl
  note_same (says.Iri name) = refl
  note_same (says.Text value) = refl
  note_same (says.Plain word) = refl
  note_same (says.Short prefix local) = refl
  note_same (says.Node label) = refl
  note_same (says.Lang tag) = refl

  -- annotations, and then the arguments
  pub c_notes : {X : Type 0} (spells : X → Text → Type 0) (xs : List X) (r : List Symbol) (Q : Text → Type 0) → no_tail r ≡ true → Unnoted r → AllByRecursion (λ x. (ts : Text) → spells x ts → Takes kind.Note ts) xs → ((inner : Text) → Q inner → Closes r inner) → (inner : Text) → Then (Many0 spells xs) Q inner → Closes (it.Star kind.Note ∷ r) inner
  c_notes spells [] r Q shuts unnoted each closes inner (a, q, e, none, rest) = subst (Closes (it.Star kind.Note ∷ r)) (sym (e ∙ ap (λ us. us ++ q) none)) (record { closed = λ items b. star_over (r ++ items) (q ++ says.Right ∷ b) (free_notes r q unnoted (closes q rest) b) ∙ (closes q rest).closed items b })
  c_notes spells (x ∷ xs) r Q shuts unnoted each closes inner (a, q, e, (n, ns, e', p, others), rest) = subst (Closes (it.Star kind.Note ∷ r)) (sym (e ∙ ap (λ us. us ++ q) e' ∙ append_assoc n ns q)) (record {
    closed = λ items b.
        let more = c_notes spells xs r Q shuts unnoted each.1 closes (ns ++ q) (ns, q, refl, others, rest) in
        ap (accepts w (it.Star kind.Note ∷ (r ++ items))) (append_assoc n (ns ++ q) (says.Right ∷ b))
        ∙ star_one kind.Note n note_same (each.0 n p) (r ++ items) ((ns ++ q) ++ says.Right ∷ b)
        ∙ (each.0 n p).taken (it.Star kind.Note ∷ (r ++ items)) ((ns ++ q) ++ says.Right ∷ b) (free_closes (it.Star kind.Note ∷ r) (ns ++ q) shuts more b)
        ∙ more.closed items b;
  })

  -- the range of a restriction on data
  right_over : (us : Text) → accepts w [] (us ++ says.Right ∷ []) ≡ true → ⊥
  right_over [] h = true≢false (sym h)
  right_over (u ∷ us) h = true≢false (sym h)

  right_alone : (rest : Text) → accepts w (it.Right ∷ []) (rest ++ says.Right ∷ []) ≡ true → rest ≡ []
  right_alone [] h = refl
  right_alone (says.Left ∷ us) h = absurd (true≢false (sym h))
  right_alone (says.Right ∷ us) h = absurd (right_over us h)
  right_alone (says.Equals ∷ us) h = absurd (true≢false (sym h))
  right_alone (says.Carets ∷ us) h = absurd (true≢false (sym h))
  right_alone (says.Plus ∷ us) h = absurd (true≢false (sym h))
  right_alone (says.Minus ∷ us) h = absurd (true≢false (sym h))
  right_alone ((says.Iri name) ∷ us) h = absurd (true≢false (sym h))
  right_alone ((says.Text value) ∷ us) h = absurd (true≢false (sym h))
  right_alone ((says.Plain word) ∷ us) h = absurd (true≢false (sym h))
  right_alone ((says.Short prefix local) ∷ us) h = absurd (true≢false (sym h))
  right_alone ((says.Node label) ∷ us) h = absurd (true≢false (sym h))
  right_alone ((says.Lang tag) ∷ us) h = absurd (true≢false (sym h))

  name_over : (a : Text) (t : Lexeme) (rest : Text) → a ≡ t ∷ rest → is_name t ≡ true → Takes kind.Range a → rest ≡ []
  name_over a t rest e name p = right_alone rest (sym (accepts_step (it.One kind.Range ∷ it.Right ∷ []) (it.Right ∷ []) t (rest ++ says.Right ∷ []) (step_opens w (it.One kind.Range) (it.Right ∷ []) [] t (range_name w t name))) ∙ ap (λ us. accepts w (it.One kind.Range ∷ it.Right ∷ []) (us ++ says.Right ∷ [])) (sym e) ∙ p.taken (it.Right ∷ []) (says.Right ∷ []) refl)

  c_filler_range : (a : Text) → Takes kind.Range a → Closes (it.Filler ∷ []) a
  c_filler_range a p = by_name (is_name (takes_first kind.Range a p).token) refl
    where
      by_name : (b : Bool) → is_name (takes_first kind.Range a p).token ≡ b → Closes (it.Filler ∷ []) a
      by_name true e =
          let f = takes_first kind.Range a p in
          let whole : a ≡ f.token ∷ [] = f.is ∙ ap (λ us. f.token ∷ us) (name_over a f.token f.rest f.is e p) in
          subst (Closes (it.Filler ∷ [])) (sym whole) (record { closed = λ items b. accepts_step (it.Filler ∷ items) (it.End ∷ items) f.token (says.Right ∷ b) (step_opens w it.Filler items (it.End ∷ []) f.token (filler_name f.token e)) })
      by_name false e =
          let f = takes_first kind.Range a p in
          record {
            closed = λ items b.
                ap (λ us. accepts w (it.Filler ∷ items) (us ++ says.Right ∷ b)) f.is
                ∙ accepts_same (it.Filler ∷ items) (it.One kind.Range ∷ it.Right ∷ items) f.token (f.rest ++ says.Right ∷ b) (filler_same f.token e w items)
                ∙ ap (λ us. accepts w (it.One kind.Range ∷ it.Right ∷ items) (us ++ says.Right ∷ b)) (sym f.is)
                ∙ p.taken (it.Right ∷ items) (says.Right ∷ b) refl;
          }

-- a further property, in the wide grammar
end_first : (a : Text) → Closes true (it.Filler ∷ []) a → (items : List Symbol) (b : Text) → accepts true (it.End ∷ items) (a ++ says.Right ∷ b) ≡ accepts true (it.Filler ∷ items) (a ++ says.Right ∷ b)
end_first [] p items b = absurd (true≢false (sym (p.closed [] [])))
end_first (says.Left ∷ a) p items b = refl
end_first (says.Right ∷ a) p items b = absurd (true≢false (sym (p.closed [] [])))
end_first (says.Equals ∷ a) p items b = refl
end_first (says.Carets ∷ a) p items b = refl
end_first (says.Plus ∷ a) p items b = refl
end_first (says.Minus ∷ a) p items b = refl
end_first ((says.Iri name) ∷ a) p items b = refl
end_first ((says.Text value) ∷ a) p items b = refl
end_first ((says.Plain word) ∷ a) p items b = refl
end_first ((says.Short prefix local) ∷ a) p items b = refl
end_first ((says.Node label) ∷ a) p items b = refl
end_first ((says.Lang tag) ∷ a) p items b = refl

filler_names : (words : Words) (names : List (List ℕ)) (n q : Text) → Many0 (IsName words) names n → Closes true (it.Filler ∷ []) q → Closes true (it.Filler ∷ []) (n ++ q)
filler_names words [] n q e p = subst (λ us. Closes true (it.Filler ∷ []) (us ++ q)) (sym e) p
filler_names words (x ∷ xs) n q (a, ns, e, (l, one, is), rest) p =
    let more = filler_names words xs ns q rest p in
    subst (Closes true (it.Filler ∷ [])) (sym (ap (λ us. us ++ q) (e ∙ ap (λ us. us ++ ns) one))) (record {
      closed = λ items b. accepts_step true (it.Filler ∷ items) (it.End ∷ items) l ((ns ++ q) ++ says.Right ∷ b) (step_opens true it.Filler items (it.End ∷ []) l (filler_name l (is_a_name words l x is))) ∙ end_first (ns ++ q) more items b ∙ more.closed items b;
    })

pub c_filler : (w : Bool) (words : Words) (P : Text → Type 0) → ((ts : Text) → P ts → Takes w kind.Range ts) → (inner : Text) → Then (Extra w words) P inner → Closes w (it.Filler ∷ []) inner
c_filler true words P takes inner (n, q, e, (names, spelled), p) = subst (Closes true (it.Filler ∷ [])) (sym e) (filler_names words names n q spelled (c_filler_range true q (takes q p)))
c_filler false words P takes inner (n, q, e, none, p) = subst (Closes false (it.Filler ∷ [])) (sym (e ∙ ap (λ us. us ++ q) none)) (c_filler_range false q (takes q p))
