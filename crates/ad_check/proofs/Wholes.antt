-- Whole texts of the grammar are read to their end.
use Rattle.std.proofs.Common.{◌≡◌, ◌≢◌, ℕ, suc, ◌≤◌, Bool, true, false, List, [], ◌∷◌, ◌++◌, length, None, Some, refl, sym, ◌∙◌, ap, subst, arith, append_assoc, append-nil}
use Rattle.std.specs.Prelude.{if◌then◌else◌}
use Rattle.std.specs.List.{AllByRecursion}
use Rattle.std.specs.Option.{is_some, option_or}
use Rattle.std.specs.Str.{bytes_eq}
use Rattle.std.proofs.lemmas.Bool.{true≢false}
use Rattle.ad_lex.proofs.Pieces.{bytes_same}
use Rattle.ad_lex.specs.Lexemes.{Lexeme}
use Rattle.ad_lex.specs.Lexemes as says
use Rattle.ad_write.specs.Keywords as kw
use Rattle.ad_tree.specs.Logical.{is_logical}
use Rattle.ad_tree.specs.declared.edits.Sign.{Sign}
use Rattle.ad_tree.specs.declared.edits.Sign.TheVariants as signs
use Rattle.ad_tree.specs.declared.axioms.Noted.{Noted}
use Rattle.ad_grammar.specs.Shapes.{Text, Then, Many0}
use Rattle.ad_grammar.specs.Names.{Words, IsName, SpellsEntity}
use Rattle.ad_grammar.specs.Phrases.{SpellsAnnotation}
use Rattle.ad_grammar.specs.Axioms.{SpellsNoted}
use Rattle.ad_grammar.specs.Texts.{Declared, SpellsDeclared, IsImport, Imports, Matching, nothing, enclosed, another, IsHead, AreNotes, Ontology, sign_of, Behind}
use Rattle.ad_grammar.specs.Faults.{Statement, stated, rule, SpellsStatement, IsLogicalStatement, SpellsSigned, Form, class, range, property, individual, literal, document, edit, seed, single, IsOf}
use Rattle.ad_check.specs.declared.items.Symbol.{Symbol}
use Rattle.ad_check.specs.declared.items.Symbol.TheVariants as it
use Rattle.ad_check.specs.declared.items.Nonterminal.{Nonterminal}
use Rattle.ad_check.specs.declared.items.Nonterminal.TheVariants as kind
use Rattle.ad_check.specs.Machine.{Entry, row, after, step, accepts, tail, behind, lookup, logical_rows, carried_rows, rules_in, imports, is_name, start}
use Rattle.ad_check.proofs.Tables.{lookup_append}
use Rattle.ad_check.proofs.Readings.{step_opens}
use Rattle.ad_check.proofs.Single.{body_same}
use Rattle.ad_check.proofs.Taken.{Takes, Closes, Unnoted, first_tail, none_is, none_not_some, false_by, is_a_name, accepts_step, accepts_none, accepts_same, takes_first, compound, c_many, c_notes, star_one}
use Rattle.ad_check.proofs.Phrased.{all_each, takes_name, takes_literal, takes_individual, takes_property, takes_entity, takes_range, takes_class, takes_note}
use Rattle.ad_check.proofs.Stated.{takes_logical, takes_carried}

keyword_is : (key word : List ℕ) (b : Bool) → bytes_eq key word ≡ b → b ≡ true → key ≡ word
keyword_is key word b e h = bytes_same key word (e ∙ h)

found_one : {X : Type 0} (b : Bool) (x : X) → is_some (if b then Some x else None) ≡ true → b ≡ true
found_one true x h = refl
found_one false x h = absurd (true≢false (sym h))

prefix_word : (t : Lexeme) → is_some (row false kind.Prefix t) ≡ true → t ≡ says.Plain kw.Prefix
prefix_word says.Left h = absurd (true≢false (sym h))
prefix_word says.Right h = absurd (true≢false (sym h))
prefix_word says.Equals h = absurd (true≢false (sym h))
prefix_word says.Carets h = absurd (true≢false (sym h))
prefix_word says.Plus h = absurd (true≢false (sym h))
prefix_word says.Minus h = absurd (true≢false (sym h))
prefix_word (says.Iri name) h = absurd (true≢false (sym h))
prefix_word (says.Text value) h = absurd (true≢false (sym h))
prefix_word (says.Plain word) h = ap says.Plain (sym (keyword_is kw.Prefix word (bytes_eq kw.Prefix word) refl (found_one (bytes_eq kw.Prefix word) _ h)))
prefix_word (says.Short prefix local) h = absurd (true≢false (sym h))
prefix_word (says.Node []) h = absurd (true≢false (sym h))
prefix_word (says.Node (c ∷ cs)) h = absurd (true≢false (sym h))
prefix_word (says.Lang tag) h = absurd (true≢false (sym h))

import_word : (t : Lexeme) → imports t ≡ true → t ≡ says.Plain kw.Import
import_word says.Left h = absurd (true≢false (sym h))
import_word says.Right h = absurd (true≢false (sym h))
import_word says.Equals h = absurd (true≢false (sym h))
import_word says.Carets h = absurd (true≢false (sym h))
import_word says.Plus h = absurd (true≢false (sym h))
import_word says.Minus h = absurd (true≢false (sym h))
import_word (says.Iri name) h = absurd (true≢false (sym h))
import_word (says.Text value) h = absurd (true≢false (sym h))
import_word (says.Plain word) h = ap says.Plain (sym (keyword_is kw.Import word (bytes_eq kw.Import word) refl h))
import_word (says.Short prefix local) h = absurd (true≢false (sym h))
import_word (says.Node label) h = absurd (true≢false (sym h))
import_word (says.Lang tag) h = absurd (true≢false (sym h))

row_not_tail : (w : Bool) (k : Nonterminal) (t : Lexeme) (r : List Symbol) → row w k t ≡ Some r → is_some (tail t) ≡ false
row_not_tail w k says.Left r h = refl
row_not_tail w k says.Right r h = refl
row_not_tail w k says.Equals r h = refl
row_not_tail w k says.Carets r h = absurd (none_not_some r h)
row_not_tail w k says.Plus r h = refl
row_not_tail w k says.Minus r h = refl
row_not_tail w k (says.Iri name) r h = refl
row_not_tail w k (says.Text value) r h = refl
row_not_tail w k (says.Plain word) r h = refl
row_not_tail w k (says.Short prefix local) r h = refl
row_not_tail w k (says.Node label) r h = refl
row_not_tail w k (says.Lang tag) r h = absurd (none_not_some r h)

-- whether a text begins with a phrase of this kind
abbrev first_kind : Nonterminal → Text → Bool
first_kind k [] = false
first_kind k (t ∷ ts) = is_some (row false k t)

module _ (w : Bool) where
  takes_tail : (k : Nonterminal) (a b : Text) → Takes w k a → first_tail (a ++ b) ≡ false
  takes_tail k a b p =
      let f = takes_first w k a p in
      subst (λ us. first_tail (us ++ b) ≡ false) (sym f.is) (row_not_tail w k f.token f.items f.begins)

  star_skip : (k : Nonterminal) (items : List Symbol) (q : Text) → first_kind k q ≡ false → accepts w (it.Star k ∷ items) q ≡ accepts w items q
  star_skip k items [] h = refl
  star_skip k items (t ∷ q) h = accepts_same w (it.Star k ∷ items) items t q (ap (λ o. after (it.Star k) items (behind (it.Star k ∷ []) o) (step w items t)) (none_is (row false k t) h))

  -- any number of phrases, and then a text that doesn't begin as one
  star_all : {X : Type 0} (k : Nonterminal) (spells : X → Text → Type 0) → ((t : Lexeme) → row w k t ≡ row false k t) → (xs : List X) → AllByRecursion (λ x. (ts : Text) → spells x ts → Takes w k ts) xs → (n q : Text) → Many0 spells xs n → first_kind k q ≡ false → first_tail q ≡ false → (items : List Symbol) → accepts w (it.Star k ∷ items) (n ++ q) ≡ accepts w items q
  star_all k spells same [] each n q e free no_tail items = ap (λ us. accepts w (it.Star k ∷ items) (us ++ q)) e ∙ star_skip k items q free
  star_all {X = X} k spells same (x ∷ xs) each n q (a, ns, e, p, rest) free no_tail items =
      ap (λ us. accepts w (it.Star k ∷ items) (us ++ q)) e
      ∙ ap (accepts w (it.Star k ∷ items)) (append_assoc a ns q)
      ∙ star_one w k a same (each.0 a p) items (ns ++ q)
      ∙ (each.0 a p).taken (it.Star k ∷ items) (ns ++ q) (rest_tail xs ns each.1 rest)
      ∙ star_all k spells same xs each.1 ns q rest free no_tail items
    where
      rest_tail : (ys : List X) (m : Text) → AllByRecursion (λ y. (ts : Text) → spells y ts → Takes w k ts) ys → Many0 spells ys m → first_tail (m ++ q) ≡ false
      rest_tail [] m each' e' = subst (λ us. first_tail (us ++ q) ≡ false) (sym e') no_tail
      rest_tail (y ∷ ys) m each' (b, ms, e', p', rest') = subst (λ us. first_tail (us ++ q) ≡ false) (sym (e')) (subst (λ us. first_tail us ≡ false) (sym (append_assoc b ms q)) (takes_tail k b (ms ++ q) (each'.0 b p')))

  takes_declared : (d : Declared) (ts : Text) → SpellsDeclared d ts → Takes w kind.Prefix ts
  takes_declared d ts e = subst (Takes w kind.Prefix) (sym e) (record { taken = λ items b free. refl })

prefix_same : (w : Bool) (t : Lexeme) → row w kind.Prefix t ≡ row false kind.Prefix t
prefix_same w says.Left = refl
prefix_same w says.Right = refl
prefix_same w says.Equals = refl
prefix_same w says.Carets = refl
prefix_same w says.Plus = refl
prefix_same w says.Minus = refl
prefix_same w (says.Iri name) = refl
prefix_same w (says.Text value) = refl
prefix_same w (says.Plain word) = refl
prefix_same w (says.Short prefix local) = refl
prefix_same w (says.Node label) = refl
prefix_same w (says.Lang tag) = refl

signed_same : (w : Bool) (t : Lexeme) → row w kind.Signed t ≡ row false kind.Signed t
signed_same w says.Left = refl
signed_same w says.Right = refl
signed_same w says.Equals = refl
signed_same w says.Carets = refl
signed_same w says.Plus = refl
signed_same w says.Minus = refl
signed_same w (says.Iri name) = refl
signed_same w (says.Text value) = refl
signed_same w (says.Plain word) = refl
signed_same w (says.Short prefix local) = refl
signed_same w (says.Node label) = refl
signed_same w (says.Lang tag) = refl

entity_same : (w : Bool) (t : Lexeme) → row w kind.Entity t ≡ row false kind.Entity t
entity_same w says.Left = refl
entity_same w says.Right = refl
entity_same w says.Equals = refl
entity_same w says.Carets = refl
entity_same w says.Plus = refl
entity_same w says.Minus = refl
entity_same w (says.Iri name) = refl
entity_same w (says.Text value) = refl
entity_same w (says.Plain word) = refl
entity_same w (says.Short prefix local) = refl
entity_same w (says.Node label) = refl
entity_same w (says.Lang tag) = refl

-- the inside of a rule
any_all : (a : Text) → Matching a → (items : List Symbol) (b : Text) → accepts true (it.Any ∷ items) (a ++ b) ≡ accepts true (it.Any ∷ items) b
any_all _ nothing items b = refl
any_all _ (enclosed a c inside rest) items b = ap (accepts true (it.Any ∷ it.Any ∷ items)) (append_assoc a (says.Right ∷ c) b) ∙ any_all a inside (it.Any ∷ items) (says.Right ∷ (c ++ b)) ∙ any_all c rest items b
any_all _ (another l c left right rest) items b = any_token l left right items (c ++ b) ∙ any_all c rest items b
  where
    any_token : (l : Lexeme) → l ≢ says.Left → l ≢ says.Right → (items : List Symbol) (b : Text) → accepts true (it.Any ∷ items) (l ∷ b) ≡ accepts true (it.Any ∷ items) b
    any_token says.Left left right items b = absurd (left refl)
    any_token says.Right left right items b = absurd (right refl)
    any_token says.Equals left right items b = refl
    any_token says.Carets left right items b = refl
    any_token says.Plus left right items b = refl
    any_token says.Minus left right items b = refl
    any_token (says.Iri name) left right items b = refl
    any_token (says.Text value) left right items b = refl
    any_token (says.Plain word) left right items b = refl
    any_token (says.Short prefix local) left right items b = refl
    any_token (says.Node label) left right items b = refl
    any_token (says.Lang tag) left right items b = refl

rule_closes : (inner : Text) → Matching inner → Closes true (it.Any ∷ []) inner
rule_closes inner m = record { closed = λ items b. any_all inner m items (says.Right ∷ b) }

found_first : (xs ys : List Entry) (word : List ℕ) (r : List Symbol) → lookup xs word ≡ Some r → lookup (xs ++ ys) word ≡ Some r
found_first xs ys word r h = lookup_append xs ys word ∙ ap (λ o. option_or o (lookup ys word)) h

logical_first : (w : Bool) (word : List ℕ) (r : List Symbol) → lookup logical_rows word ≡ Some r → row w kind.Axiom (says.Plain word) ≡ Some r
logical_first w word r h = found_first (logical_rows ++ carried_rows) (rules_in w) word r (found_first logical_rows carried_rows word r h)

logical_alone : (w : Bool) (word : List ℕ) (r : List Symbol) → lookup logical_rows word ≡ Some r → row w kind.Logical (says.Plain word) ≡ Some r
logical_alone w word r h = found_first logical_rows (rules_in w) word r h

takes_noted : (w : Bool) (words : Words) (noted : Noted) (ts : Text) → SpellsNoted w words noted ts → Takes w kind.Axiom ts
takes_noted w words noted ts h = by_sort (is_logical noted.axiom) refl
  where
    by_sort : (b : Bool) → is_logical noted.axiom ≡ b → Takes w kind.Axiom ts
    by_sort true e = takes_logical w words noted.notes kind.Axiom (logical_first w) noted.axiom e ts h
    by_sort false e = takes_carried w words noted.notes noted.axiom e ts h

takes_statement : (w : Bool) (words : Words) (s : Statement) (ts : Text) → SpellsStatement w words s ts → Takes w kind.Axiom ts
takes_statement w words (stated noted) ts h = takes_noted w words noted ts h
takes_statement true words rule ts h = compound true kind.Axiom kw.DLSafeRule (it.Any ∷ []) Matching refl rule_closes ts h
takes_statement false words rule ts h = absurd h

takes_single : (w : Bool) (words : Words) (s : Statement) (ts : Text) → IsLogicalStatement s → SpellsStatement w words s ts → Takes w kind.Logical ts
takes_single w words (stated noted) ts logical h = takes_logical w words noted.notes kind.Logical (logical_alone w) noted.axiom logical ts h
takes_single true words rule ts logical h = compound true kind.Logical kw.DLSafeRule (it.Any ∷ []) Matching refl rule_closes ts h
takes_single false words rule ts logical h = absurd h

takes_signed : (w : Bool) (words : Words) (s : Sign × Statement) (ts : Text) → SpellsSigned w words s ts → Takes w kind.Signed ts
takes_signed w words s ts (rest, e, h) = subst (Takes w kind.Signed) (sym e) (record { taken = λ items b free. accepts_step w (it.One kind.Signed ∷ items) (it.One kind.Axiom ∷ items) (sign_of s.0) (rest ++ b) (step_opens w (it.One kind.Signed) items (it.One kind.Axiom ∷ []) (sign_of s.0) (sign_row s.0)) ∙ (takes_statement w words s.1 rest h).taken items b free })
  where
    sign_row : (sign : Sign) → row w kind.Signed (sign_of sign) ≡ Some (it.One kind.Axiom ∷ [])
    sign_row signs.Add = refl
    sign_row signs.Remove = refl

-- what stands in an ontology
unnoted_axioms : (w : Bool) → Unnoted w (it.Until kind.Axiom ∷ [])
unnoted_axioms true items = refl
unnoted_axioms false items = refl

body_import : (w : Bool) (items : List Symbol) → step w (it.Star kind.Note ∷ it.Until kind.Axiom ∷ items) (says.Plain kw.Import) ≡ None
body_import true items = refl
body_import false items = refl

abbrev BodyItems : List Symbol
BodyItems = it.Star kind.Note ∷ it.Until kind.Axiom ∷ []

-- annotations and axioms, before which no import stands
c_plain_body : (w : Bool) (inner : Text) → Closes w BodyItems inner → Closes w (it.Body ∷ []) inner
c_plain_body w [] p = record { closed = λ items b. p.closed items b }
c_plain_body w (t ∷ q) p = record { closed = λ items b. accepts_same w (it.Body ∷ items) (it.Star kind.Note ∷ it.Until kind.Axiom ∷ items) t (q ++ says.Right ∷ b) (body_same t none w items) ∙ p.closed items b }
  where
    none : imports t ≡ false
    none = false_by (imports t) (λ e. true≢false (sym (p.closed [] []) ∙ accepts_none w BodyItems t (q ++ says.Right ∷ []) (subst (λ u. step w BodyItems u ≡ None) (sym (import_word t e)) (body_import w []))))

import_over : (words : Words) (name : List ℕ) (a : Text) → IsImport words name a → (items : List Symbol) (b : Text) → accepts true (it.Body ∷ items) (a ++ b) ≡ accepts true (it.Body ∷ items) b
import_over words name a (n, e, is) items b = ap (λ us. accepts true (it.Body ∷ items) (us ++ b)) e ∙ ap (accepts true (it.One kind.Name ∷ it.Right ∷ it.Body ∷ items)) (append_assoc n (says.Right ∷ []) b) ∙ (takes_name true words kind.Name refl name n is).taken (it.Right ∷ it.Body ∷ items) (says.Right ∷ b) refl

c_imports : (words : Words) (names : List (List ℕ)) (n q : Text) → Many0 (IsImport words) names n → Closes true (it.Body ∷ []) q → Closes true (it.Body ∷ []) (n ++ q)
c_imports words [] n q e p = subst (λ us. Closes true (it.Body ∷ []) (us ++ q)) (sym e) p
c_imports words (x ∷ xs) n q (a, ns, e, one, rest) p = subst (λ us. Closes true (it.Body ∷ []) (us ++ q)) (sym e) (record { closed = λ items b. ap (λ us. accepts true (it.Body ∷ items) (us ++ says.Right ∷ b)) (append_assoc a ns q) ∙ ap (accepts true (it.Body ∷ items)) (append_assoc a (ns ++ q) (says.Right ∷ b)) ∙ import_over words x a one items ((ns ++ q) ++ says.Right ∷ b) ∙ (c_imports words xs ns q rest p).closed items b })

c_body : (w : Bool) (words : Words) (statements : List Statement) (inner : Text) → Then (Imports w words) (Then (AreNotes words) (Many0 (SpellsStatement w words) statements)) inner → Closes w (it.Body ∷ []) inner
c_body w words statements inner (n, q, e, imported, (a, s, e', (notes, noted), axioms_)) = by_grammar w refl
  where
    plain : Closes w (it.Body ∷ []) q
    plain = c_plain_body w q (c_notes w (SpellsAnnotation words) notes (it.Until kind.Axiom ∷ []) (Many0 (SpellsStatement w words) statements) refl (unnoted_axioms w) (all_each _ (takes_note w words) notes) (c_many w kind.Axiom (SpellsStatement w words) statements (all_each _ (takes_statement w words) statements)) q (a, s, e', noted, axioms_))

    by_grammar : (v : Bool) → w ≡ v → Closes w (it.Body ∷ []) inner
    by_grammar true e'' = subst (Closes w (it.Body ∷ [])) (sym e) (subst (λ v. Imports v words n → Closes v (it.Body ∷ []) q → Closes v (it.Body ∷ []) (n ++ q)) (sym e'') (λ i p. c_imports words i.0 n q i.1 p) imported plain)
    by_grammar false e'' = subst (Closes w (it.Body ∷ [])) (sym e) (subst (λ v. Imports v words n → Closes v (it.Body ∷ []) q → Closes v (it.Body ∷ []) (n ++ q)) (sym e'') (λ i p. subst (λ us. Closes false (it.Body ∷ []) (us ++ q)) (sym i) p) imported plain)

-- the names at the head of an ontology
abbrev first_name : Text → Bool
first_name [] = false
first_name (t ∷ ts) = is_name t

body_name : (w : Bool) (t : Lexeme) → is_name t ≡ true → step w (it.Body ∷ []) t ≡ None
body_name w says.Left h = absurd (true≢false (sym h))
body_name w says.Right h = absurd (true≢false (sym h))
body_name w says.Equals h = absurd (true≢false (sym h))
body_name w says.Carets h = absurd (true≢false (sym h))
body_name w says.Plus h = absurd (true≢false (sym h))
body_name w says.Minus h = absurd (true≢false (sym h))
body_name w (says.Iri name) h = refl
body_name w (says.Text value) h = absurd (true≢false (sym h))
body_name w (says.Plain word) h = absurd (true≢false (sym h))
body_name w (says.Short prefix local) h = refl
body_name w (says.Node label) h = absurd (true≢false (sym h))
body_name w (says.Lang tag) h = absurd (true≢false (sym h))

no_name : (t : Lexeme) → is_name t ≡ false → row false kind.Name t ≡ None
no_name says.Left h = refl
no_name says.Right h = refl
no_name says.Equals h = refl
no_name says.Carets h = refl
no_name says.Plus h = refl
no_name says.Minus h = refl
no_name (says.Iri name) h = absurd (true≢false h)
no_name (says.Text value) h = refl
no_name (says.Plain word) h = refl
no_name (says.Short prefix local) h = absurd (true≢false h)
no_name (says.Node []) h = refl
no_name (says.Node (c ∷ cs)) h = refl
no_name (says.Lang tag) h = refl

a_name : (t : Lexeme) → is_name t ≡ true → row false kind.Name t ≡ Some []
a_name says.Left h = absurd (true≢false (sym h))
a_name says.Right h = absurd (true≢false (sym h))
a_name says.Equals h = absurd (true≢false (sym h))
a_name says.Carets h = absurd (true≢false (sym h))
a_name says.Plus h = absurd (true≢false (sym h))
a_name says.Minus h = absurd (true≢false (sym h))
a_name (says.Iri name) h = refl
a_name (says.Text value) h = absurd (true≢false (sym h))
a_name (says.Plain word) h = absurd (true≢false (sym h))
a_name (says.Short prefix local) h = refl
a_name (says.Node label) h = absurd (true≢false (sym h))
a_name (says.Lang tag) h = absurd (true≢false (sym h))

module _ (w : Bool) where
  free_name : (inner : Text) → Closes w (it.Body ∷ []) inner → (b : Text) → first_name (inner ++ says.Right ∷ b) ≡ false
  free_name [] p b = refl
  free_name (t ∷ q) p b = false_by (is_name t) (λ e. true≢false (sym (p.closed [] []) ∙ accepts_none w (it.Body ∷ []) t (q ++ says.Right ∷ []) (body_name w t e)))

  name_skip : (items : List Symbol) (c : Text) → first_name c ≡ false → accepts w (it.Maybe kind.Name ∷ it.Body ∷ items) c ≡ accepts w (it.Body ∷ items) c
  name_skip items [] h = refl
  name_skip items (t ∷ c) h = accepts_same w (it.Maybe kind.Name ∷ it.Body ∷ items) (it.Body ∷ items) t c (ap (λ o. after (it.Maybe kind.Name) (it.Body ∷ items) o (step w (it.Body ∷ items) t)) (no_name t h))

  name_skips : (items : List Symbol) (c : Text) → first_name c ≡ false → accepts w (it.Maybe kind.Name ∷ it.Maybe kind.Name ∷ it.Body ∷ items) c ≡ accepts w (it.Body ∷ items) c
  name_skips items [] h = refl
  name_skips items (t ∷ c) h = accepts_same w (it.Maybe kind.Name ∷ it.Maybe kind.Name ∷ it.Body ∷ items) (it.Maybe kind.Name ∷ it.Body ∷ items) t c (ap (λ o. after (it.Maybe kind.Name) (it.Maybe kind.Name ∷ it.Body ∷ items) o (step w (it.Maybe kind.Name ∷ it.Body ∷ items) t)) (no_name t h)) ∙ name_skip items (t ∷ c) h

  name_take : (more : List Symbol) (t : Lexeme) (c : Text) → is_name t ≡ true → accepts w (it.Maybe kind.Name ∷ more) (t ∷ c) ≡ accepts w more c
  name_take more t c h = accepts_step w (it.Maybe kind.Name ∷ more) more t c (step_opens w (it.Maybe kind.Name) more [] t (a_name t h))

  c_head : (words : Words) (heads : List (List ℕ)) → length heads ≤ 2 → (n q : Text) → Many0 (IsName words) heads n → Closes w (it.Body ∷ []) q → Closes w (it.Maybe kind.Name ∷ it.Maybe kind.Name ∷ it.Body ∷ []) (n ++ q)
  c_head words [] few n q e p = subst (λ us. Closes w (it.Maybe kind.Name ∷ it.Maybe kind.Name ∷ it.Body ∷ []) (us ++ q)) (sym e) (record { closed = λ items b. name_skips items (q ++ says.Right ∷ b) (free_name q p b) ∙ p.closed items b })
  c_head words (x ∷ []) few n q (a, ns, e, (l, one, is), none) p = subst (λ us. Closes w (it.Maybe kind.Name ∷ it.Maybe kind.Name ∷ it.Body ∷ []) (us ++ q)) (sym (e ∙ ap (λ us. us ++ ns) one ∙ ap (λ us. l ∷ us) none)) (record { closed = λ items b. name_take (it.Maybe kind.Name ∷ it.Body ∷ items) l (q ++ says.Right ∷ b) (is_a_name words l x is) ∙ name_skip items (q ++ says.Right ∷ b) (free_name q p b) ∙ p.closed items b })
  c_head words (x ∷ y ∷ []) few n q (a, ns, e, (l, one, is), (a', ms, e', (l', one', is'), none)) p = subst (λ us. Closes w (it.Maybe kind.Name ∷ it.Maybe kind.Name ∷ it.Body ∷ []) (us ++ q)) (sym (e ∙ ap (λ us. us ++ ns) one ∙ ap (λ us. l ∷ us) (e' ∙ ap (λ us. us ++ ms) one' ∙ ap (λ us. l' ∷ us) none))) (record { closed = λ items b. name_take (it.Maybe kind.Name ∷ it.Body ∷ items) l (l' ∷ (q ++ says.Right ∷ b)) (is_a_name words l x is) ∙ name_take (it.Body ∷ items) l' (q ++ says.Right ∷ b) (is_a_name words l' y is') ∙ p.closed items b })
  c_head words (x ∷ y ∷ z ∷ more) few n q h p = absurd (too_many (length more) few)
    where
      too_many : (k : ℕ) → suc (suc (suc k)) ≤ 2 → ⊥
      too_many k h = omega arith

  takes_ontology : (words : Words) (statements : List Statement) (ts : Text) → Ontology w words (Many0 (SpellsStatement w words) statements) ts → Takes w kind.Ontology ts
  takes_ontology words statements ts h = compound w kind.Ontology kw.Ontology (it.Maybe kind.Name ∷ it.Maybe kind.Name ∷ it.Body ∷ []) (Then (IsHead words) (Then (Imports w words) (Then (AreNotes words) (Many0 (SpellsStatement w words) statements)))) refl heads ts h
    where
      heads : (inner : Text) → Then (IsHead words) (Then (Imports w words) (Then (AreNotes words) (Many0 (SpellsStatement w words) statements))) inner → Closes w (it.Maybe kind.Name ∷ it.Maybe kind.Name ∷ it.Body ∷ []) inner
      heads inner (n, q, e, (names_, few, spelled), rest) = subst (Closes w (it.Maybe kind.Name ∷ it.Maybe kind.Name ∷ it.Body ∷ [])) (sym e) (c_head words names_ few n q spelled (c_body w words statements q rest))

  alone : (k : Nonterminal) (ts : Text) → Takes w k ts → accepts w (it.One k ∷ []) ts ≡ true
  alone k ts p = ap (accepts w (it.One k ∷ [])) (sym (append-nil ts)) ∙ p.taken [] [] refl

  -- a phrase that begins no declaration of a prefix
  not_prefix : (k : Nonterminal) (q : Text) → row w k (says.Plain kw.Prefix) ≡ None → Takes w k q → first_kind kind.Prefix q ≡ false
  not_prefix k q none p =
      let f = takes_first w k q p in
      subst (λ us. first_kind kind.Prefix us ≡ false) (sym f.is) (false_by (is_some (row false kind.Prefix f.token)) (λ e. none_not_some f.items (sym none ∙ ap (row w k) (sym (prefix_word f.token e)) ∙ f.begins)))

  behind_prefixes : (declared : List Declared) (items : List Symbol) (n q : Text) → Many0 SpellsDeclared declared n → first_kind kind.Prefix q ≡ false → first_tail q ≡ false → accepts w (it.Star kind.Prefix ∷ items) (n ++ q) ≡ accepts w items q
  behind_prefixes declared items n q h free no_tail = star_all w kind.Prefix SpellsDeclared (prefix_same w) declared (all_each _ (takes_declared w) declared) n q h free no_tail items

  phrase_behind : (k : Nonterminal) (declared : List Declared) (P : Text → Type 0) → row w k (says.Plain kw.Prefix) ≡ None → ((ts : Text) → P ts → Takes w k ts) → (ts : Text) → Behind declared P ts → accepts w (it.Star kind.Prefix ∷ it.One k ∷ []) ts ≡ true
  phrase_behind k declared P none takes ts (n, q, e, d, h) =
      let p = takes q h in
      ap (accepts w (it.Star kind.Prefix ∷ it.One k ∷ [])) e ∙ behind_prefixes declared (it.One k ∷ []) n q d (not_prefix k q none p) (ap first_tail (sym (append-nil q)) ∙ takes_tail w k q [] p) ∙ alone k q p

  many_behind : {X : Type 0} (k : Nonterminal) (declared : List Declared) (spells : X → Text → Type 0) (xs : List X) → ((t : Lexeme) → row w k t ≡ row false k t) → row w k (says.Plain kw.Prefix) ≡ None → ((x : X) (ts : Text) → spells x ts → Takes w k ts) → (ts : Text) → Behind declared (Many0 spells xs) ts → accepts w (it.Star kind.Prefix ∷ it.Star k ∷ []) ts ≡ true
  many_behind {X = X} k declared spells xs same none takes ts (n, q, e, d, h) = ap (accepts w (it.Star kind.Prefix ∷ it.Star k ∷ [])) e ∙ behind_prefixes declared (it.Star k ∷ []) n q d (front xs q h).0 (front xs q h).1 ∙ ap (accepts w (it.Star k ∷ [])) (sym (append-nil q)) ∙ star_all w k spells same xs (all_each _ takes xs) q [] h refl refl []
    where
      front : (ys : List X) (m : Text) → Many0 spells ys m → (first_kind kind.Prefix m ≡ false) × (first_tail m ≡ false)
      front [] m e' = (ap (first_kind kind.Prefix) e', ap first_tail e')
      front (y ∷ ys) m (a, ms, e', p, rest) =
          let f = takes_first w k a (takes y a p) in
          let one : first_kind kind.Prefix (a ++ ms) ≡ false = subst (λ us. first_kind kind.Prefix (us ++ ms) ≡ false) (sym f.is) (false_by (is_some (row false kind.Prefix f.token)) (λ h'. none_not_some f.items (sym none ∙ ap (row w k) (sym (prefix_word f.token h')) ∙ f.begins))) in
          (ap (first_kind kind.Prefix) e' ∙ one, ap first_tail e' ∙ takes_tail w k a ms (takes y a p))

single_prefix : (w : Bool) → row w kind.Logical (says.Plain kw.Prefix) ≡ None
single_prefix true = refl
single_prefix false = refl

-- what the grammar has is read to its end
pub complete : (w : Bool) (form : Form) (ts : Text) → IsOf w form ts → accepts w (start form) ts ≡ true
complete w class ts (words, x, h) = alone w kind.Class ts (takes_class w words x ts h)
complete w range ts (words, x, h) = alone w kind.Range ts (takes_range w words x ts h)
complete w property ts (words, x, h) = alone w kind.Property ts (takes_property w words x ts h)
complete w individual ts (words, x, h) = alone w kind.Individual ts (takes_individual w words x ts h)
complete w literal ts (words, x, h) = alone w kind.Literal ts (takes_literal w words kind.Literal refl x ts h)
complete w document ts (words, declared, statements, h) = phrase_behind w kind.Ontology declared (Ontology w words (Many0 (SpellsStatement w words) statements)) refl (takes_ontology w words statements) ts h
complete w edit ts (words, declared, statements, h) = many_behind w kind.Signed declared (SpellsSigned w words) statements (signed_same w) refl (takes_signed w words) ts h
complete w seed ts (words, declared, entities, h) = many_behind w kind.Entity declared (SpellsEntity words) entities (entity_same w) refl (takes_entity w words) ts h
complete w single ts (words, declared, statement, logical, h) = phrase_behind w kind.Logical declared (SpellsStatement w words statement) (single_prefix w) (λ us. takes_single w words statement us logical) ts h
