-- The first fault: where the reading stops is the first token at which no text of the grammar goes on.
use Rattle.std.proofs.Common.{◌≡◌, ◌≢◌, ℕ, suc, ◌+◌, ◌<◌, ◌≤◌, Bool, true, false, List, [], ◌∷◌, ◌++◌, length, take, Option, None, Some, refl, sym, ◌∙◌, ap, subst, arith, append_assoc, append-nil}
use Rattle.std.specs.Prelude.{if◌then◌else◌}
use Rattle.std.specs.Option.{is_some}
use Rattle.std.specs.Str.{bytes_eq}
use Rattle.std.proofs.lemmas.Bool.{true≢false}
use Rattle.std.proofs.lemmas.List.{length-append}
use Rattle.ad_lex.proofs.Pieces.{bytes_same}
use Rattle.ad_lex.specs.Lexemes.{Lexeme}
use Rattle.ad_lex.specs.Lexemes as says
use Rattle.ad_write.specs.Keywords as kw
use Rattle.ad_grammar.specs.Shapes.{Text}
use Rattle.ad_grammar.specs.Faults.{Form, class, range, property, individual, literal, document, edit, seed, single, IsOf, Begins, IsFirstFault, IsWide, Tells}
use Rattle.ad_check.specs.declared.items.Symbol.{Symbol}
use Rattle.ad_check.specs.declared.items.Symbol.TheVariants as it
use Rattle.ad_check.specs.declared.items.Nonterminal.{Nonterminal}
use Rattle.ad_check.specs.declared.items.Nonterminal.TheVariants as kind
use Rattle.ad_check.specs.declared.items.Halt.{Halt}
use Rattle.ad_check.specs.Machine.{row, opens, skips, after, step, ends, accepts, behind, lookup, end, until, first_row, body, note_rows, fault, go_on, halt, start}
use Rattle.ad_check.proofs.Taken.{none_is, none_not_some, accepts_step, accepts_none}
use Rattle.ad_check.proofs.Wholes.{complete}
use Rattle.ad_check.proofs.Meant.{behind_back}
use Rattle.ad_check.proofs.Sound.{sound, row_wider}
use Rattle.ad_check.proofs.Rests.{rests, well, completed, step_well, skip_same, well_wider}

-- the wide grammar goes on wherever the plain one does
behind_wider : (k : Nonterminal) (t : Lexeme) (more r : List Symbol) → behind more (row false k t) ≡ Some r → behind more (row true k t) ≡ Some r
behind_wider k t more r h =
    let b = behind_back more (row false k t) r h in
    ap (behind more) (row_wider true k t b.0 b.1) ∙ ap Some b.2

until_wider : (k : Nonterminal) (t : Lexeme) (r : List Symbol) → until false k t ≡ Some r → until true k t ≡ Some r
until_wider k says.Left r h = behind_wider k says.Left (it.Until k ∷ []) r h
until_wider k says.Right r h = h
until_wider k says.Equals r h = behind_wider k says.Equals (it.Until k ∷ []) r h
until_wider k says.Carets r h = behind_wider k says.Carets (it.Until k ∷ []) r h
until_wider k says.Plus r h = behind_wider k says.Plus (it.Until k ∷ []) r h
until_wider k says.Minus r h = behind_wider k says.Minus (it.Until k ∷ []) r h
until_wider k (says.Iri name) r h = behind_wider k (says.Iri name) (it.Until k ∷ []) r h
until_wider k (says.Text value) r h = behind_wider k (says.Text value) (it.Until k ∷ []) r h
until_wider k (says.Plain word) r h = behind_wider k (says.Plain word) (it.Until k ∷ []) r h
until_wider k (says.Short prefix local) r h = behind_wider k (says.Short prefix local) (it.Until k ∷ []) r h
until_wider k (says.Node label) r h = behind_wider k (says.Node label) (it.Until k ∷ []) r h
until_wider k (says.Lang tag) r h = behind_wider k (says.Lang tag) (it.Until k ∷ []) r h

end_wider : (t : Lexeme) (r : List Symbol) → end false t ≡ Some r → end true t ≡ Some r
end_wider says.Left r h = absurd (none_not_some r h)
end_wider says.Right r h = h
end_wider says.Equals r h = absurd (none_not_some r h)
end_wider says.Carets r h = absurd (none_not_some r h)
end_wider says.Plus r h = absurd (none_not_some r h)
end_wider says.Minus r h = absurd (none_not_some r h)
end_wider (says.Iri name) r h = absurd (none_not_some r h)
end_wider (says.Text value) r h = absurd (none_not_some r h)
end_wider (says.Plain word) r h = absurd (none_not_some r h)
end_wider (says.Short prefix local) r h = absurd (none_not_some r h)
end_wider (says.Node label) r h = absurd (none_not_some r h)
end_wider (says.Lang tag) r h = absurd (none_not_some r h)

-- the word of an import has no row in the plain grammar
no_import_row : (word : List ℕ) → bytes_eq kw.Import word ≡ true → first_row (behind (it.Star kind.Note ∷ it.Until kind.Axiom ∷ []) (lookup note_rows word)) (until false kind.Axiom (says.Plain word)) ≡ None
no_import_row word e = subst (λ u. first_row (behind (it.Star kind.Note ∷ it.Until kind.Axiom ∷ []) (lookup note_rows u)) (until false kind.Axiom (says.Plain u)) ≡ None) (bytes_same kw.Import word e) refl

note_or_wider : (word : List ℕ) (note : Option (List Symbol)) (r : List Symbol) → first_row (behind (it.Star kind.Note ∷ it.Until kind.Axiom ∷ []) note) (until false kind.Axiom (says.Plain word)) ≡ Some r → first_row (behind (it.Star kind.Note ∷ it.Until kind.Axiom ∷ []) note) (until true kind.Axiom (says.Plain word)) ≡ Some r
note_or_wider word None r h = until_wider kind.Axiom (says.Plain word) r h
note_or_wider word (Some x) r h = h

word_wider : (word : List ℕ) (b : Bool) → bytes_eq kw.Import word ≡ b → (r : List Symbol) → body false (says.Plain word) ≡ Some r → body true (says.Plain word) ≡ Some r
word_wider word true e r h = absurd (none_not_some r (sym (no_import_row word e) ∙ h))
word_wider word false e r h = rw e (note_or_wider word (lookup note_rows word) r h)

body_wider : (t : Lexeme) (r : List Symbol) → body false t ≡ Some r → body true t ≡ Some r
body_wider says.Left r h = until_wider kind.Axiom says.Left r h
body_wider says.Right r h = until_wider kind.Axiom says.Right r h
body_wider says.Equals r h = until_wider kind.Axiom says.Equals r h
body_wider says.Carets r h = until_wider kind.Axiom says.Carets r h
body_wider says.Plus r h = until_wider kind.Axiom says.Plus r h
body_wider says.Minus r h = until_wider kind.Axiom says.Minus r h
body_wider (says.Iri name) r h = until_wider kind.Axiom (says.Iri name) r h
body_wider (says.Text value) r h = until_wider kind.Axiom (says.Text value) r h
body_wider (says.Plain word) r h = word_wider word (bytes_eq kw.Import word) refl r h
body_wider (says.Short prefix local) r h = until_wider kind.Axiom (says.Short prefix local) r h
body_wider (says.Node label) r h = until_wider kind.Axiom (says.Node label) r h
body_wider (says.Lang tag) r h = until_wider kind.Axiom (says.Lang tag) r h

opens_wider : (item : Symbol) (t : Lexeme) (r : List Symbol) → opens false item t ≡ Some r → opens true item t ≡ Some r
opens_wider it.Left t r h = h
opens_wider it.Right t r h = h
opens_wider it.Equals t r h = h
opens_wider it.Full t r h = h
opens_wider it.Label t r h = h
opens_wider it.Tail t r h = h
opens_wider it.Filler t r h = h
opens_wider it.End t r h = end_wider t r h
opens_wider it.Any t r h = absurd (none_not_some r h)
opens_wider it.Body t r h = body_wider t r h
opens_wider (it.One k) t r h = row_wider true k t r h
opens_wider (it.Star k) t r h = h
opens_wider (it.Maybe k) t r h = h
opens_wider (it.Until k) t r h = until_wider k t r h

step_wider : (items : List Symbol) (t : Lexeme) (next : List Symbol) → step false items t ≡ Some next → step true items t ≡ Some next
step_wider [] t next h = absurd (none_not_some next h)
step_wider (item ∷ items) t next h = by_opens (opens false item t) refl (skips item) refl (step_wider items t next) h
  where
    by_opens : (o : Option (List Symbol)) → opens false item t ≡ o → (s : Bool) → skips item ≡ s → (step false items t ≡ Some next → step true items t ≡ Some next) → after item items o (step false items t) ≡ Some next → step true (item ∷ items) t ≡ Some next
    by_opens (Some x) e s e' later h' = ap (λ o. after item items o (step true items t)) (opens_wider item t x e) ∙ h'
    by_opens None e true e' later h' = ap (λ o. after item items o (step true items t)) (skip_same true item t e' ∙ e) ∙ rw e' (later (sym (rw e' refl) ∙ h'))
    by_opens None e false e' later h' = absurd (none_not_some next (sym (rw e' refl) ∙ h'))

at_nothing : (at : ℕ) → at ≡ at + 0
at_nothing at = omega arith

-- where a text stops: its front leads to a list of items that goes on no more
record Stopped (items : List Symbol) (ts : Text) (at : ℕ) (stop : Halt) : Type 0 where
  front : Text
  rest : Text
  is : ts ≡ front ++ rest
  place : stop.token ≡ at + length front
  state : List Symbol
  narrow : (b : Text) → accepts false items (front ++ b) ≡ accepts false state b
  broad : (b : Text) → accepts true items (front ++ b) ≡ accepts true state b
  good : well false state ≡ true
  at_end : rest ≡ [] → (ends state ≡ false) × (stop.wide ≡ false)
  at_token : (t : Lexeme) (more : Text) → rest ≡ t ∷ more → (step false state t ≡ None) × (is_some (step true state t) ≡ stop.wide)

pub halt_is : (x y : Halt) → Some x ≡ Some y → x ≡ y
halt_is x y e = ap from e
  where
    from : Option Halt → Halt
    from None = x
    from (Some h) = h

first_of : (t u : Lexeme) (ts us : Text) → ◌≡◌ {A = Text} (t ∷ ts) (u ∷ us) → t ≡ u
first_of t u ts us e = ap from e
  where
    from : Text → Lexeme
    from [] = t
    from (x ∷ xs) = x

pub cons_not_nil : (t : Lexeme) (ts : Text) → ◌≡◌ {A = Text} (t ∷ ts) [] → ⊥
cons_not_nil t ts e = true≢false (ap some_token e)
  where
    some_token : Text → Bool
    some_token [] = false
    some_token (x ∷ xs) = true

stopped : (ts : Text) (items : List Symbol) (at : ℕ) (stop : Halt) → well false items ≡ true → fault at items ts ≡ Some stop → Stopped items ts at stop
stopped [] items at stop good h = by_end (ends items) refl h
  where
    by_end : (b : Bool) → ends items ≡ b → (if b then None else Some (halt at false)) ≡ Some stop → Stopped items [] at stop
    by_end true e h' = absurd (none_not_some stop h')
    by_end false e h' =
        let same : halt at false ≡ stop = halt_is (halt at false) stop h' in
        record {
          front = [];
          rest = [];
          is = refl;
          place = sym (ap (λ s. s.token) same) ∙ at_nothing at;
          state = items;
          narrow = λ b. refl;
          broad = λ b. refl;
          good = good;
          at_end = λ r. (e, sym (ap (λ s. s.wide) same));
          at_token = λ t more r. absurd (cons_not_nil t more (sym r));
        }
stopped (t ∷ ts) items at stop good h = by_step (step false items t) refl h (stopped ts)
  where
    by_step : (o : Option (List Symbol)) → step false items t ≡ o → go_on (λ next. fault (at + 1) next ts) (halt at (is_some (step true items t))) o ≡ Some stop → ((next : List Symbol) (at' : ℕ) (stop' : Halt) → well false next ≡ true → fault at' next ts ≡ Some stop' → Stopped next ts at' stop') → Stopped items (t ∷ ts) at stop
    by_step None e h' later =
        let same : halt at (is_some (step true items t)) ≡ stop = halt_is (halt at (is_some (step true items t))) stop h' in
        record {
          front = [];
          rest = t ∷ ts;
          is = refl;
          place = sym (ap (λ s. s.token) same) ∙ at_nothing at;
          state = items;
          narrow = λ b. refl;
          broad = λ b. refl;
          good = good;
          at_end = λ r. absurd (cons_not_nil t ts r);
          at_token = λ u more r. subst (λ v. (step false items v ≡ None) × (is_some (step true items v) ≡ stop.wide)) (first_of t u ts more r) (e, ap (λ s. s.wide) same);
        }
    by_step (Some next) e h' later =
        let q = later next (at + 1) stop (step_well false items t next e good) h' in
        record {
          front = t ∷ q.front;
          rest = q.rest;
          is = ap (λ us. t ∷ us) q.is;
          place = omega (arith, q.place);
          state = q.state;
          narrow = λ b. accepts_step false items next t (q.front ++ b) e ∙ q.narrow b;
          broad = λ b. accepts_step true items next t (q.front ++ b) (step_wider items t next e) ∙ q.broad b;
          good = q.good;
          at_end = q.at_end;
          at_token = q.at_token;
        }

-- a text that doesn't stop is read to its end
pub none_read : (ts : Text) (items : List Symbol) (at : ℕ) → fault at items ts ≡ None → accepts false items ts ≡ true
none_read [] items at h = by_end (ends items) h
  where
    by_end : (b : Bool) → (if b then None else Some (halt at false)) ≡ None → b ≡ true
    by_end true h' = refl
    by_end false h' = absurd (none_not_some (halt at false) (sym h'))
none_read (t ∷ ts) items at h = by_step (step false items t) refl h (none_read ts)
  where
    by_step : (o : Option (List Symbol)) → step false items t ≡ o → go_on (λ next. fault (at + 1) next ts) (halt at (is_some (step true items t))) o ≡ None → ((next : List Symbol) (at' : ℕ) → fault at' next ts ≡ None → accepts false next ts ≡ true) → accepts false items (t ∷ ts) ≡ true
    by_step None e h' later = absurd (none_not_some (halt at (is_some (step true items t))) (sym h'))
    by_step (Some next) e h' later = accepts_step false items next t ts e ∙ later next (at + 1) h'

start_well : (form : Form) → well false (start form) ≡ true
start_well class = refl
start_well range = refl
start_well property = refl
start_well individual = refl
start_well literal = refl
start_well document = refl
start_well edit = refl
start_well seed = refl
start_well single = refl

-- a text that is read whole is of its form
pub whole_is : (form : Form) (ts : Text) → fault 0 (start form) ts ≡ None → IsOf false form ts
whole_is form ts h = sound false form ts (none_read ts (start form) 0 h)

take_front : (front rest : Text) → take (length front) (front ++ rest) ≡ front
take_front [] rest = refl
take_front (t ∷ front) rest = ap (λ us. t ∷ us) (take_front front rest)

suc_plus : (n : ℕ) → suc n + 1 ≡ suc (n + 1)
suc_plus n = omega arith

take_more : (front rest : Text) (t : Lexeme) → take (length front + 1) (front ++ t ∷ rest) ≡ front ++ t ∷ []
take_more [] rest t = refl
take_more (u ∷ front) rest t = ap (λ n. take n (u ∷ (front ++ t ∷ rest))) (suc_plus (length front)) ∙ ap (λ us. u ∷ us) (take_more front rest t)

nothing_left : (front rest : Text) → length front ≡ length (front ++ rest) → rest ≡ []
nothing_left front [] e = refl
nothing_left front (t ∷ rest) e = absurd (too_long (length front) (length rest) (e ∙ length-append front (t ∷ rest)))
  where
    too_long : (n m : ℕ) → n ≡ n + suc m → ⊥
    too_long n m e' = omega (arith, e')

something_left : (front rest : Text) → length front < length (front ++ rest) → rest ≢ []
something_left front rest below e = not_less (length front) (subst (λ n. length front < n) (ap (λ us. length (front ++ us)) e ∙ ap length (append-nil front)) below)
  where
    not_less : (n : ℕ) → n < n → ⊥
    not_less n h = omega (arith, h)

-- a token at the front of what isn't empty
record Split (rest : Text) : Type 0 where
  token : Lexeme
  more : Text
  is : rest ≡ token ∷ more

split : (rest : Text) → rest ≢ [] → Split rest
split [] some = absurd (some refl)
split (t ∷ more) some = record { token = t; more = more; is = refl }

module _ (form : Form) (ts : Text) (stop : Halt) (h : fault 0 (start form) ts ≡ Some stop) where
  q : Stopped (start form) ts 0 stop
  q = stopped ts (start form) 0 stop (start_well form) h

  token_is : stop.token ≡ length q.front
  token_is = omega (arith, q.place)

  before_is : take stop.token ts ≡ q.front
  before_is = ap (λ n. take n ts) token_is ∙ ap (take (length q.front)) q.is ∙ take_front q.front q.rest

  with_is : (t : Lexeme) (more : Text) → q.rest ≡ t ∷ more → take (stop.token + 1) ts ≡ q.front ++ t ∷ []
  with_is t more e = ap (λ n. take (n + 1) ts) token_is ∙ ap (take (length q.front + 1)) (q.is ∙ ap (λ us. q.front ++ us) e) ∙ take_more q.front more t

  length_is : length ts ≡ length (q.front ++ q.rest)
  length_is = ap length q.is

  a_token : stop.token < length ts → Split q.rest
  a_token below = split q.rest (something_left q.front q.rest (subst (λ n. n < length (q.front ++ q.rest)) token_is (subst (λ n. stop.token < n) length_is below)))

  -- what a text that begins with the stopping token would be read to
  read_with : (w : Bool) (t : Lexeme) (more b : Text) → q.rest ≡ t ∷ more → ((c : Text) → accepts w (start form) (q.front ++ c) ≡ accepts w q.state c) → accepts w (start form) (take (stop.token + 1) ts ++ b) ≡ accepts w q.state (t ∷ b)
  read_with w t more b e reads = ap (λ us. accepts w (start form) (us ++ b)) (with_is t more e) ∙ ap (accepts w (start form)) (append_assoc q.front (t ∷ []) b) ∙ reads (t ∷ b)

  pub first_fault : IsFirstFault form ts stop.token
  first_fault = record {
    within = subst (λ n. n ≤ length ts) (sym token_is) (subst (λ n. length q.front ≤ n) (sym length_is) (front_within q.front q.rest));
    before = (rests q.state, sound false form (take stop.token ts ++ rests q.state) (ap (λ us. accepts false (start form) (us ++ rests q.state)) before_is ∙ q.narrow (rests q.state) ∙ completed false q.state q.good));
    token = λ below b. (
        let s = a_token below in
        let none = (q.at_token s.token s.more s.is).0 in
        true≢false (sym (complete false form (take (stop.token + 1) ts ++ b.0) b.1) ∙ read_with false s.token s.more b.0 s.is q.narrow ∙ accepts_none false q.state s.token b.0 none));
    end = λ last is. (
        let over : q.rest ≡ [] = nothing_left q.front q.rest (sym token_is ∙ last ∙ length_is) in
        true≢false (sym (complete false form ts is) ∙ ap (accepts false (start form)) (q.is ∙ ap (λ us. q.front ++ us) over) ∙ q.narrow [] ∙ (q.at_end over).0));
  }
    where
      front_within : (front rest : Text) → length front ≤ length (front ++ rest)
      front_within front rest = rw (length-append front rest) (omega arith)

  goes_wide : (t : Lexeme) (more : Text) → q.rest ≡ t ∷ more → (next : List Symbol) → step true q.state t ≡ Some next → Begins true form (take (stop.token + 1) ts)
  goes_wide t more e next goes_on = (rests next, sound true form (take (stop.token + 1) ts ++ rests next) (read_with true t more (rests next) e q.broad ∙ accepts_step true q.state next t (rests next) goes_on ∙ completed true next (step_well true q.state t next goes_on (well_wider q.state q.good))))

  below_end : (t : Lexeme) (more : Text) → q.rest ≡ t ∷ more → stop.token < length ts
  below_end t more e = subst (λ n. n < length ts) (sym token_is) (subst (λ n. length q.front < n) (sym (length_is ∙ ap (λ us. length (q.front ++ us)) e)) (shorter q.front more))
    where
      shorter : (front rest : Text) → length front < length (front ++ t ∷ rest)
      shorter front rest = rw (length-append front (t ∷ rest)) (longer (length front) (length rest))
        where
          longer : (n m : ℕ) → n < n + suc m
          longer n m = omega arith

  by_rest : (rest : Text) → q.rest ≡ rest → (b : Bool) → stop.wide ≡ b → Tells b (IsWide form ts stop.token)
  by_rest [] e true is = absurd (true≢false (sym is ∙ (q.at_end e).1))
  by_rest [] e false is = λ wide. (let s = a_token wide.0 in cons_not_nil s.token s.more (sym s.is ∙ e))
  by_rest (t ∷ more) e true is = by_step (step true q.state t) refl
    where
      by_step : (o : Option (List Symbol)) → step true q.state t ≡ o → IsWide form ts stop.token
      by_step None none = absurd (true≢false (sym is ∙ sym (q.at_token t more e).1 ∙ ap is_some none))
      by_step (Some next) goes_on = (below_end t more e, goes_wide t more e next goes_on)
  by_rest (t ∷ more) e false is = λ wide.
      let none : step true q.state t ≡ None = none_is (step true q.state t) ((q.at_token t more e).1 ∙ is) in
      true≢false (sym (complete true form (take (stop.token + 1) ts ++ wide.1.0) wide.1.1) ∙ read_with true t more wide.1.0 e q.broad ∙ accepts_none true q.state t wide.1.0 none)

  pub wide_fault : Tells stop.wide (IsWide form ts stop.token)
  wide_fault = by_rest q.rest refl stop.wide refl
