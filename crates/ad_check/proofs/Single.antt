-- How each item is read, for the checker's functions.
use Rattle.std.proofs.Common.{Bor, ◌≡◌, ◌≢◌, ℕ, suc, ◌+◌, ◌<◌, ◌≤◌, Bool, true, false, List, [], ◌∷◌, ◌++◌, length, get_or, drop, Option, None, Some, Result, Ok, Err, IfOk, refl, sym, ◌∙◌, ap, subst, arith, add-one, append_assoc, drop-cons}
use Rattle.std.specs.Option.{is_some, option_copied}
use Rattle.std.proofs.Math.ListN.{drop_of_length-le}
use Rattle.std.proofs.lemmas.List.{length-map}
use Rattle.std.specs.Prelude.{if◌then◌else◌}
use Rattle.std.proofs.lemmas.Bool.{true≢false}
use Rattle.ad_lex.specs.Lexemes.{Lexeme, lexeme, lexeme_of, lexemes}
use Rattle.ad_lex.specs.Lexemes as says
use Rattle.ad_lex.specs.declared.token.Token.{Token}
use Rattle.ad_lex.specs.declared.token.Mark.{Mark}
use Rattle.ad_lex.specs.declared.token.Mark.TheVariants as mark
use Rattle.ad_grammar.specs.Shapes.{Text}
use Rattle.ad_check.specs.declared.items.Symbol.{Symbol}
use Rattle.ad_check.specs.declared.items.Symbol.TheVariants as it
use Rattle.ad_check.specs.declared.items.Nonterminal.{Nonterminal}
use Rattle.ad_check.specs.declared.items.Nonterminal.TheVariants as kind
use Rattle.ad_check.specs.declared.items.Halt.{Halt}
use Rattle.ad_check.specs.Machine.{row, opens, skips, after, step, halt, behind, is_right, is_name, until, end, any, tail, filler, imports, first_row, import_rows, note_rows, lookup}
use Rattle.ad_check.specs.Reads.{IsNext, LooksAt, Passes, Halts, Reads, Leads}
use Rattle.ad_check.proofs.Readings.{some_not_none, after_last, reads_step, reads_stop, reads_over, reads_skip, reads_nothing, reads_then, reads_halt, reads_as, until_same}

-- one token
pub sign_read : (ts : Text) (from : ℕ) (t : Lexeme) (item : Symbol) → IsNext ts from t → opens false item t ≡ Some [] → Passes ts (item ∷ []) from (from + 1)
sign_read ts from t item here h = reads_step ts from t item [] here h (Ok (from + 1)) (reads_nothing ts (from + 1) (omega (arith, here.within)))

pub reads_on : (ts : Text) (items : List Symbol) (from mid : ℕ) (result : Result ℕ Halt) → from < mid → Reads ts items mid result → IfOk result (λ to. from < to)
reads_on ts items from mid (Ok to) on p = omega (arith, on, p.order)
reads_on ts items from mid (Err stop) on p = tt

-- the parenthesis of a restriction on data
pub end_right : (w : Bool) (t : Lexeme) → is_right t ≡ Some [] → end w t ≡ Some []
end_right w says.Right h = refl
end_right w says.Left h = absurd (some_not_none [] (sym h))
end_right w says.Equals h = absurd (some_not_none [] (sym h))
end_right w says.Carets h = absurd (some_not_none [] (sym h))
end_right w says.Plus h = absurd (some_not_none [] (sym h))
end_right w says.Minus h = absurd (some_not_none [] (sym h))
end_right w (says.Iri name) h = absurd (some_not_none [] (sym h))
end_right w (says.Text value) h = absurd (some_not_none [] (sym h))
end_right w (says.Plain word) h = absurd (some_not_none [] (sym h))
end_right w (says.Short prefix local) h = absurd (some_not_none [] (sym h))
end_right w (says.Node label) h = absurd (some_not_none [] (sym h))
end_right w (says.Lang tag) h = absurd (some_not_none [] (sym h))

pub end_other : (w : Bool) (t : Lexeme) → is_right t ≡ None → end w t ≡ (if w then filler t else None)
end_other w says.Right h = absurd (some_not_none [] h)
end_other true t h = refl
end_other false t h = refl

node_row : (label : List ℕ) → row false kind.Range (says.Node label) ≡ None
node_row [] = refl
node_row (c ∷ cs) = refl

-- the range of a restriction on data
pub filler_name : (t : Lexeme) → is_name t ≡ true → filler t ≡ Some (it.End ∷ [])
filler_name says.Left h = absurd (true≢false (sym h))
filler_name says.Right h = absurd (true≢false (sym h))
filler_name says.Equals h = absurd (true≢false (sym h))
filler_name says.Carets h = absurd (true≢false (sym h))
filler_name says.Plus h = absurd (true≢false (sym h))
filler_name says.Minus h = absurd (true≢false (sym h))
filler_name (says.Iri name) h = refl
filler_name (says.Text value) h = absurd (true≢false (sym h))
filler_name (says.Plain word) h = absurd (true≢false (sym h))
filler_name (says.Short prefix local) h = refl
filler_name (says.Node label) h = absurd (true≢false (sym h))
filler_name (says.Lang tag) h = absurd (true≢false (sym h))

pub filler_other : (t : Lexeme) → is_name t ≡ false → filler t ≡ behind (it.Right ∷ []) (row false kind.Range t)
filler_other says.Left h = refl
filler_other says.Right h = refl
filler_other says.Equals h = refl
filler_other says.Carets h = refl
filler_other says.Plus h = refl
filler_other says.Minus h = refl
filler_other (says.Iri name) h = absurd (true≢false h)
filler_other (says.Text value) h = refl
filler_other (says.Plain word) h = refl
filler_other (says.Short prefix local) h = absurd (true≢false h)
filler_other (says.Node label) h = sym (ap (behind (it.Right ∷ [])) (node_row label))
filler_other (says.Lang tag) h = refl

pub copied_some : (o : Option (Bor (List Symbol))) → is_some (option_copied o) ≡ is_some o
copied_some None = refl
copied_some (Some x) = refl

behind_some : (more : List Symbol) (o : Option (List Symbol)) → is_some (behind more o) ≡ is_some o
behind_some more None = refl
behind_some more (Some r) = refl

pub end_stops : (ts : Text) (from : ℕ) (t : Lexeme) (o : Option (Bor (List Symbol))) → IsNext ts from t → is_right t ≡ None → is_name t ≡ false → option_copied o ≡ row false kind.Range t → Halts ts (it.End ∷ []) from (halt from (is_some o))
end_stops ts from t o here right name got = reads_stop ts from t it.End (is_some o) here (end_other false t right) refl (ap is_some (end_other true t right) ∙ ap is_some (filler_other t name) ∙ behind_some (it.Right ∷ []) (row false kind.Range t) ∙ ap is_some (sym got) ∙ copied_some o)

-- rows of ranges are the same in both grammars
pub range_row : (w : Bool) (t : Lexeme) → row w kind.Range t ≡ row false kind.Range t
range_row w says.Left = refl
range_row w says.Right = refl
range_row w says.Equals = refl
range_row w says.Carets = refl
range_row w says.Plus = refl
range_row w says.Minus = refl
range_row w (says.Iri name) = refl
range_row w (says.Text value) = refl
range_row w (says.Plain word) = refl
range_row w (says.Short prefix local) = refl
range_row w (says.Node label) = refl
range_row w (says.Lang tag) = refl

after_behind : (first second : Symbol) (more : List Symbol) (o next : Option (List Symbol)) → skips first ≡ false → skips second ≡ false → after first more (behind (it.Right ∷ []) o) next ≡ after second (it.Right ∷ more) o next
after_behind first second more None next f s = rw (f, s) refl
after_behind first second more (Some r) next f s = ap Some (append_assoc r (it.Right ∷ []) more)

pub filler_same : (t : Lexeme) → is_name t ≡ false → (w : Bool) (more : List Symbol) → step w (it.Filler ∷ more) t ≡ step w (it.One kind.Range ∷ it.Right ∷ more) t
filler_same t h w more =
    ap (λ o. after it.Filler more o (step w more t)) (filler_other t h)
    ∙ after_behind it.Filler (it.One kind.Range) more (row false kind.Range t) (step w more t) refl refl
    ∙ after_last (it.One kind.Range) (it.Right ∷ more) (row false kind.Range t) (step w more t) (step w (it.Right ∷ more) t) refl
    ∙ ap (λ o. after (it.One kind.Range) (it.Right ∷ more) o (step w (it.Right ∷ more) t)) (sym (range_row w t))

-- the inside of a rule isn't read
pub any_stops : (text : List ℕ) (tokens : List Token) (from : ℕ) (o : Option Token) → LooksAt text tokens from o → Halts (lexemes text tokens) (it.Any ∷ []) from (halt from (is_some o))
any_stops text tokens from None h = reads_over (lexemes text tokens) from it.Any h refl
any_stops text tokens from (Some token) h = reads_stop (lexemes text tokens) from (lexeme text token) it.Any true h.1 refl refl (any_goes (lexeme text token))
  where
    any_goes : (t : Lexeme) → is_some (any true t) ≡ true
    any_goes says.Left = refl
    any_goes says.Right = refl
    any_goes says.Equals = refl
    any_goes says.Carets = refl
    any_goes says.Plus = refl
    any_goes says.Minus = refl
    any_goes (says.Iri name) = refl
    any_goes (says.Text value) = refl
    any_goes (says.Plain word) = refl
    any_goes (says.Short prefix local) = refl
    any_goes (says.Node label) = refl
    any_goes (says.Lang tag) = refl

no_import : (w : Bool) (word : List ℕ) → imports (says.Plain word) ≡ false → lookup (import_rows w) word ≡ None
no_import true word h = rw h refl
no_import false word h = refl

note_or_axiom : (more : List Symbol) (note others next : Option (List Symbol)) → after it.Body more (first_row (behind (it.Star kind.Note ∷ it.Until kind.Axiom ∷ []) note) others) next ≡ after (it.Star kind.Note) (it.Until kind.Axiom ∷ more) (behind (it.Star kind.Note ∷ []) note) (after (it.Until kind.Axiom) more others next)
note_or_axiom more (Some r) others next = ap Some (append_assoc r (it.Star kind.Note ∷ it.Until kind.Axiom ∷ []) more ∙ sym (append_assoc r (it.Star kind.Note ∷ []) (it.Until kind.Axiom ∷ more)))
note_or_axiom more None None next = refl
note_or_axiom more None (Some r) next = refl

plain_same : (word : List ℕ) → imports (says.Plain word) ≡ false → (w : Bool) (more : List Symbol) → step w (it.Body ∷ more) (says.Plain word) ≡ step w (it.Star kind.Note ∷ it.Until kind.Axiom ∷ more) (says.Plain word)
plain_same word h w more =
    ap (λ o. after it.Body more (first_row o (first_row (behind (it.Star kind.Note ∷ it.Until kind.Axiom ∷ []) (lookup note_rows word)) (until w kind.Axiom (says.Plain word)))) (step w more (says.Plain word))) (no_import w word h)
    ∙ note_or_axiom more (lookup note_rows word) (until w kind.Axiom (says.Plain word)) (step w more (says.Plain word))

node_same : (label : List ℕ) (w : Bool) (more : List Symbol) → step w (it.Body ∷ more) (says.Node label) ≡ step w (it.Star kind.Note ∷ it.Until kind.Axiom ∷ more) (says.Node label)
node_same [] w more = refl
node_same (c ∷ cs) w more = refl

-- what stands in an ontology
pub body_same : (t : Lexeme) → imports t ≡ false → (w : Bool) (more : List Symbol) → step w (it.Body ∷ more) t ≡ step w (it.Star kind.Note ∷ it.Until kind.Axiom ∷ more) t
body_same says.Left h w more = refl
body_same says.Right h w more = refl
body_same says.Equals h w more = refl
body_same says.Carets h w more = refl
body_same says.Plus h w more = refl
body_same says.Minus h w more = refl
body_same (says.Iri name) h w more = refl
body_same (says.Text value) h w more = refl
body_same (says.Plain word) h w more = plain_same word h w more
body_same (says.Short prefix local) h w more = refl
body_same (says.Node label) h w more = node_same label w more
body_same (says.Lang tag) h w more = refl

-- what may stand behind a string
pub tail_other : (m : Mark) (bytes : List ℕ) → m ≢ mark.Carets → m ≢ mark.Lang → tail (lexeme_of m bytes) ≡ None
tail_other mark.Left bytes carets lang = refl
tail_other mark.Right bytes carets lang = refl
tail_other mark.Equals bytes carets lang = refl
tail_other mark.Carets bytes carets lang = absurd (carets refl)
tail_other mark.Plus bytes carets lang = refl
tail_other mark.Minus bytes carets lang = refl
tail_other mark.Iri bytes carets lang = refl
tail_other mark.Text bytes carets lang = refl
tail_other mark.Plain bytes carets lang = refl
tail_other mark.Short bytes carets lang = refl
tail_other mark.Node bytes carets lang = refl
tail_other mark.Lang bytes carets lang = absurd (lang refl)

pub until_right : (w : Bool) (k : Nonterminal) (t : Lexeme) → is_right t ≡ Some [] → until w k t ≡ Some []
until_right w k says.Left h = absurd (some_not_none [] (sym h))
until_right w k says.Right h = refl
until_right w k says.Equals h = absurd (some_not_none [] (sym h))
until_right w k says.Carets h = absurd (some_not_none [] (sym h))
until_right w k says.Plus h = absurd (some_not_none [] (sym h))
until_right w k says.Minus h = absurd (some_not_none [] (sym h))
until_right w k (says.Iri name) h = absurd (some_not_none [] (sym h))
until_right w k (says.Text value) h = absurd (some_not_none [] (sym h))
until_right w k (says.Plain word) h = absurd (some_not_none [] (sym h))
until_right w k (says.Short prefix local) h = absurd (some_not_none [] (sym h))
until_right w k (says.Node label) h = absurd (some_not_none [] (sym h))
until_right w k (says.Lang tag) h = absurd (some_not_none [] (sym h))

-- the first of the items that are left
pub items_head : (items : List Symbol) (i : ℕ) (item d : Symbol) → i < length items → get_or items i d ≡ item → drop i items ≡ (item ∷ []) ++ drop (i + 1) items
items_head items i item d below is = drop-cons items i d below ∙ ap (λ x. x ∷ drop (suc i) items) is ∙ ap (λ j. item ∷ drop j items) (sym (add-one i))

pub halts_at : (ts : Text) (items whole : List Symbol) (i at from : ℕ) (item d : Symbol) (stop : Halt) → Leads ts (drop i items) at whole from → i < length items → get_or items i d ≡ item → Halts ts (item ∷ []) at stop → Halts ts whole from stop
halts_at ts items whole i at from item d stop leads below is h = leads (Err stop) (subst (λ xs. Halts ts xs at stop) (sym (items_head items i item d below is)) (reads_halt ts (item ∷ []) (drop (i + 1) items) at stop h))

pub leads_on : (ts : Text) (items whole : List Symbol) (i at mid from : ℕ) (item d : Symbol) → Leads ts (drop i items) at whole from → i < length items → get_or items i d ≡ item → Passes ts (item ∷ []) at mid → Leads ts (drop (i + 1) items) mid whole from
leads_on ts items whole i at mid from item d leads below is p result rest = leads result (subst (λ xs. Reads ts xs at result) (sym (items_head items i item d below is)) (reads_then ts (item ∷ []) (drop (i + 1) items) at mid p result rest))

pub star_on : (ts : Text) (at mid : ℕ) (t : Lexeme) (k : Nonterminal) (o : Option (Bor (List Symbol))) (r : Bor (List Symbol)) → IsNext ts at t → option_copied o ≡ row false k t → o ≡ Some r → Passes ts r.now (at + 1) mid → Leads ts (it.Star k ∷ []) mid (it.Star k ∷ []) at
star_on ts at mid t k o r here got is p result rest = reads_step ts at t (it.Star k) (r.now ++ it.Star k ∷ []) here (ap (behind (it.Star k ∷ [])) (sym got ∙ ap option_copied is)) result (reads_then ts r.now (it.Star k ∷ []) (at + 1) mid p result rest)

pub star_halts : (ts : Text) (at : ℕ) (t : Lexeme) (k : Nonterminal) (o : Option (Bor (List Symbol))) (r : Bor (List Symbol)) (stop : Halt) → IsNext ts at t → option_copied o ≡ row false k t → o ≡ Some r → Halts ts r.now (at + 1) stop → Halts ts (it.Star k ∷ []) at stop
star_halts ts at t k o r stop here got is h = reads_step ts at t (it.Star k) (r.now ++ it.Star k ∷ []) here (ap (behind (it.Star k ∷ [])) (sym got ∙ ap option_copied is)) (Err stop) (reads_halt ts r.now (it.Star k ∷ []) (at + 1) stop h)

pub star_over : (ts : Text) (at : ℕ) (t : Lexeme) (k : Nonterminal) (o : Option (Bor (List Symbol))) → IsNext ts at t → option_copied o ≡ row false k t → o ≡ None → Passes ts (it.Star k ∷ []) at at
star_over ts at t k o here got is = reads_skip ts at t (it.Star k) here refl (λ w. ap (behind (it.Star k ∷ [])) (sym got ∙ ap option_copied is))

pub until_on : (ts : Text) (at mid : ℕ) (t : Lexeme) (k : Nonterminal) → IsNext ts at t → is_right t ≡ None → at < mid → Passes ts (it.One k ∷ []) at mid → Leads ts (it.Until k ∷ []) mid (it.Until k ∷ []) at
until_on ts at mid t k here right on p result rest = reads_as ts at t (it.Until k) (it.One k ∷ it.Until k ∷ []) here (λ w more. until_same w k more t right) result (reads_on ts (it.Until k ∷ []) at mid result on rest) (reads_then ts (it.One k ∷ []) (it.Until k ∷ []) at mid p result rest)

pub until_halts : (ts : Text) (at : ℕ) (t : Lexeme) (k : Nonterminal) (stop : Halt) → IsNext ts at t → is_right t ≡ None → Halts ts (it.One k ∷ []) at stop → Halts ts (it.Until k ∷ []) at stop
until_halts ts at t k stop here right h = reads_as ts at t (it.Until k) (it.One k ∷ it.Until k ∷ []) here (λ w more. until_same w k more t right) (Err stop) tt (reads_halt ts (it.One k ∷ []) (it.Until k ∷ []) at stop h)

pub until_over : (ts : Text) (at : ℕ) (t : Lexeme) (k : Nonterminal) → IsNext ts at t → is_right t ≡ Some [] → Passes ts (it.Until k ∷ []) at (at + 1)
until_over ts at t k here right = sign_read ts at t (it.Until k) here (until_right false k t right)

pub later : (from mid : ℕ) (result : Result ℕ Halt) → from ≤ mid → IfOk result (λ to. mid < to) → IfOk result (λ to. from < to)
later from mid (Ok to) before on = omega (arith, before, on)
later from mid (Err stop) before on = tt

-- as many tokens as the text has
pub count : (text : List ℕ) (tokens : List Token) (at : ℕ) → at ≤ length (lexemes text tokens) → at ≤ length tokens
count text tokens at h = subst (λ n. at ≤ n) (length-map tokens (lexeme text)) h

pub count_back : (text : List ℕ) (tokens : List Token) (at : ℕ) → at ≤ length tokens → at ≤ length (lexemes text tokens)
count_back text tokens at h = subst (λ n. at ≤ n) (sym (length-map tokens (lexeme text))) h

pub all_read : (ts : Text) (items : List Symbol) (i at from : ℕ) → Leads ts (drop i items) at items from → length items ≤ i → at ≤ length ts → Passes ts items from at
all_read ts items i at from leads over within = leads (Ok at) (subst (λ xs. Passes ts xs at at) (sym (drop_of_length-le items over)) (reads_nothing ts at within))
