-- From what the checker's functions read to what the public checks answer.
use Rattle.std.proofs.Common.{◌≡◌, ◌≢◌, ℕ, suc, ◌+◌, ◌-◌, ◌<◌, ◌≤◌, Bool, true, false, List, [], ◌∷◌, ◌++◌, length, take, drop, drop-cons, get_or, Option, None, Some, Result, Ok, Err, IfOk, IfErr, refl, sym, ◌∙◌, ap, subst, arith, append-nil}
use Rattle.std.specs.Prelude.{if◌then◌else◌}
use Rattle.std.specs.Option.{is_some}
use Rattle.std.proofs.lemmas.Bool.{true≢false}
use Rattle.std.proofs.lemmas.List.{length-drop, length-take-le, length-map, drop-take, drop-drop, get_or-map}
use Rattle.std.proofs.Math.Seq.{take-length, drop-length}
use Rattle.ad_lex.specs.Lexemes.{lexeme, lexemes}
use Rattle.ad_lex.specs.declared.token.Token.{Token}
use Rattle.ad_grammar.specs.Shapes.{Text}
use Rattle.ad_grammar.specs.Faults.{Form, IsOf, Begins, IsFirstFault, IsWide, IsLongest, IsNoPhrase, Tells}
use Rattle.ad_check.specs.declared.items.Symbol.{Symbol}
use Rattle.ad_check.specs.declared.items.Halt.{Halt}
use Rattle.ad_check.specs.declared.texts.Stop.{Stop}
use Rattle.ad_check.specs.declared.texts.Unsupported.{Unsupported}
use Rattle.ad_check.specs.Machine.{step, ends, accepts, fault, go_on, halt, start}
use Rattle.ad_check.specs.Reads.{Passes, Halts}
use Rattle.ad_check.specs.Stops.{IsAddition, GoesOnBy, Names, Checks, ChecksFrom}
use Rattle.ad_check.proofs.Taken.{none_not_some}
use Rattle.ad_check.proofs.Sound.{sound}
use Rattle.ad_check.proofs.FirstFault.{first_fault, wide_fault, whole_is, none_read, halt_is}
use Rattle.ad_check.proofs.Longest.{none_before, no_phrase}

-- where a reading stops lies within the text, and goes on in the wide grammar only at a token
pub record Bounds (ts : Text) (at : ℕ) (stop : Halt) : Type 0 where
  pub above : at ≤ stop.token
  pub within : stop.token ≤ at + length ts
  pub token : stop.wide ≡ true → stop.token < at + length ts

more_tokens : (n m k : ℕ) → k < n + 1 + m → k < n + suc m
more_tokens n m k h = omega (arith, h)

pub bounds : (ts : Text) (items : List Symbol) (at : ℕ) (stop : Halt) → fault at items ts ≡ Some stop → Bounds ts at stop
bounds [] items at stop h = by_end (ends items) h
  where
    by_end : (b : Bool) → (if b then None else Some (halt at false)) ≡ Some stop → Bounds [] at stop
    by_end true h' = absurd (none_not_some stop h')
    by_end false h' = subst (Bounds [] at) (halt_is (halt at false) stop h') (record { above = omega arith; within = omega arith; token = λ e. absurd (true≢false (sym e)) })
bounds (t ∷ ts) items at stop h = by_step (step false items t) h (bounds ts)
  where
    by_step : (o : Option (List Symbol)) → go_on (λ next. fault (at + 1) next ts) (halt at (is_some (step true items t))) o ≡ Some stop → ((next : List Symbol) (at' : ℕ) (stop' : Halt) → fault at' next ts ≡ Some stop' → Bounds ts at' stop') → Bounds (t ∷ ts) at stop
    by_step None h' later = subst (Bounds (t ∷ ts) at) (halt_is (halt at (is_some (step true items t))) stop h') (record { above = omega arith; within = omega arith; token = λ e. omega arith })
    by_step (Some next) h' later =
        let q = later next (at + 1) stop h' in
        record { above = omega (arith, q.above); within = omega (arith, q.within); token = λ e. more_tokens at (length ts) stop.token (q.token e) }

-- a reading from a later place on
moved : ℕ → Option Halt → Option Halt
moved d None = None
moved d (Some stop) = Some (halt (d + stop.token) stop.wide)

plus_one : (n m : ℕ) → n + m + 1 ≡ n + (m + 1)
plus_one n m = omega arith

fault_moved : (ts : Text) (items : List Symbol) (d at : ℕ) → fault (d + at) items ts ≡ moved d (fault at items ts)
unfolding moved
fault_moved [] items d at = by_end (ends items)
  where
    by_end : (b : Bool) → (if b then None else Some (halt (d + at) false)) ≡ moved d (if b then None else Some (halt at false))
    by_end true = refl
    by_end false = refl
fault_moved (t ∷ ts) items d at = by_step (step false items t) (λ next. fault_moved ts next d (at + 1))
  where
    by_step : (o : Option (List Symbol)) → ((next : List Symbol) → fault (d + (at + 1)) next ts ≡ moved d (fault (at + 1) next ts)) → go_on (λ next. fault (d + at + 1) next ts) (halt (d + at) (is_some (step true items t))) o ≡ moved d (go_on (λ next. fault (at + 1) next ts) (halt at (is_some (step true items t))) o)
    by_step None later = refl
    by_step (Some next) later = ap (λ n. fault n next ts) (plus_one d at) ∙ later next

moved_back : (d : ℕ) (o : Option Halt) (stop : Halt) → moved d o ≡ Some stop → (first : Halt) × (o ≡ Some first) × (stop.token ≡ d + first.token) × (stop.wide ≡ first.wide)
unfolding moved
moved_back d None stop e = absurd (none_not_some stop e)
moved_back d (Some first) stop e =
    let same : halt (d + first.token) first.wide ≡ stop = halt_is (halt (d + first.token) first.wide) stop e in
    (first, refl, sym (ap (λ s. s.token) same), sym (ap (λ s. s.wide) same))

plus_nothing : (n : ℕ) → n + 0 ≡ n
plus_nothing n = omega arith

-- a reading of what stands from a token on, as one from the beginning
pub first_of_rest : (ts : Text) (items : List Symbol) (from : ℕ) (stop : Halt) → fault from items ts ≡ Some stop → (first : Halt) × (fault 0 items ts ≡ Some first) × (stop.token ≡ from + first.token) × (stop.wide ≡ first.wide)
first_of_rest ts items from stop h = moved_back from (fault 0 items ts) stop (sym (fault_moved ts items from 0) ∙ ap (λ n. fault n items ts) (plus_nothing from) ∙ h)

-- what the stop of a form says
says : (form : Form) (ts : Text) (stop : Halt) (what : Option Unsupported) → fault 0 (start form) ts ≡ Some stop → Names ts stop what → GoesOnBy form ts stop.token what
says form ts stop None h e = subst (λ b. Tells b (IsWide form ts stop.token)) e (wide_fault form ts stop h)
says form ts stop (Some what) h (e, is) = (subst (λ b. Tells b (IsWide form ts stop.token)) e (wide_fault form ts stop h), is)

pub halts_whole : (ts : Text) (items : List Symbol) (from : ℕ) (stop : Halt) → Halts ts items from stop → fault from items (drop from ts) ≡ Some stop
halts_whole ts items from stop h = ap (λ is. fault from is (drop from ts)) (sym (append-nil items)) ∙ h []

-- a text that is read up to a place, and no further
over_rest : (at : ℕ) (rest : Text) → rest ≢ [] → fault at [] rest ≡ Some (halt at false)
over_rest at [] some = absurd (some refl)
over_rest at (t ∷ rest) some = refl

pub passes_whole : (ts : Text) (items : List Symbol) (from to : ℕ) → Passes ts items from to → fault from items (drop from ts) ≡ fault to [] (drop to ts)
passes_whole ts items from to p = ap (λ is. fault from is (drop from ts)) (sym (append-nil items)) ∙ subst (λ us. fault from (items ++ []) (drop from us) ≡ fault to [] (drop to us)) (take-length ts) (p.reads (length ts) [] p.within (omega arith))

drop_over : (ts : Text) (n : ℕ) → n ≡ length ts → drop n ts ≡ []
drop_over ts n e = ap (λ k. drop k ts) e ∙ drop-length ts

drop_some : (ts : Text) (n : ℕ) → n < length ts → drop n ts ≢ []
drop_some ts n below e = positive (length ts) n below (sym (length-drop n ts) ∙ ap length e)
  where
    positive : (k m : ℕ) → m < k → k - m ≡ 0 → ⊥
    positive k m below' e' = omega (arith, below', e')

pub whole_over : (ts : Text) (items : List Symbol) (to : ℕ) → Passes ts items 0 to → to ≡ length ts → fault 0 items ts ≡ None
whole_over ts items to p e = passes_whole ts items 0 to p ∙ ap (fault to []) (drop_over ts to e)

pub whole_part : (ts : Text) (items : List Symbol) (to : ℕ) → Passes ts items 0 to → to < length ts → fault 0 items ts ≡ Some (halt to false)
whole_part ts items to p below = passes_whole ts items 0 to p ∙ over_rest to (drop to ts) (drop_some ts to below)

-- a whole text
pub checks_ok : (form : Form) (ts : Text) (items : List Symbol) → items ≡ start form → fault 0 items ts ≡ None → IsOf false form ts
checks_ok form ts items e h = whole_is form ts (ap (λ is. fault 0 is ts) (sym e) ∙ h)

pub checks_err : (form : Form) (ts : Text) (items : List Symbol) (stop : Halt) (answer : Stop) → items ≡ start form → fault 0 items ts ≡ Some stop → answer.token ≡ stop.token → Names ts stop answer.what → IsFirstFault form ts answer.token × GoesOnBy form ts answer.token answer.what
checks_err form ts items stop answer e h token what =
    let h' : fault 0 (start form) ts ≡ Some stop = ap (λ is. fault 0 is ts) (sym e) ∙ h in
    (subst (IsFirstFault form ts) (sym token) (first_fault form ts stop h'), subst (λ n. GoesOnBy form ts n answer.what) (sym token) (says form ts stop answer.what h' what))

drop_twice : (ts : Text) (n m : ℕ) → drop m (drop n ts) ≡ drop (n + m) ts
drop_twice ts n m = drop-drop m n ts

addition_moved : (ts : Text) (from : ℕ) (stop first : Halt) (what : Option Unsupported) → stop.token ≡ from + first.token → stop.wide ≡ first.wide → Names ts stop what → Names (drop from ts) first what
addition_moved ts from stop first None e wide is = sym wide ∙ is
addition_moved ts from stop first (Some what) e wide (is, (t, rest, at, kind)) = (sym wide ∙ is, (t, rest, drop_twice ts from first.token ∙ ap (λ n. drop n ts) (sym e) ∙ at, kind))

-- a phrase from a token on
pub phrase_err : (form : Form) (ts : Text) (items : List Symbol) (from : ℕ) (stop : Halt) (answer : Stop) → start form ≡ items → Halts ts items from stop → answer.token ≡ stop.token → Names ts stop answer.what → ChecksFrom form ts from (Err answer)
phrase_err form ts items from stop answer e h token what =
    let q = first_of_rest (drop from ts) items from stop (halts_whole ts items from stop h) in
    let first = q.0 in
    let place : answer.token - from ≡ first.token = omega (arith, token, q.2) in
    let both = checks_err form (drop from ts) items first (record { token = first.token; what = answer.what }) (sym e) q.1 refl (addition_moved ts from stop first answer.what q.2 q.3 what) in
    let fault_at : IsFirstFault form (drop from ts) (answer.token - from) = subst (IsFirstFault form (drop from ts)) (sym place) both.0 in
    let none : accepts false (start form) (take (answer.token - from) (drop from ts)) ≡ false = ap (λ is. accepts false is (take (answer.token - from) (drop from ts))) e ∙ ap (λ n. accepts false items (take (n - from) (drop from ts))) token ∙ (none_before (drop from ts) items from stop h).1 in
    (omega (arith, token, q.2), no_phrase form (drop from ts) (answer.token - from) fault_at none, fault_at, subst (λ n. GoesOnBy form (drop from ts) n answer.what) (sym place) both.1)

take_drop : (ts : Text) (n m : ℕ) → take m (drop n ts) ≡ drop n (take (n + m) ts)
take_drop ts n m = sym (drop-take n m ts)

pub phrase_ok : (form : Form) (ts : Text) (items : List Symbol) (from to : ℕ) → start form ≡ items → Passes ts items from to → ChecksFrom form ts from (Ok to)
phrase_ok form ts items from to e p = (p.order, record { within = shorter; phrase = phrase; over = over })
  where
    shorter : to - from ≤ length (drop from ts)
    shorter = subst (λ n. to - from ≤ n) (sym (length-drop from ts)) (omega (arith, p.order, p.within))

    read : (n : ℕ) → to ≤ n → n ≤ length ts → fault from (start form) (drop from (take n ts)) ≡ fault to [] (drop to (take n ts))
    read n above below = ap (λ is. fault from is (drop from (take n ts))) (e ∙ sym (append-nil items)) ∙ p.reads n [] above below

    phrase : IsOf false form (take (to - from) (drop from ts))
    phrase =
        let front : take (to - from) (drop from ts) ≡ drop from (take to ts) = take_drop ts from (to - from) ∙ ap (λ n. drop from (take n ts)) (omega (arith, p.order)) in
        subst (IsOf false form) (sym front) (sound false form (drop from (take to ts)) (none_read (drop from (take to ts)) (start form) from (read to (omega arith) p.within ∙ ap (fault to []) (drop_over (take to ts) to (sym (length-take-le to ts p.within))))))

    -- the text that is cut off behind the next token has its first fault at that token
    over : to - from < length (drop from ts) → Begins false form (take (to - from + 1) (drop from ts)) → ⊥
    over below begins =
        let rest : Text = take (to - from + 1) (drop from ts) in
        let fits : to + 1 ≤ length ts = omega (arith, subst (λ n. to - from < n) (length-drop from ts) below, p.order, p.within) in
        let front : rest ≡ drop from (take (to + 1) ts) = take_drop ts from (to - from + 1) ∙ ap (λ n. drop from (take n ts)) (omega (arith, p.order)) in
        let stops : fault from (start form) rest ≡ Some (halt to false) = ap (fault from (start form)) front ∙ read (to + 1) (omega arith) fits ∙ over_rest to (drop to (take (to + 1) ts)) (drop_some (take (to + 1) ts) to (subst (λ n. to < n) (sym (length-take-le (to + 1) ts fits)) (omega arith))) in
        let q = first_of_rest rest (start form) from (halt to false) stops in
        let long : length rest ≡ to - from + 1 = length-take-le (to - from + 1) (drop from ts) (omega (arith, below)) in
        let place : q.0.token + 1 ≡ length rest = omega (arith, q.2, long) in
        (first_fault form rest q.0 q.1).token (omega (arith, place)) (subst (Begins false form) (sym (ap (λ n. take n rest) place ∙ take-length rest)) begins)

-- the clauses of the public checks
pub ok_after : (form : Form) (ts : Text) (from : ℕ) (r : Result ℕ Stop) → ChecksFrom form ts from r → IfOk r (λ to. from ≤ to)
ok_after form ts from (Ok to) h = h.0
ok_after form ts from (Err stop) h = tt

pub ok_longest : (form : Form) (ts : Text) (from : ℕ) (r : Result ℕ Stop) → ChecksFrom form ts from r → IfOk r (λ to. IsLongest form (drop from ts) (to - from))
ok_longest form ts from (Ok to) h = h.1
ok_longest form ts from (Err stop) h = tt

pub err_none : (form : Form) (ts : Text) (from : ℕ) (r : Result ℕ Stop) → ChecksFrom form ts from r → IfErr r (λ stop. IsNoPhrase form (drop from ts))
err_none form ts from (Ok to) h = tt
err_none form ts from (Err stop) h = h.1

pub err_after : (form : Form) (ts : Text) (from : ℕ) (r : Result ℕ Stop) → ChecksFrom form ts from r → IfErr r (λ stop. from ≤ stop.token)
err_after form ts from (Ok to) h = tt
err_after form ts from (Err stop) h = h.0

pub err_first : (form : Form) (ts : Text) (from : ℕ) (r : Result ℕ Stop) → ChecksFrom form ts from r → IfErr r (λ stop. IsFirstFault form (drop from ts) (stop.token - from))
err_first form ts from (Ok to) h = tt
err_first form ts from (Err stop) h = h.2

pub err_what : (form : Form) (ts : Text) (from : ℕ) (r : Result ℕ Stop) → ChecksFrom form ts from r → IfErr r (λ stop. GoesOnBy form (drop from ts) (stop.token - from) stop.what)
err_what form ts from (Ok to) h = tt
err_what form ts from (Err stop) h = h.3

pub text_ok : {T : Type 0} (form : Form) (ts : Text) (r : Result T Stop) → Checks form ts r → IfOk r (λ done. IsOf false form ts)
text_ok form ts (Ok done) h = h
text_ok form ts (Err stop) h = tt

pub text_first : {T : Type 0} (form : Form) (ts : Text) (r : Result T Stop) → Checks form ts r → IfErr r (λ stop. IsFirstFault form ts stop.token)
text_first form ts (Ok done) h = tt
text_first form ts (Err stop) h = h.0

pub text_what : {T : Type 0} (form : Form) (ts : Text) (r : Result T Stop) → Checks form ts r → IfErr r (λ stop. GoesOnBy form ts stop.token stop.what)
text_what form ts (Ok done) h = tt
text_what form ts (Err stop) h = h.1

-- the token at a place
pub names_token : (text : List ℕ) (tokens : List Token) (stop : Halt) (what : Unsupported) (d : Token) → stop.token < length tokens → stop.wide ≡ true → IsAddition what (lexeme text (get_or tokens stop.token d)) → Names (lexemes text tokens) stop (Some what)
names_token text tokens stop what d below wide is =
    let within : stop.token < length (lexemes text tokens) = subst (λ n. stop.token < n) (sym (length-map tokens (lexeme text))) below in
    (wide, (lexeme text (get_or tokens stop.token d), drop (suc stop.token) (lexemes text tokens), drop-cons (lexemes text tokens) stop.token (lexeme text d) within ∙ ap (λ t. t ∷ drop (suc stop.token) (lexemes text tokens)) (get_or-map (lexeme text) tokens stop.token d (lexeme text d) below), is))

phrase_bounds : (text : List ℕ) (tokens : List Token) (items : List Symbol) (from : ℕ) (stop : Halt) → Halts (lexemes text tokens) items from stop → Bounds (drop from (lexemes text tokens)) from stop
phrase_bounds text tokens items from stop h = bounds (drop from (lexemes text tokens)) items from stop (halts_whole (lexemes text tokens) items from stop h)

rest_length : (text : List ℕ) (tokens : List Token) (from : ℕ) → from ≤ length tokens → from + length (drop from (lexemes text tokens)) ≡ length tokens
rest_length text tokens from within = ap (λ n. from + n) (length-drop from (lexemes text tokens) ∙ ap (λ n. n - from) (length-map tokens (lexeme text))) ∙ omega (arith, within)

pub phrase_within : (text : List ℕ) (tokens : List Token) (items : List Symbol) (from : ℕ) (stop : Halt) → from ≤ length tokens → Halts (lexemes text tokens) items from stop → stop.token ≤ length tokens
phrase_within text tokens items from stop within h = subst (λ n. stop.token ≤ n) (rest_length text tokens from within) (phrase_bounds text tokens items from stop h).within

pub phrase_token : (text : List ℕ) (tokens : List Token) (items : List Symbol) (from : ℕ) (stop : Halt) → from ≤ length tokens → Halts (lexemes text tokens) items from stop → stop.wide ≡ true → stop.token < length tokens
phrase_token text tokens items from stop within h wide = subst (λ n. stop.token < n) (rest_length text tokens from within) ((phrase_bounds text tokens items from stop h).token wide)

pub text_whole : (form : Form) (text : List ℕ) (tokens : List Token) (items : List Symbol) (to : ℕ) → items ≡ start form → Passes (lexemes text tokens) items 0 to → to ≡ length tokens → IsOf false form (lexemes text tokens)
text_whole form text tokens items to is p end = checks_ok form (lexemes text tokens) items is (whole_over (lexemes text tokens) items to p (end ∙ sym (length-map tokens (lexeme text))))

pub text_part : (form : Form) (text : List ℕ) (tokens : List Token) (items : List Symbol) (to : ℕ) (answer : Stop) → items ≡ start form → Passes (lexemes text tokens) items 0 to → to ≢ length tokens → answer.token ≡ to → Names (lexemes text tokens) (halt to false) answer.what → IsFirstFault form (lexemes text tokens) answer.token × GoesOnBy form (lexemes text tokens) answer.token answer.what
text_part form text tokens items to answer is p not_end token what =
    let below : to < length (lexemes text tokens) = omega (arith, p.within, λ (e : to ≡ length (lexemes text tokens)). not_end (e ∙ length-map tokens (lexeme text))) in
    checks_err form (lexemes text tokens) items (halt to false) answer is (whole_part (lexemes text tokens) items to p below) token what

pub text_err : (form : Form) (text : List ℕ) (tokens : List Token) (items : List Symbol) (stop : Halt) (answer : Stop) → items ≡ start form → Halts (lexemes text tokens) items 0 stop → answer.token ≡ stop.token → Names (lexemes text tokens) stop answer.what → IsFirstFault form (lexemes text tokens) answer.token × GoesOnBy form (lexemes text tokens) answer.token answer.what
text_err form text tokens items stop answer is h token what = checks_err form (lexemes text tokens) items stop answer is (halts_whole (lexemes text tokens) items 0 stop h) token what
