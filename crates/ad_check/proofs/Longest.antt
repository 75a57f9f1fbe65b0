-- Where the longest phrase ends: the tokens before a stop are none.
use Rattle.std.proofs.Common.{◌≡◌, ◌⊎◌, inl, inr, ℕ, suc, ◌+◌, ◌-◌, ◌<◌, ◌≤◌, Bool, true, false, List, [], ◌∷◌, ◌++◌, take, Option, None, Some, refl, sym, ◌∙◌, ap, subst, arith, append_assoc, append-nil}
use Rattle.std.specs.Prelude.{if◌then◌else◌}
use Rattle.std.specs.Option.{is_some}
use Rattle.std.proofs.lemmas.Bool.{true≢false, cases_lt}
use Rattle.ad_lex.specs.Lexemes.{Lexeme}
use Rattle.ad_lex.specs.Lexemes as says
use Rattle.ad_grammar.specs.Shapes.{Text}
use Rattle.ad_grammar.specs.Faults.{Form, IsOf, Begins, IsFirstFault, IsLongest, IsNoPhrase}
use Rattle.ad_check.specs.declared.items.Symbol.{Symbol}
use Rattle.ad_check.specs.declared.items.Symbol.TheVariants as it
use Rattle.ad_check.specs.declared.items.Halt.{Halt}
use Rattle.ad_check.specs.Machine.{opens, skips, after, step, ends, accepts, behind, fault, go_on, halt, start}
use Rattle.ad_check.proofs.Readings.{some_not_none, step_opens, fault_step, fault_stop}
use Rattle.ad_check.proofs.Taken.{none_not_some, accepts_step}
use Rattle.ad_check.proofs.Wholes.{complete}
use Rattle.ad_check.proofs.Rests.{both, skip_same}
use Rattle.ad_check.proofs.FirstFault.{halt_is}
use Rattle.ad_check.proofs.Decided.{begins_shorter}

-- more items behind those that go on at a token
step_more : (items more : List Symbol) (t : Lexeme) (next : List Symbol) → step false items t ≡ Some next → step false (items ++ more) t ≡ Some (next ++ more)
step_more [] more t next h = absurd (none_not_some next h)
step_more (item ∷ items) more t next h = by_opens (opens false item t) refl (skips item) refl (step_more items more t next) h
  where
    by_opens : (o : Option (List Symbol)) → opens false item t ≡ o → (s : Bool) → skips item ≡ s → (step false items t ≡ Some next → step false (items ++ more) t ≡ Some (next ++ more)) → after item items o (step false items t) ≡ Some next → step false (item ∷ (items ++ more)) t ≡ Some (next ++ more)
    by_opens (Some r) e s e' later h' = step_opens false item (items ++ more) r t e ∙ ap Some (sym (append_assoc r items more)) ∙ ap (behind more) h'
    by_opens None e true e' later h' = ap (λ o. after item (items ++ more) o (step false (items ++ more) t)) e ∙ rw e' (later (sym (rw e' refl) ∙ h'))
    by_opens None e false e' later h' = absurd (none_not_some next (sym (rw e' refl) ∙ h'))

-- more items behind those that may be absent and don't take a token
step_over : (w : Bool) (items more : List Symbol) (t : Lexeme) → ends items ≡ true → step false items t ≡ None → step w (items ++ more) t ≡ step w more t
step_over w [] more t e h = refl
step_over w (item ∷ items) more t e h = by_opens (opens false item t) refl (both (skips item) (ends items) e) (step_over w items more t) h
  where
    by_opens : (o : Option (List Symbol)) → opens false item t ≡ o → (skips item ≡ true) × (ends items ≡ true) → (ends items ≡ true → step false items t ≡ None → step w (items ++ more) t ≡ step w more t) → after item items o (step false items t) ≡ None → step w (item ∷ (items ++ more)) t ≡ step w more t
    by_opens (Some r) is may later h' = absurd (some_not_none (r ++ items) h')
    by_opens None is (may, end) later h' = ap (λ o. after item (items ++ more) o (step w (items ++ more) t)) (skip_same w item t may ∙ is) ∙ rw may (later end (sym (rw may refl) ∙ h'))

-- the inside of a rule goes on at any token, in the wide grammar
any_goes : (t : Lexeme) → is_some (step true (it.Any ∷ []) t) ≡ true
any_goes says.Left = refl
any_goes says.Right = refl
any_goes says.Equals = refl
any_goes says.Carets = refl
any_goes says.Plus = refl
any_goes says.Minus = refl
any_goes (says.Iri name) = refl
any_goes (says.Text value) = refl
any_goes (says.Plain word) = refl
any_goes (says.Short prefix local) = refl
any_goes (says.Node label) = refl
any_goes (says.Lang tag) = refl

-- items whose reading stops at a token whatever stands behind them: not all of them may be absent there
none_ends : (items : List Symbol) (at : ℕ) (stop : Halt) (t : Lexeme) (ts : Text) → ((more : List Symbol) → fault at (items ++ more) (t ∷ ts) ≡ Some stop) → step false items t ≡ None → ends items ≡ true → ⊥
none_ends items at stop t ts h none end = true≢false (sym wide ∙ narrow)
  where
    stops : (more : List Symbol) → step false more t ≡ None → is_some (step true more t) ≡ stop.wide
    stops more none' =
        let same : halt at (is_some (step true (items ++ more) t)) ≡ stop = halt_is (halt at (is_some (step true (items ++ more) t))) stop (sym (fault_stop at (items ++ more) t ts (step_over false items more t end none ∙ none')) ∙ h more) in
        ap is_some (sym (step_over true items more t end none)) ∙ ap (λ s. s.wide) same

    narrow : stop.wide ≡ false
    narrow = sym (stops [] refl)

    wide : stop.wide ≡ true
    wide = sym (stops (it.Any ∷ []) refl) ∙ any_goes t

-- The tokens before the stop of items are not read to their end, if the items stop there whatever stands behind them.
pub none_before : (ts : Text) (items : List Symbol) (at : ℕ) (stop : Halt) → ((more : List Symbol) → fault at (items ++ more) ts ≡ Some stop) → (at ≤ stop.token) × (accepts false items (take (stop.token - at) ts) ≡ false)
none_before [] items at stop h = by_end (ends items) refl (ap (λ is. fault at is []) (sym (append-nil items)) ∙ h [])
  where
    by_end : (b : Bool) → ends items ≡ b → (if b then None else Some (halt at false)) ≡ Some stop → (at ≤ stop.token) × (accepts false items (take (stop.token - at) []) ≡ false)
    by_end true e h' = absurd (none_not_some stop h')
    by_end false e h' =
        let here : at ≡ stop.token = ap (λ s. s.token) (halt_is (halt at false) stop h') in
        let nothing : stop.token - at ≡ 0 = omega (arith, here) in
        (omega (arith, here), ap (λ n. accepts false items (take n [])) nothing ∙ e)
none_before (t ∷ ts) items at stop h = by_step (step false items t) refl (ap (λ is. fault at is (t ∷ ts)) (sym (append-nil items)) ∙ h []) (none_before ts)
  where
    not_all : (b : Bool) → ends items ≡ b → step false items t ≡ None → ends items ≡ false
    not_all true e none = absurd (none_ends items at stop t ts h none e)
    not_all false e none = e

    by_step : (o : Option (List Symbol)) → step false items t ≡ o → go_on (λ next. fault (at + 1) next ts) (halt at (is_some (step true items t))) o ≡ Some stop → ((next : List Symbol) (at' : ℕ) (stop' : Halt) → ((more : List Symbol) → fault at' (next ++ more) ts ≡ Some stop') → (at' ≤ stop'.token) × (accepts false next (take (stop'.token - at') ts) ≡ false)) → (at ≤ stop.token) × (accepts false items (take (stop.token - at) (t ∷ ts)) ≡ false)
    by_step None e h' later =
        let here : at ≡ stop.token = ap (λ s. s.token) (halt_is (halt at (is_some (step true items t))) stop h') in
        let nothing : stop.token - at ≡ 0 = omega (arith, here) in
        (omega (arith, here), ap (λ n. accepts false items (take n (t ∷ ts))) nothing ∙ not_all (ends items) refl e)
    by_step (Some next) e h' later =
        let rest = later next (at + 1) stop (λ more. sym (fault_step at (items ++ more) (next ++ more) t ts (step_more items more t next e)) ∙ h more) in
        let one_more : stop.token - at ≡ suc (stop.token - (at + 1)) = omega (arith, rest.0) in
        (omega (arith, rest.0), ap (λ n. accepts false items (take n (t ∷ ts))) one_more ∙ accepts_step false items next t (take (stop.token - (at + 1)) ts) e ∙ rest.1)

begins_at : (form : Form) (ts : Text) (to : ℕ) → IsOf false form (take to ts) → Begins false form (take to ts)
begins_at form ts to is = ([], subst (IsOf false form) (sym (append-nil (take to ts))) is)

-- a first fault is where the longest phrase ends, if one begins
pub same_end : (form : Form) (ts : Text) (at to : ℕ) → IsFirstFault form ts at → IsLongest form ts to → at ≡ to
same_end form ts at to f l = by_order (cases_lt at to) (cases_lt to at)
  where
    by_order : (at < to) ⊎ (to ≤ at) → (to < at) ⊎ (at ≤ to) → at ≡ to
    by_order (inl before) q = absurd (f.token (omega (arith, before, l.within)) (begins_shorter form ts (at + 1) to (omega (arith, before)) (begins_at form ts to l.phrase)))
    by_order (inr after) (inl before) = absurd (l.over (omega (arith, before, f.within)) (begins_shorter form ts (to + 1) at (omega (arith, before)) f.before))
    by_order (inr after) (inr before) = omega (arith, after, before)

-- the longest phrase ends at one place
pub one_end : (form : Form) (ts : Text) (n m : ℕ) → IsLongest form ts n → IsLongest form ts m → n ≡ m
one_end form ts n m h l = by_order (cases_lt n m) (cases_lt m n)
  where
    not_longer : (k j : ℕ) → IsLongest form ts k → IsLongest form ts j → k < j → ⊥
    not_longer k j a b less = a.over (omega (arith, less, b.within)) (begins_shorter form ts (k + 1) j (omega (arith, less)) (begins_at form ts j b.phrase))

    by_order : (n < m) ⊎ (m ≤ n) → (m < n) ⊎ (n ≤ m) → n ≡ m
    by_order (inl less) q = absurd (not_longer n m h l less)
    by_order (inr p) (inl less) = absurd (not_longer m n l h less)
    by_order (inr p) (inr q) = omega (arith, p, q)

-- no phrase begins where the tokens before the first fault are none
pub no_phrase : (form : Form) (ts : Text) (at : ℕ) → IsFirstFault form ts at → accepts false (start form) (take at ts) ≡ false → IsNoPhrase form ts
no_phrase form ts at f none to l = true≢false (sym (complete false form (take to ts) l.phrase) ∙ ap (λ n. accepts false (start form) (take n ts)) (sym (same_end form ts at to f l)) ∙ none)
