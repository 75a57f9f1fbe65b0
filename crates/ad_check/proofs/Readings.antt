-- How the reading of items goes on, token by token.
use Rattle.std.proofs.Common.{◌≡◌, ℕ, suc, ◌+◌, ◌<◌, ◌≤◌, ◌⊎◌, inl, inr, Bool, true, false, List, [], ◌∷◌, ◌++◌, length, take, drop, Option, None, Some, Result, Ok, Err, IfOk, refl, sym, ◌∙◌, ap, subst, arith, add-one, append_assoc, drop-cons}
use Rattle.std.specs.Option.{is_some}
use Rattle.std.proofs.Math.Seq.{take-length, drop-length}
use Rattle.std.proofs.lemmas.Bool.{true≢false}
use Rattle.std.proofs.Math.Nat.{eq-or-lt_of_le}
use Rattle.std.proofs.lemmas.List.{get_or-take, length-take-le}
use Rattle.ad_lex.specs.Lexemes.{Lexeme}
use Rattle.ad_lex.specs.Lexemes as says
use Rattle.ad_grammar.specs.Shapes.{Text}
use Rattle.ad_check.specs.declared.items.Symbol.{Symbol}
use Rattle.ad_check.specs.declared.items.Symbol.TheVariants as it
use Rattle.ad_check.specs.declared.items.Nonterminal.{Nonterminal}
use Rattle.ad_check.specs.declared.items.Halt.{Halt}
use Rattle.ad_check.specs.Machine.{row, opens, skips, after, step, halt, go_on, fault, behind, is_right, until}
use Rattle.ad_check.specs.Reads.{IsNext, Passes, Halts, Reads, Leads}

pub some_not_none : (items : List Symbol) → Some items ≡ None → ⊥
some_not_none items h = absurd (true≢false (ap is_some h))

-- a front's tokens from one on
pub next_front : (ts : Text) (n at : ℕ) (t : Lexeme) → IsNext ts at t → at < n → n ≤ length ts → drop at (take n ts) ≡ t ∷ drop (at + 1) (take n ts)
next_front ts n at t next below within =
    let long : at < length (take n ts) = rw (length-take-le n ts within) below in
    drop-cons (take n ts) at t long ∙ ap (λ u. u ∷ drop (suc at) (take n ts)) (get_or-take n ts at t below ∙ next.is) ∙ ap (λ i. t ∷ drop i (take n ts)) (sym (add-one at))

pub next_whole : (ts : Text) (at : ℕ) (t : Lexeme) → IsNext ts at t → drop at ts ≡ t ∷ drop (at + 1) ts
next_whole ts at t next = drop-cons ts at t next.within ∙ ap (λ u. u ∷ drop (suc at) ts) next.is ∙ ap (λ i. t ∷ drop i ts) (sym (add-one at))

drop_all : (ts : Text) (at : ℕ) → at ≡ length ts → drop at ts ≡ []
drop_all ts at e = ap (λ i. drop i ts) e ∙ drop-length ts

-- nothing is left behind a front's end
drop_front : (ts : Text) (n : ℕ) → n ≤ length ts → drop n (take n ts) ≡ []
drop_front ts n within = drop_all (take n ts) n (sym (length-take-le n ts within))

pub fault_step : (at : ℕ) (items next : List Symbol) (t : Lexeme) (ts : Text) → step false items t ≡ Some next → fault at items (t ∷ ts) ≡ fault (at + 1) next ts
fault_step at items next t ts h = ap (go_on (λ m. fault (at + 1) m ts) (halt at (is_some (step true items t)))) h

pub fault_stop : (at : ℕ) (items : List Symbol) (t : Lexeme) (ts : Text) → step false items t ≡ None → fault at items (t ∷ ts) ≡ Some (halt at (is_some (step true items t)))
fault_stop at items t ts h = ap (go_on (λ m. fault (at + 1) m ts) (halt at (is_some (step true items t)))) h

-- two lists of items that go on alike at this token
pub fault_same : (at : ℕ) (items others : List Symbol) (t : Lexeme) (ts : Text) → ((w : Bool) → step w items t ≡ step w others t) → fault at items (t ∷ ts) ≡ fault at others (t ∷ ts)
fault_same at items others t ts same = ap (λ s. go_on (λ m. fault (at + 1) m ts) (halt at (is_some (step true items t))) s) (same false) ∙ ap (λ s. go_on (λ m. fault (at + 1) m ts) (halt at (is_some s)) (step false others t)) (same true)

pub step_opens : (w : Bool) (item : Symbol) (more next : List Symbol) (t : Lexeme) → opens w item t ≡ Some next → step w (item ∷ more) t ≡ Some (next ++ more)
step_opens w item more next t h = ap (λ o. after item more o (step w more t)) h

-- an item that takes the token
pub reads_step : (ts : Text) (from : ℕ) (t : Lexeme) (item : Symbol) (next : List Symbol) → IsNext ts from t → opens false item t ≡ Some next → Leads ts next (from + 1) (item ∷ []) from
reads_step ts from t item next here h (Ok to) p = record {
  order = omega (arith, p.order);
  within = p.within;
  reads = λ n more above below. ap (fault from (item ∷ more)) (next_front ts n from t here (omega (arith, p.order, above)) below) ∙ fault_step from (item ∷ more) (next ++ more) t (drop (from + 1) (take n ts)) (step_opens false item more next t h) ∙ p.reads n more above below;
}
reads_step ts from t item next here h (Err stop) p = λ more. ap (fault from (item ∷ more)) (next_whole ts from t here) ∙ fault_step from (item ∷ more) (next ++ more) t (drop (from + 1) ts) (step_opens false item more next t h) ∙ p more

after_needed : (item : Symbol) (more : List Symbol) (o next : Option (List Symbol)) → skips item ≡ false → o ≡ None → after item more o next ≡ None
after_needed item more o next needed h = ap (λ o'. after item more o' next) h ∙ rw needed

after_some : (item : Symbol) (more : List Symbol) (o next : Option (List Symbol)) → skips item ≡ false → is_some (after item more o next) ≡ is_some o
after_some item more None next needed = rw needed
after_some item more (Some r) next needed = refl

-- an item that doesn't take the token, and can't be absent
pub reads_stop : (ts : Text) (from : ℕ) (t : Lexeme) (item : Symbol) (wide : Bool) → IsNext ts from t → opens false item t ≡ None → skips item ≡ false → is_some (opens true item t) ≡ wide → Halts ts (item ∷ []) from (halt from wide)
reads_stop ts from t item wide here h needed goes more = ap (fault from (item ∷ more)) (next_whole ts from t here) ∙ fault_stop from (item ∷ more) t (drop (from + 1) ts) (after_needed item more (opens false item t) (step false more t) needed h) ∙ ap (λ b. Some (halt from b)) (after_some item more (opens true item t) (step true more t) needed ∙ goes)

-- the same at the end of the text
pub reads_over : (ts : Text) (from : ℕ) (item : Symbol) → from ≡ length ts → skips item ≡ false → Halts ts (item ∷ []) from (halt from false)
reads_over ts from item end needed more = ap (fault from (item ∷ more)) (drop_all ts from end) ∙ rw needed

-- an item that may be absent, and is
skipped : (w : Bool) (item : Symbol) (more : List Symbol) (t : Lexeme) → skips item ≡ true → opens w item t ≡ None → step w (item ∷ more) t ≡ step w more t
skipped w item more t may h = ap (λ o. after item more o (step w more t)) h ∙ rw may

ends_skipped : (at : ℕ) (item : Symbol) (more : List Symbol) → skips item ≡ true → fault at (item ∷ more) [] ≡ fault at more []
ends_skipped at item more may = rw may

pub reads_skip : (ts : Text) (from : ℕ) (t : Lexeme) (item : Symbol) → IsNext ts from t → skips item ≡ true → ((w : Bool) → opens w item t ≡ None) → Passes ts (item ∷ []) from from
reads_skip ts from t item here may h = record {
  order = omega arith;
  within = omega (arith, here.within);
  reads = λ n more above below. by_length n more below (eq-or-lt_of_le above);
}
  where
    by_length : (n : ℕ) (more : List Symbol) → n ≤ length ts → (from ≡ n) ⊎ (from < n) → fault from (item ∷ more) (drop from (take n ts)) ≡ fault from more (drop from (take n ts))
    by_length n more below (inl e) =
        let nothing : drop from (take n ts) ≡ [] = subst (λ i. drop i (take n ts) ≡ []) (sym e) (drop_front ts n below) in
        ap (fault from (item ∷ more)) nothing ∙ ends_skipped from item more may ∙ ap (fault from more) (sym nothing)
    by_length n more below (inr less) =
        let front = next_front ts n from t here less below in
        ap (fault from (item ∷ more)) front ∙ fault_same from (item ∷ more) more t (drop (from + 1) (take n ts)) (λ w. skipped w item more t may (h w)) ∙ ap (fault from more) (sym front)

pub reads_skip_end : (ts : Text) (from : ℕ) (item : Symbol) → from ≡ length ts → skips item ≡ true → Passes ts (item ∷ []) from from
reads_skip_end ts from item end may = record {
  order = omega arith;
  within = omega (arith, end);
  reads = λ n more above below.
      let nothing : drop from (take n ts) ≡ [] = drop_all (take n ts) from (omega (arith, end, above, below) ∙ sym (length-take-le n ts below)) in
      ap (fault from (item ∷ more)) nothing ∙ ends_skipped from item more may ∙ ap (fault from more) (sym nothing);
}

pub reads_nothing : (ts : Text) (at : ℕ) → at ≤ length ts → Passes ts [] at at
reads_nothing ts at within = record { order = omega arith; within = within; reads = λ n more above below. refl }

-- items, and then others
pub reads_then : (ts : Text) (first second : List Symbol) (from mid : ℕ) → Passes ts first from mid → Leads ts second mid (first ++ second) from
reads_then ts first second from mid p (Ok to) q = record {
  order = omega (arith, p.order, q.order);
  within = q.within;
  reads = λ n more above below. ap (λ items. fault from items (drop from (take n ts))) (append_assoc first second more) ∙ p.reads n (second ++ more) (omega (arith, q.order, above)) below ∙ q.reads n more above below;
}
reads_then ts first second from mid p (Err stop) q = λ more.
    ap (λ items. fault from items (drop from ts)) (append_assoc first second more)
    ∙ subst (λ us. fault from (first ++ (second ++ more)) (drop from us) ≡ fault mid (second ++ more) (drop mid us)) (take-length ts) (p.reads (length ts) (second ++ more) p.within (omega arith))
    ∙ q more

-- items that stop do so whatever stands behind them
pub reads_halt : (ts : Text) (first second : List Symbol) (from : ℕ) (stop : Halt) → Halts ts first from stop → Halts ts (first ++ second) from stop
reads_halt ts first second from stop h more = ap (λ items. fault from items (drop from ts)) (append_assoc first second more) ∙ h (second ++ more)

-- an item that goes on at this token as others do
pub reads_as : (ts : Text) (from : ℕ) (t : Lexeme) (item : Symbol) (others : List Symbol) → IsNext ts from t → ((w : Bool) (more : List Symbol) → step w (item ∷ more) t ≡ step w (others ++ more) t) → (result : Result ℕ Halt) → IfOk result (λ to. from < to) → Reads ts others from result → Reads ts (item ∷ []) from result
reads_as ts from t item others here same (Ok to) on p = record {
  order = p.order;
  within = p.within;
  reads = λ n more above below.
      let front = next_front ts n from t here (omega (arith, on, above)) below in
      ap (fault from (item ∷ more)) front ∙ fault_same from (item ∷ more) (others ++ more) t (drop (from + 1) (take n ts)) (λ w. same w more) ∙ ap (fault from (others ++ more)) (sym front) ∙ p.reads n more above below;
}
reads_as ts from t item others here same (Err stop) on p = λ more.
    ap (fault from (item ∷ more)) (next_whole ts from t here) ∙ fault_same from (item ∷ more) (others ++ more) t (drop (from + 1) ts) (λ w. same w more) ∙ ap (fault from (others ++ more)) (sym (next_whole ts from t here)) ∙ p more

-- a list up to the parenthesis that closes it goes on as one phrase and the list
until_other : (w : Bool) (k : Nonterminal) (t : Lexeme) → is_right t ≡ None → until w k t ≡ behind (it.Until k ∷ []) (row w k t)
until_other w k says.Left h = refl
until_other w k says.Right h = absurd (some_not_none [] h)
until_other w k says.Equals h = refl
until_other w k says.Carets h = refl
until_other w k says.Plus h = refl
until_other w k says.Minus h = refl
until_other w k (says.Iri name) h = refl
until_other w k (says.Text value) h = refl
until_other w k (says.Plain word) h = refl
until_other w k (says.Short prefix local) h = refl
until_other w k (says.Node label) h = refl
until_other w k (says.Lang tag) h = refl

until_behind : (k : Nonterminal) (more : List Symbol) (o next : Option (List Symbol)) → after (it.Until k) more (behind (it.Until k ∷ []) o) next ≡ after (it.One k) (it.Until k ∷ more) o next
until_behind k more None next = refl
until_behind k more (Some r) next = ap Some (append_assoc r (it.Until k ∷ []) more)

pub after_last : (item : Symbol) (more : List Symbol) (o next others : Option (List Symbol)) → skips item ≡ false → after item more o next ≡ after item more o others
after_last item more None next others needed = rw needed refl
after_last item more (Some r) next others needed = refl

pub until_same : (w : Bool) (k : Nonterminal) (more : List Symbol) (t : Lexeme) → is_right t ≡ None → step w (it.Until k ∷ more) t ≡ step w (it.One k ∷ it.Until k ∷ more) t
until_same w k more t h = ap (λ o. after (it.Until k) more o (step w more t)) (until_other w k t h) ∙ until_behind k more (row w k t) (step w more t) ∙ after_last (it.One k) (it.Until k ∷ more) (row w k t) (step w more t) (step w (it.Until k ∷ more) t) refl
