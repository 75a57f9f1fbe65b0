-- Operations that are read from the front of items, one after the other.
use Rattle.std.proofs.Common.{◌≡◌, ℕ, ◌+◌, ◌≤◌, List, [], ◌∷◌, ◌++◌, length, None, Some, is_some, sym, ◌∙◌, ap, arith, length-append}
use Rattle.std.specs.Option.{option_map}
use Rattle.std.proofs.lemmas.Bool.{true≢false}
use Rattle.ad_tree.specs.declared.edits.Op.{Op}
use Rattle.ad_terms.specs.declared.item.StackItem.{StackItem}
use Rattle.ad_terms.specs.Items.{as_sign, as_axiom}
use Rattle.ad_terms.specs.Shapes.{behind_top, more}
use Rattle.ad_terms.proofs.Taking.{no_two, one_more}
use Rattle.ad_build.specs.Lists.{operation, operations}

none_not_some : {A : Type 0} (x : A) → Some x ≡ None → ⊥
none_not_some x h = absurd (true≢false (ap is_some h))

no_one : (item : StackItem) (x : Op) → Some x ≡ operation (item ∷ []) → ⊥
no_one item x h = no_two as_sign as_axiom (λ p. record { sign = p.0; noted = p.1 }) item x h

pub operations_on : (items rest : List StackItem) (all next : List Op) (x : Op) → Some x ≡ operation items → rest ≡ behind_top (behind_top items) → next ≡ all ++ x ∷ []
    → option_map (λ xs. all ++ xs) (operations items) ≡ option_map (λ xs. next ++ xs) (operations rest)
operations_on [] rest all next x h e e' = absurd (none_not_some x h)
operations_on (sign ∷ []) rest all next x h e e' = absurd (no_one sign x h)
operations_on (sign ∷ stated ∷ items) rest all next x h e e' =
    ap (λ o. option_map (λ xs. all ++ xs) (more o (operations items))) (sym h)
    ∙ one_more all next x (operations items) e'
    ∙ ap (λ us. option_map (λ xs. next ++ xs) (operations us)) (sym e)

-- an operation takes two items
pub some_left : (items : List StackItem) (x : Op) → Some x ≡ operation items → 2 ≤ length items
some_left [] x h = absurd (none_not_some x h)
some_left (sign ∷ []) x h = absurd (no_one sign x h)
some_left (sign ∷ stated ∷ items) x h = omega arith

pub fewer_left : (items rest : List StackItem) (all next : List Op) (x : Op) (n : ℕ) → Some x ≡ operation items → rest ≡ behind_top (behind_top items) → next ≡ all ++ x ∷ [] → length all + length items ≤ n → length next + length rest ≤ n
fewer_left [] rest all next x n h e e' few = absurd (none_not_some x h)
fewer_left (sign ∷ []) rest all next x n h e e' few = absurd (no_one sign x h)
fewer_left (sign ∷ stated ∷ items) rest all next x n h e e' few =
    let m : length rest ≡ length items = ap length e in
    let k : length next ≡ length (all ++ x ∷ []) = ap length e' in
    omega (arith, m, k, length-append all (x ∷ []), few)
