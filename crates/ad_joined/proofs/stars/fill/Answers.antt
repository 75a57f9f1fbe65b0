-- One more symbol is a member.
use Rattle.std.proofs.Common.{◌≡◌, ◌==◌, ◌||◌, ℕ, Bool, true, false, List, [], ◌∷◌, ◌++◌, get_or, take, sym, ap, subst, ◌∙◌, eq-eqb, eqb-true, arith, IsTrue, inl, inr, refl}
use Rattle.std.proofs.lemmas.Bool.{cases_eq}
use Rattle.std.proofs.lemmas.List.{take_more}
use Rattle.std.proofs.lemmas.List.Folds.{list_any-append}
use Rattle.ad_bits.specs.Rows.{has}
use Rattle.ad_theory.specs.Numbers.{among}
use Rattle.ad_theory.proofs.Members.{either, or_left, or_right, has_get_or}
use Rattle.ad_groups.proofs.KeyLemmas.{among_of_has}
use Rattle.ad_joined.proofs.stars.fill.Goals as goal

among_last : (xs : List ℕ) (x s : ℕ) → s ≡ x → among (xs ++ x ∷ []) s ≡ true
among_last xs x s e = list_any-append (λ y. y == s) xs (x ∷ []) ∙ or_right (among xs s) (x == s || false) (or_left (x == s) false (eq-eqb x s (sym e)))

among_before : (xs : List ℕ) (x s : ℕ) → (s ≡ x → ⊥) → among (xs ++ x ∷ []) s ≡ among xs s
among_before xs x s ne =
    let apart : x == s ≡ false = elim (either (x == s)) [ inl t ↦ absurd (ne (sym (eqb-true x s t))) | inr f ↦ f ] in
    list_any-append (λ y. y == s) xs (x ∷ []) ∙ rw apart (no_more (among xs s))
  where
    no_more : (b : Bool) → (b || false) ≡ b
    no_more true = refl
    no_more false = refl

pub set-requires : goal.set-requires
set-requires c =
    let xs = c.args.symbols.now in
    let i = c.loop-symbol.symbol-index in
    let below = c.requires (get_or xs i 0) (among_of_has xs (get_or xs i 0) (has_get_or xs i 0 c.loop-symbol-test.true)) in
    omega (arith, below, c.loop-symbol.invariant.size)

pub loop-symbol-init : goal.loop-symbol-init
loop-symbol-init c = record { members = c.clear.ensures.empty; size = c.clear.ensures.size }

pub loop-symbol-preserved : goal.loop-symbol-preserved
loop-symbol-preserved c =
    let xs = c.args.symbols.now in
    let i = c.loop-symbol.symbol-index in
    let x = get_or xs i 0 in
    let v = c.loop-symbol.invariant in
    record {
      members = λ s. elim (cases_eq s x) [
        | inl e ↦ subst (λ k. IsTrue (has c.set.new.self k)) (sym e) c.set.ensures.member ∙ sym (among_last (take i xs) x s e)
        | inr ne ↦ c.set.ensures.others s ne ∙ v.members s ∙ sym (among_before (take i xs) x s ne)
      ] ∙ ap (λ l. among l s) (sym (take_more xs i 0 c.loop-symbol-test.true));
      size = c.set.ensures.size ∙ v.size;
    }
