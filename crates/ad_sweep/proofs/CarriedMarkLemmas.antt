-- The marks of carried axioms come in one by one.
use Rattle.std.proofs.Common.{◌≡◌, ℕ, ◌+◌, ◌<◌, ◌≤◌, ◌||◌, Bool, true, false, List, inl, inr, length, get_or, set, refl, sym, ap, ◌∙◌, eq-or-lt_of_le, arith}
use Rattle.std.proofs.lemmas.List.{get_or_default, get_or-set_other}
use Rattle.std.proofs.lemmas.Grind.{get_or-set_at}
use Rattle.ad_tree.specs.declared.axioms.Noted.{Noted}
use Rattle.ad_entity.specs.declared.entities.Entity.{Entity}
use Rattle.ad_syntax_laws.specs.ModuleDocument.{goes_with}

-- the marks of the first n axioms have come in
abbrev pub IsMarkedBelow : ℕ → (Entity → Bool) → List Noted → List Bool → List Bool → Type 0
IsMarkedBelow n entities O marks marks' = (k : ℕ) (d : Noted) → k < n → get_or marks' k true ≡ (get_or marks k true || goes_with entities (get_or O k d).axiom)

-- the marks from the n-th on are as before
abbrev pub IsLeftFrom : ℕ → List Bool → List Bool → Type 0
IsLeftFrom n marks marks' = (k : ℕ) → n ≤ k → get_or marks' k true ≡ get_or marks k true

or_true : (b : Bool) → true ≡ (b || true)
or_true true = refl
or_true false = refl

or_false : (b : Bool) → b ≡ (b || false)
or_false true = refl
or_false false = refl

module _ (n : ℕ) (entities : Entity → Bool) (O : List Noted) (marks now : List Bool) (a : Noted) (in_axioms : n < length O) (at : a ≡ get_or O n a)
    (below : IsMarkedBelow n entities O marks now) (from : IsLeftFrom n marks now) where
  goes_at : (k : ℕ) (d : Noted) → k ≡ n → goes_with entities a.axiom ≡ goes_with entities (get_or O k d).axiom
  goes_at k d e = ap (λ x. goes_with entities x.axiom) (at ∙ get_or_default O n a d in_axioms ∙ ap (λ j. get_or O j d) (sym e))

  -- the n-th axiom goes with the entities, and is marked
  pub marked_more : n < length now → goes_with entities a.axiom ≡ true → IsMarkedBelow (n + 1) entities O marks (set now n true)
  marked_more in_marks goes k d l = elim (eq-or-lt_of_le (let q : k ≤ n = omega (arith, l) in q)) [
    | inl e ↦ get_or-set_at now n k true true e in_marks ∙ or_true (get_or marks k true) ∙ ap (λ b. get_or marks k true || b) (sym goes ∙ goes_at k d e)
    | inr q ↦ get_or-set_other now n k true true (omega (arith, q)) ∙ below k d q
  ]

  -- it doesn't go with them
  pub marked_same : goes_with entities a.axiom ≡ false → IsMarkedBelow (n + 1) entities O marks now
  marked_same stays k d l = elim (eq-or-lt_of_le (let q : k ≤ n = omega (arith, l) in q)) [
    | inl e ↦ from k (omega (arith, e)) ∙ or_false (get_or marks k true) ∙ ap (λ b. get_or marks k true || b) (sym stays ∙ goes_at k d e)
    | inr q ↦ below k d q
  ]

pub left_more : (n : ℕ) (marks now : List Bool) (b : Bool) → IsLeftFrom n marks now → IsLeftFrom (n + 1) marks (set now n b)
left_more n marks now b from k l = get_or-set_other now n k b true (omega (arith, l)) ∙ from k (omega (arith, l))

pub left_same : (n : ℕ) (marks now : List Bool) → IsLeftFrom n marks now → IsLeftFrom (n + 1) marks now
left_same n marks now from k l = from k (omega (arith, l))
