-- Ontologies stay distinct under batches, and counts add up.
use Rattle.std.proofs.Common.{◌≡◌, ◌+◌, Bool, true, false, not, cond, ◌||◌, List, [], ◌∷◌, ◌++◌, length, refl, ap, ◌∙◌, arith}
use Rattle.std.specs.List.{filter, list_any, IsDistinct, AllByRecursion}
use Rattle.std.proofs.lemmas.Map.Keys.{IsDistinct-push}
use Rattle.ad_tree.specs.declared.axioms.Noted.{Noted}
use Rattle.ad_tree.specs.declared.edits.Op.{Op}
use Rattle.ad_tree.specs.declared.edits.Sign.{Sign}
use Rattle.ad_tree.specs.declared.edits.Sign.TheVariants as signs
use Rattle.ad_apply.specs.Same.{same_axiom}
use Rattle.ad_apply.specs.Apply.{Counts, no_counts, counted, counts_from, counts_of, has_axiom, done, done_by, applied}
use Rattle.ad_apply.specs.Working.{total_of}
use Rattle.ad_apply.proofs.WorkingLemmas.{same_axiom-equiv}
use Rattle.ad_apply.proofs.StepLemmas.{total-counted}

all-filter : (P : Noted → Type 0) (p : Noted → Bool) (xs : List Noted) → AllByRecursion P xs → AllByRecursion P (filter p xs)
all-filter P p [] all = tt
all-filter P p (x ∷ xs) all = elim (p x) as (λ b. AllByRecursion P (cond b (x ∷ filter p xs) (filter p xs))) [ true ↦ (all.0, all-filter P p xs all.1) | false ↦ all-filter P p xs all.1 ]

pub distinct-filter : (p : Noted → Bool) (xs : List Noted) → IsDistinct same_axiom xs → IsDistinct same_axiom (filter p xs)
unfolding IsDistinct
distinct-filter p [] d = tt
distinct-filter p (x ∷ xs) d = elim (p x) as (λ b. IsDistinct same_axiom (cond b (x ∷ filter p xs) (filter p xs))) [ true ↦ (all-filter (λ y. same_axiom x y ≡ false) p xs d.0, distinct-filter p xs d.1) | false ↦ distinct-filter p xs d.1 ]

any_either_way : (a : Noted) (xs : List Noted) → list_any (same_axiom a) xs ≡ list_any (λ b. same_axiom b a) xs
any_either_way a [] = refl
any_either_way a (x ∷ xs) = ap (λ s. s || list_any (same_axiom a) xs) (same_axiom-equiv.symm a x) ∙ ap (λ r. same_axiom x a || r) (any_either_way a xs)

distinct-done : (sign : Sign) (ontology : List Noted) (a : Noted) → IsDistinct same_axiom ontology → IsDistinct same_axiom (done sign ontology a)
distinct-done signs.Add ontology a d =
    elim (has_axiom ontology a) as (λ h. has_axiom ontology a ≡ h → IsDistinct same_axiom (cond h ontology (ontology ++ a ∷ []))) [
      | true ↦ λ e. d
      | false ↦ λ e. IsDistinct-push same_axiom-equiv ontology a d (any_either_way a ontology ∙ e)
    ] refl
distinct-done signs.Remove ontology a d = distinct-filter (λ b. not (same_axiom b a)) ontology d

-- an ontology stays one of distinct axioms
pub distinct-applied : (ontology : List Noted) (ops : List Op) → IsDistinct same_axiom ontology → IsDistinct same_axiom (applied ontology ops)
distinct-applied ontology [] d = d
distinct-applied ontology (op ∷ ops) d = distinct-applied (done_by ontology op) ops (distinct-done op.sign ontology op.noted d)

counts-total : (c : Counts) (ontology : List Noted) (ops : List Op) → total_of (counts_from c ontology ops) ≡ total_of c + length ops
counts-total c ontology [] = omega arith
counts-total c ontology (op ∷ ops) = omega (arith, counts-total (counted op.sign (has_axiom ontology op.noted) c) (done_by ontology op) ops, total-counted op.sign (has_axiom ontology op.noted) c)

-- each operation is counted once
pub counts_add_up : (ontology : List Noted) (ops : List Op) → total_of (counts_of ontology ops) ≡ length ops
counts_add_up ontology ops = omega (arith, counts-total no_counts ontology ops)
