-- Generated ontologies as first editions.
use Rattle.std.proofs.Common.{◌≡◌, ℕ, ◌≤◌, List, [], map, ◌∷◌, refl, sym, ap, ◌∙◌}
use Rattle.std.specs.Prelude.{Option, None, Some}
use Rattle.ad_base.specs.Limits.{standard}
use Rattle.ad_apply.specs.Apply.{applied}
use Rattle.ad_edition.specs.Limit.{Passed, passed}
use Rattle.ad_gen.specs.Generated.{added, generated}
use Rattle.ad_gen_laws.specs.Laws.{AreAdded, AreWithinLimits}
use Rattle.ad_tree.specs.declared.edits.Op.{Op}
use Rattle.ad_tree.specs.declared.axioms.Noted.{Noted}

-- its additions are within the limits
pub additions_fit : AreAdded → AreWithinLimits → (size : ℕ) → size ≤ 10000 → (batch : List Op) → batch ≡ map added (generated size) → passed standard 0 (applied [] batch) ≡ None
additions_fit are fit size small batch is = ap (λ ops. passed standard 0 (applied [] ops)) is ∙ ap (passed standard 0) (are size small) ∙ fit size small

pub additions_are : AreAdded → (size : ℕ) → size ≤ 10000 → (batch : List Op) → batch ≡ map added (generated size) → (axioms : List Noted) → axioms ≡ applied [] batch → axioms ≡ generated size
additions_are are size small batch is axioms e = e ∙ ap (applied []) is ∙ are size small

-- an axiom that is added, seen as an axiom
pub of_additions : (axioms : List Noted) → map (λ (op : Op). op.noted) (map added axioms) ≡ axioms
of_additions [] = refl
of_additions (a ∷ axioms) = ap (λ rest. a ∷ rest) (of_additions axioms)

-- where no limit is passed, none is
pub not_passed : (o : Option Passed) (p : Passed) → o ≡ None → o ≡ Some p → ⊥
not_passed o p none some = cc
