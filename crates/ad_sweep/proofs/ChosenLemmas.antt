-- The marked axioms one by one, and the module that they are at the end of a sweep.
use Rattle.std.proofs.Common.{◌≡◌, ℕ, ◌+◌, ◌<◌, Bool, true, false, cond, List, [], ◌∷◌, ◌++◌, length, get_or, map, drop, replicate, refl, sym, ap, subst, ◌∙◌}
use Rattle.std.proofs.lemmas.List.{drop_more, append_assoc, length-map}
use Rattle.ad_base.specs.declared.limits.Side.{Side}
use Rattle.ad_base.specs.declared.limits.Side.TheVariants as sides
use Rattle.ad_base.specs.Kinds.{kind_of}
use Rattle.ad_tree.specs.declared.axioms.Noted.{Noted}
use Rattle.ad_entity.specs.declared.entities.Entity.{Entity}
use Rattle.ad_tree.proofs.Equality.{noted_eq, noted_eq-is}
use Rattle.ad_theory.specs.Listed.{IsListedModule}
use Rattle.ad_theory.specs.Sweep.{IsSweeping, IsSettledBelow, chosen}
use Rattle.ad_theory.proofs.SweepLemmas.{begins, ends}
use Rattle.ad_syntax_laws.specs.OntologyLogic.{axiom_logic}
use Rattle.ad_syntax_laws.specs.OntologyModule.{IsModuleOf, logical}
use Rattle.ad_sweep.specs.Swept.{IsSwept}
use Rattle.ad_sweep.proofs.CarriedLemmas.{logical_module}

chosen_first : (b : Bool) (bs : List Bool) (a : Noted) (O : List Noted) → chosen (b ∷ bs) (a ∷ O) ≡ cond b (a ∷ []) [] ++ chosen bs O
chosen_first true bs a O = refl
chosen_first false bs a O = refl

-- the next marked axiom comes in
pub chosen_more : {X : Type 0} (lent : X → Noted) (found : List Noted) (marks : List Bool) (owners : List X) (k : ℕ) (b : Bool) (x : X) (a : Noted)
    → k < length marks → k < length owners → b ≡ get_or marks k b → x ≡ get_or owners k x → a ≡ lent x
    → (found ++ cond b (a ∷ []) []) ++ chosen (drop (k + 1) marks) (map lent (drop (k + 1) owners)) ≡ found ++ chosen (drop k marks) (map lent (drop k owners))
chosen_more lent found marks owners k b x a in_marks in_owners mark at is =
    append_assoc found (cond b (a ∷ []) []) (chosen (drop (k + 1) marks) (map lent (drop (k + 1) owners)))
    ∙ ap (λ l. found ++ l) (sym (
    ap (λ l. chosen l (map lent (drop k owners))) (drop_more marks k b in_marks ∙ ap (λ y. y ∷ drop (k + 1) marks) (sym mark))
    ∙ ap (λ l. chosen (b ∷ drop (k + 1) marks) (map lent l)) (drop_more owners k x in_owners ∙ ap (λ y. y ∷ drop (k + 1) owners) (sym at))
    ∙ ap (λ y. chosen (b ∷ drop (k + 1) marks) (y ∷ map lent (drop (k + 1) owners))) (sym is)
    ∙ chosen_first b (drop (k + 1) marks) a (map lent (drop (k + 1) owners))))

-- a sweep begins
pub sweep_begins : {X : Type 0} (lent : X → Noted) (side : Side) (seed : Entity → Bool) (owners : List X) (marks : List Bool) (seen : Entity → Bool)
    → marks ≡ replicate (length owners) false → ((e : Entity) → seen e ≡ seed e) → IsSweeping (axiom_logic side) seed (map lent owners) marks seen
sweep_begins lent side seed owners marks seen none names =
    subst (λ l. IsSweeping (axiom_logic side) seed (map lent owners) l seen) (ap (λ n. replicate n false) (length-map owners lent) ∙ sym none)
    (begins (axiom_logic side) seed (map lent owners) seen (λ e. ((λ h. sym (names e) ∙ h), (λ h. names e ∙ h))))

-- the module of a side is that of the side's kind
by_side : (side : Side) (seed : Entity → Bool) (O M : List Noted) → IsListedModule (axiom_logic side) seed (logical O) M → IsModuleOf (kind_of side) seed O M
by_side sides.Bottom seed O M m = m
by_side sides.Top seed O M m = m

-- and ends with the module
pub chosen_is_module : (side : Side) (seed : Entity → Bool) (O : List Noted) (marks : List Bool) (seen : Entity → Bool)
    → IsSwept side seed O marks seen → IsModuleOf (kind_of side) seed O (chosen marks O)
chosen_is_module side seed O marks seen swept =
    by_side side seed O (chosen marks O) (logical_module side seed O (chosen marks O) (ends (axiom_logic side) seed noted_eq noted_eq-is O marks seen swept.sweeping swept.settled))

-- what a sweep has when a round adds no more
pub sweep_ends : {X : Type 0} (lent : X → Noted) (side : Side) (seed : Entity → Bool) (owners : List X) (marks : List Bool) (seen : Entity → Bool)
    → IsSweeping (axiom_logic side) seed (map lent owners) marks seen
    → IsSettledBelow (axiom_logic side) (map lent owners) marks seen (length owners) → IsSwept side seed (map lent owners) marks seen
sweep_ends lent side seed owners marks seen stands settled = record {
  sweeping = stands;
  settled = subst (λ n. IsSettledBelow (axiom_logic side) (map lent owners) marks seen n) (sym (length-map owners lent)) settled;
}
