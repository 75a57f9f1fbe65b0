-- What holds of an ontology whose entities were entered and whose axioms were placed.
use Rattle.std.proofs.Common.{◌≡◌, ◌||◌, ◌<◌, ◌≤◌, ◌↔◌, ℕ, zero, suc, Bool, IsTrue, IsFalse, List, [], ◌∷◌, length, Option, None, Some, nat_eq, refl, sym, ap, ◌∙◌, subst, inl, inr, arith}
use Rattle.std.specs.Prelude.{is_some, slice_index_or, slice_get}
use Rattle.std.specs.List.{AllZip, IsDistinct}
use Rattle.std.proofs.lemmas.List.Folds.{list_any-append}
use Rattle.ad_base.specs.Limits.{AreWithinStandard}
use Rattle.ad_base.specs.declared.limits.Limits.{Limits}
use Rattle.ad_theory.specs.Numbers.{among}
use Rattle.ad_theory.proofs.Members.{either, not_both}
use Rattle.ad_entity.specs.Entities.{has_entity, same_entity}
use Rattle.ad_entity.specs.declared.entities.Entity.{Entity}
use Rattle.ad_locality.specs.Signature.{occurrences, in_signature}
use Rattle.ad_tree.specs.declared.axioms.Noted.{Noted}
use Rattle.ad_syntax_laws.specs.OntologyModule.{is_logical_axiom, logical}
use Rattle.ad_syntax_laws.proofs.EntityLemmas.{same_entity_is}
use Rattle.ad_signature.specs.Firsts.{signature_of}
use Rattle.ad_signature.specs.Numbering.{number_in}
use Rattle.ad_signature.specs.declared.numbers.EntityNumbers.{EntityNumbers}
use Rattle.ad_signature.specs.declared.symbols.Symbols.{Symbols}
use Rattle.ad_signature.proofs.SignatureLemmas.{has_firsts}
use Rattle.ad_slots.specs.Places.{is_held}
use Rattle.ad_flat.specs.Trees.{in_signatures}
use Rattle.ad_flat.specs.Universes.{held_in, most_in, symbols_in}
use Rattle.ad_flat.specs.declared.flat.FlatUniverse.{FlatUniverse}
use Rattle.ad_numbered.specs.Making.{AreEntered, AreInOrder}
use Rattle.ad_numbered.specs.Numbered.{signatures, entities_of, in_slots, given, InSlots, number_of, IsNumbered}
use Rattle.ad_numbered.proofs.ListLemmas.{range_among, range_distinct}

-- an entity stands in the signatures where it is in one of them
pub has_signatures : (axioms : List Noted) (e : Entity) → has_entity (signatures axioms) e ≡ in_signatures axioms e
has_signatures [] e = refl
has_signatures (a ∷ axioms) e =
    list_any-append (λ x. same_entity x e) (signature_of a.axiom) (signatures axioms)
    ∙ ap (λ b. b || has_entity (signatures axioms) e) (has_firsts (occurrences a.axiom) e)
    ∙ ap (λ b. in_signature a.axiom e || b) (has_signatures axioms e)

-- just the entities in the signatures have numbers
pub named_just : (axioms : List Noted) (names : EntityNumbers) → AreEntered (signatures axioms) names → (e : Entity) → is_some (number_in names e) ≡ in_signatures axioms e
named_just axioms names entered e = entered.named e ∙ has_signatures axioms e

none_or_some : (o : Option ℕ) (b : Bool) → is_some o ≡ b → (o ≡ None) ↔ IsFalse b
none_or_some None b e = ((λ _. sym e), (λ _. refl))
none_or_some (Some n) b e = ((λ n. cc), (λ f. absurd (not_both (sym e) f)))

-- entities that were entered and axioms that were placed make a numbered ontology
module _ (axioms : List Noted) (slots : List (Option ℕ)) (symbols : Symbols) (universe : FlatUniverse)
    (entered : AreEntered (signatures (logical axioms)) symbols.names) (order : AreInOrder (number_in symbols.names) axioms slots (held_in universe)) where
  live_given : (i : ℕ) → IsTrue (is_held (held_in universe) i) → IsTrue (among (given slots) i)
  live_given i t =
      let l : i < length (logical axioms) = order.live i t in
      subst (λ g. IsTrue (among g i)) (sym order.rising) (range_among 0 (length (logical axioms)) i (omega arith) (omega arith))

  few_entered : length (entities_of (logical axioms)) ≤ symbols.limit
  few_entered = omega (arith, entered.counted, symbols.counted, symbols.within)

  pub numbered : (limits : Limits) → AreWithinStandard limits → symbols.limit ≡ limits.entities → symbols_in universe ≡ limits.entities → most_in universe ≡ limits.axioms
      → length (logical axioms) ≤ limits.axioms → IsNumbered (in_slots axioms slots symbols.names universe)
  numbered limits standard limit numbers most few = record {
    slotted = order.slotted;
    placed = record {
      held = order.holding;
      live = live_given;
      numbered = λ e t. named_just (logical axioms) symbols.names entered e ∙ t;
      one_to_one = λ e f n t u g h. same_entity_is e f (symbols.one_to_one e f n g h);
    };
    apart = subst (IsDistinct nat_eq) (sym order.rising) (range_distinct 0 (length (logical axioms)));
    only = λ e s. sym (named_just (logical axioms) symbols.names entered e) ∙ s;
    counted = entered.counted;
    below = λ e n h. let l : n < symbols.next = symbols.below e n h in omega (arith, symbols.within, limit, numbers);
    few_slots = omega (arith, most, standard.axioms);
    few_symbols = omega (arith, numbers, standard.entities);
    within = omega (arith, most, few);
    entities_within = omega (arith, few_entered, limit, numbers);
  }

-- an entity has no number where it is in no signature
pub none_where : (ontology : InSlots) → IsNumbered ontology → (e : Entity) → (number_of ontology e ≡ None) ↔ IsFalse (in_signatures (logical ontology.axioms) e)
none_where ontology is e = none_or_some (number_of ontology e) (in_signatures (logical ontology.axioms) e) (
    elim (either (in_signatures (logical ontology.axioms) e)) [
      | inl t ↦ is.placed.numbered e t ∙ sym t
      | inr f ↦ elim (either (is_some (number_of ontology e))) [
        | inl s ↦ absurd (not_both (is.only e s) f)
        | inr n ↦ n ∙ sym f
      ]
    ])

-- a logical axiom has a slot
pub slotted_at : (axioms : List Noted) (slots : List (Option ℕ)) → AllZip (λ a slot. is_some slot ≡ is_logical_axiom a) axioms slots
    → (i : ℕ) (a : Noted) → slice_get axioms i ≡ Some a → is_some (slice_index_or slots i None) ≡ is_logical_axiom a
slotted_at [] [] all i a at = cc
slotted_at [] (slot ∷ slots) all i a at = absurd all
slotted_at (x ∷ axioms) [] all i a at = absurd all
slotted_at (x ∷ axioms) (slot ∷ slots) all zero a at = let e : x ≡ a = cc in all.0 ∙ ap is_logical_axiom e
slotted_at (x ∷ axioms) (slot ∷ slots) all (suc i) a at = slotted_at axioms slots all.1 i a at

pub as_many_slots : (axioms : List Noted) (slots : List (Option ℕ)) → AllZip (λ a slot. is_some slot ≡ is_logical_axiom a) axioms slots → length slots ≡ length axioms
as_many_slots [] [] all = refl
as_many_slots [] (slot ∷ slots) all = absurd all
as_many_slots (x ∷ axioms) [] all = absurd all
as_many_slots (x ∷ axioms) (slot ∷ slots) all = ap suc (as_many_slots axioms slots all.1)
