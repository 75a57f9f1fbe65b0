-- What tells of a test of closures, and how axioms go.
use Rattle.std.proofs.Common.{◌≡◌, ℕ, ◌+◌, ◌<◌, Bool, false, ◌||◌, List, [], ◌∷◌, ◌++◌, Option, None, Some, IfSome, length, get_or, take, refl, sym, ap, ◌∙◌, subst, inl, inr, arith}
use Rattle.std.specs.List.{list_any}
use Rattle.std.proofs.Math.ListN.{get_or-append}
use Rattle.std.proofs.Math.Seq.{get_or-append_seam}
use Rattle.std.proofs.lemmas.Bool.{cases_lt}
use Rattle.std.proofs.lemmas.List.{get_or_default, take_more}
use Rattle.std.proofs.lemmas.List.Folds.{list_any-append}
use Rattle.ad_entity.specs.declared.entities.EntityKind.{EntityKind}
use Rattle.ad_module_document.proofs.FoundLemmas.{or_false}
use Rattle.ad_numbered.specs.Numbered.{InSlots}
use Rattle.ad_syntax_laws.specs.ModuleDocument.{goes_with}
use Rattle.ad_tree.specs.declared.axioms.Noted.{Noted}
use Rattle.ad_split.specs.Going.{GoesAs, GoesAt, Tells}
use Rattle.ad_split.specs.Slots.{is_about, is_in_part}
use Rattle.ad_split.specs.declared.going.Going.{Going}
use Rattle.ad_split.specs.declared.going.Going.TheVariants.{Asked, Logical, Never, With}

-- what tells of a test tells of the same test
pub tells_same : (numbers : ℕ) (test other : (ℕ → Bool) → Bool) (going : Going) → ((closure : ℕ → Bool) → test closure ≡ other closure) → Tells numbers test going → Tells numbers other going
tells_same numbers test other going same tells =
    let path : test ≡ other = λ i. λ closure. same closure i in
    subst (λ t. Tells numbers t going) path tells

-- no number is in a closure
pub or_none : (numbers : ℕ) (test : (ℕ → Bool) → Bool) (going : Going) → Tells numbers test going → Tells numbers (λ closure. test closure || false) going
or_none numbers test going tells = tells_same numbers test (λ closure. test closure || false) going (λ closure. or_false (test closure) false refl) tells

-- one more kind
pub any_more : (p : EntityKind → Bool) (kinds : List EntityKind) (i : ℕ) (d : EntityKind) → i < length kinds → (list_any p (take i kinds) || p (get_or kinds i d)) ≡ list_any p (take (i + 1) kinds)
any_more p kinds i d within =
    ap (λ b. list_any p (take i kinds) || b) (or_false (p (get_or kinds i d)) false refl)
    ∙ sym (list_any-append p (take i kinds) (get_or kinds i d ∷ []))
    ∙ ap (list_any p) (sym (take_more kinds i d within))

-- where an axiom goes by a slot, it has that slot
pub by_slot : (ontology : InSlots) (a : Noted) (slot : Option ℕ) (i : ℕ) → GoesAs ontology a slot (Logical i)
    → (i < ontology.most) × ((members closure : ℕ → Bool) → is_in_part ontology members closure a slot ≡ members i)
by_slot ontology a None i goes = absurd goes
by_slot ontology a (Some slot) i goes = (subst (λ n. n < ontology.most) goes.0 goes.1, λ members closure. ap members goes.0)

-- one that goes with a number is carried, as is one that never goes or is to be asked
pub by_number : (ontology : InSlots) (a : Noted) (slot : Option ℕ) (n : ℕ) → GoesAs ontology a slot (With n)
    → (n < ontology.symbols) × ((members closure : ℕ → Bool) → is_in_part ontology members closure a slot ≡ closure n)
by_number ontology a None n goes = (goes.0, λ members closure. goes.1 closure)
by_number ontology a (Some slot) n goes = absurd goes

pub by_none : (ontology : InSlots) (a : Noted) (slot : Option ℕ) → GoesAs ontology a slot Never → (members closure : ℕ → Bool) → is_in_part ontology members closure a slot ≡ false
by_none ontology a None goes members closure = goes closure
by_none ontology a (Some slot) goes members closure = absurd goes

pub by_text : (ontology : InSlots) (a : Noted) (slot : Option ℕ) → GoesAs ontology a slot Asked → (members closure : ℕ → Bool) → is_in_part ontology members closure a slot ≡ goes_with (is_about ontology closure) a.axiom
by_text ontology a None goes members closure = refl
by_text ontology a (Some slot) goes members closure = absurd goes

-- a number that an entity has is one of so many
pub number_below : (numbers : ℕ) (o : Option ℕ) → ((n : ℕ) → o ≡ Some n → n < numbers) → IfSome o (λ n. n < numbers)
number_below numbers None below = tt
number_below numbers (Some n) below = below n refl

-- how one more axiom goes
pub goes_more : (ontology : InSlots) (going : List Going) (i : ℕ) (noted : Noted) (one : Going) → length going ≡ i → i < length ontology.axioms → noted ≡ get_or ontology.axioms i noted
    → GoesAs ontology noted (get_or ontology.slots i None) one → ((place : ℕ) → place < i → GoesAt ontology place (get_or going place Never))
    → (place : ℕ) → place < i + 1 → GoesAt ontology place (get_or (going ++ one ∷ []) place Never)
goes_more ontology going i noted one long within at goes so_far place below a a_at = elim (cases_lt place i) [
  | inl l ↦ subst (λ g. GoesAs ontology a (get_or ontology.slots place None) g) (sym (get_or-append going (one ∷ []) Never place (omega arith))) (so_far place l a a_at)
  | inr n ↦ (
      let here : place ≡ i = omega arith in
      let last : get_or (going ++ one ∷ []) place Never ≡ one =
      ap (λ k. get_or (going ++ one ∷ []) k Never) (here ∙ sym long) ∙ get_or-append_seam going one [] Never in
      let same : noted ≡ a = at ∙ get_or_default ontology.axioms i noted a within ∙ ap (λ k. get_or ontology.axioms k a) (sym here) ∙ sym a_at in
      subst (λ g. GoesAs ontology a (get_or ontology.slots place None) g) (sym last)
      (subst (λ k. GoesAs ontology a (get_or ontology.slots k None) one) (sym here)
      (subst (λ b. GoesAs ontology b (get_or ontology.slots i None) one) same goes)))
]
