-- What a module over slots says of the axioms in them, and of their entities.
use Rattle.std.proofs.Common.{◌≡◌, ℕ, Bool, true, false, ◌||◌, ◌⊎◌, IsTrue, IsFalse, List, Option, None, Some, IsSome, refl, sym, ◌∙◌, subst, inl, inr}
use Rattle.std.specs.List.{Contains, filter, list_any}
use Rattle.std.specs.Cmp.{both_ways}
use Rattle.ad_base.specs.declared.limits.Kind.{Kind}
use Rattle.ad_base.specs.declared.limits.Kind.TheVariants.{Bottom, Top, Star}
use Rattle.ad_base.specs.declared.limits.Side.{Side}
use Rattle.ad_base.specs.declared.limits.Side.TheVariants as sides
use Rattle.ad_entity.specs.declared.entities.Entity.{Entity}
use Rattle.ad_locality.specs.Signature.{in_signature}
use Rattle.ad_tree.specs.Same.{same_axiom}
use Rattle.ad_tree.specs.declared.axioms.Noted.{Noted}
use Rattle.ad_tree.proofs.Equality.{noted_eq-is}
use Rattle.ad_theory.specs.Module.{IsClosure, IsModule, Logic}
use Rattle.ad_theory.specs.Numbers.{logic_of, IsNumberedModule}
use Rattle.ad_theory.proofs.Members.{Has, either, or_left, or_right, or_cases, any_of_has, has_of_any, has_filter, filter_has, any_same, same_any}
use Rattle.ad_syntax_laws.specs.OntologyLogic.{axiom_logic}
use Rattle.ad_syntax_laws.specs.ModuleDocument.{entities_about, stands_in}
use Rattle.ad_codes.proofs.AxiomLemmas.{code_local}
use Rattle.ad_slots.specs.Held.{Held}
use Rattle.ad_slots.specs.Places.{is_held, held_symbols, is_held_local}
use Rattle.ad_flat.specs.Trees.{ArePlaced, IsSameSeed, axioms_where, in_signatures}
use Rattle.ad_flat.proofs.CarryLemmas.{IsAlong, IsNaming, module_whole, star_whole}
use Rattle.ad_flat.proofs.TreeLemmas.{names, means, up, down, to, fro, ups, downs, tos, fros, one_entity, along, kept, kept_back, covered, named, listed, axiom_of_pair}

-- the closure of a module is the seed with what stands in the module's signatures
module_closure : {A E : Type 0} {L : Logic A E} {seed : E → Bool} {O : A → Type 0} {M : A → Bool} {S : E → Bool} → IsModule L seed O M S → IsClosure L seed M S
module_closure m e = (m.only e, elim [ inl s ↦ m.closed.has_seed e s | inr r ↦ m.closed.has_symbols r.0 e r.1 r.2 ])

pub or_false : (a b : Bool) → IsFalse b → a ≡ (a || b)
or_false true b f = refl
or_false false b f = sym f

module _ (number : Entity → Option ℕ) (slots : List (Option Held)) (places : List ℕ) (axioms : List Noted) (placed : ArePlaced number slots places axioms)
    (wanted : Entity → Bool) (seed : ℕ → Bool) (same : IsSameSeed number axioms wanted seed) where
  abbrev slot_logic : Side → Logic ℕ ℕ
  slot_logic side = logic_of (held_symbols slots) (is_held_local slots side)

  naming : IsNaming (names number slots places axioms placed) (means number slots places axioms placed)
      (up number slots places axioms placed) (down number slots places axioms placed) (to number slots places axioms placed) (fro number slots places axioms placed)
      seed wanted (λ i. IsTrue (is_held slots i)) (Contains axioms)
  naming = record {
    ups = ups number slots places axioms placed;
    downs = downs number slots places axioms placed;
    tos = tos number slots places axioms placed;
    fros = fros number slots places axioms placed;
    one_meaning = one_entity number slots places axioms placed;
    same = λ n e h. sym (same e n h.0 h.1);
    keeps = kept number slots places axioms placed;
    keeps_back = kept_back number slots places axioms placed;
    covers = covered number slots places axioms placed;
    named = named number slots places axioms placed;
  }

  agree : (side : Side) → IsAlong (slot_logic side) (axiom_logic side) (names number slots places axioms placed) (means number slots places axioms placed)
  agree side = along number slots places axioms placed (λ number side seen. code_local side seen number) side

  -- an axiom that is in the module by some slot is in it by each of its slots
  member_whole : (kind : Kind) (M S : ℕ → Bool) → IsNumberedModule kind (held_symbols slots) (is_held_local slots) seed (λ i. IsTrue (is_held slots i)) M S
      → (i : ℕ) (a : Noted) → names number slots places axioms placed i a → IsTrue (up number slots places axioms placed M a) → IsTrue (M i)
  member_whole Bottom M S m = module_whole naming (slot_logic sides.Bottom) (axiom_logic sides.Bottom) (agree sides.Bottom) M S m
  member_whole Top M S m = module_whole naming (slot_logic sides.Top) (axiom_logic sides.Top) (agree sides.Top) M S m
  member_whole Star M S m = star_whole naming (agree sides.Bottom) (agree sides.Top) M m.0

  member_live : (kind : Kind) (M S : ℕ → Bool) → IsNumberedModule kind (held_symbols slots) (is_held_local slots) seed (λ i. IsTrue (is_held slots i)) M S
      → (i : ℕ) → IsTrue (M i) → IsTrue (is_held slots i)
  member_live Bottom M S m i t = m.within i t
  member_live Top M S m i t = m.within i t
  member_live Star M S m i t = m.0.within i t

  closure_of : (kind : Kind) (M S : ℕ → Bool) → IsNumberedModule kind (held_symbols slots) (is_held_local slots) seed (λ i. IsTrue (is_held slots i)) M S
      → IsClosure (slot_logic sides.Bottom) seed M S
  closure_of Bottom M S m = module_closure m
  closure_of Top M S m = module_closure m
  closure_of Star M S m = m.1

  module _ (kind : Kind) (M S : ℕ → Bool) (m : IsNumberedModule kind (held_symbols slots) (is_held_local slots) seed (λ i. IsTrue (is_held slots i)) M S) where
    -- the axioms of the module
    abbrev pub found : List Noted
    found = axioms_where M places axioms

    passed : found ≡ filter (up number slots places axioms placed M) axioms
    passed = listed number slots places axioms placed M (member_whole kind M S m)

    in_found : (i : ℕ) (a : Noted) → names number slots places axioms placed i a → IsTrue (M i) → Has found a
    in_found i a h t = subst (λ l. Has l a) (sym passed)
        (has_filter (up number slots places axioms placed M) axioms a (axiom_of_pair _ places axioms placed.held i a h) ((ups number slots places axioms placed).into M i a h t))

    found_in : (a : Noted) → Has found a → Has axioms a × IsTrue (up number slots places axioms placed M a)
    found_in a h = filter_has (up number slots places axioms placed M) axioms a (subst (λ l. Has l a) passed h)

    -- the axiom in a slot is in the module where the slot is a member
    pub member_is : (i : ℕ) (a : Noted) → names number slots places axioms placed i a → M i ≡ stands_in found a
    member_is i a h = both_ways (M i) (stands_in found a)
        (λ t. same_any same_axiom noted_eq-is found a (in_found i a h t))
        (λ t. member_whole kind M S m i a h (found_in a (any_same same_axiom noted_eq-is found a t)).1)

    -- an axiom that isn't there is not in the module
    pub found_there : (a : Noted) → IsTrue (stands_in found a) → Has axioms a
    found_there a t = (found_in a (any_same same_axiom noted_eq-is found a t)).0

    -- the entities in the signatures of the module's axioms
    abbrev reached : Entity → Bool
    reached e = list_any (λ a. in_signature a.axiom e) found

    reached_there : (e : Entity) → IsTrue (reached e) → IsTrue (in_signatures axioms e)
    reached_there e t =
        let r = has_of_any (λ a. in_signature a.axiom e) found t in
        any_of_has (λ a. in_signature a.axiom e) axioms r.0 (found_in r.0 r.1).0 r.2

    to_closure : (e : Entity) (n : ℕ) → number e ≡ Some n → IsTrue (reached e) → IsTrue (S n)
    to_closure e n is t =
        let r = has_of_any (λ a. in_signature a.axiom e) found t in
        let u = (ups number slots places axioms placed).out M r.0 (found_in r.0 r.1).1 in
        let g = (agree sides.Bottom).sig_from u.0 r.0 e u.1 r.2 in
        let n_is : n ≡ g.0 = cc in
        (closure_of kind M S m n).1 (inr (u.0, u.2, subst (λ k. IsTrue ((slot_logic sides.Bottom).sig u.0 k)) (sym n_is) g.2))

    from_closure : (e : Entity) (n : ℕ) → number e ≡ Some n → IsTrue (in_signatures axioms e) → IsTrue (S n) → IsTrue (wanted e) ⊎ IsTrue (reached e)
    from_closure e n is there t = elim ((closure_of kind M S m n).0 t) [
      | inl s ↦ inl (same e n there is ∙ s)
      | inr r ↦ (
          let c = covered number slots places axioms placed r.0 (member_live kind M S m r.0 r.1) in
          let g = (agree sides.Bottom).sig_to r.0 c.0 n c.1 r.2 in
          let e_is : g.0 ≡ e = placed.one_to_one g.0 e n g.1.0 there g.1.1 is in
          inr (any_of_has (λ a. in_signature a.axiom e) found c.0 (in_found r.0 c.0 c.1 r.1) (subst (λ z. IsTrue (in_signature c.0.axiom z)) e_is g.2)))
    ]

    -- an entity with a number is one of the seed or in a signature of the module where its number is in the closure
    pub about_number : (e : Entity) (n : ℕ) → number e ≡ Some n → IsTrue (in_signatures axioms e) → S n ≡ entities_about wanted found e
    about_number e n is there = both_ways (S n) (entities_about wanted found e)
        (λ t. elim (from_closure e n is there t) [ inl s ↦ or_left (wanted e) (reached e) s | inr r ↦ or_right (wanted e) (reached e) r ])
        (λ t. elim (or_cases (wanted e) (reached e) t) [ inl s ↦ (closure_of kind M S m n).1 (inl (sym (same e n there is) ∙ s)) | inr r ↦ to_closure e n is r ])

    -- one without a number is where it is one of the seed
    pub about_none : (e : Entity) → number e ≡ None → wanted e ≡ entities_about wanted found e
    about_none e none = elim (either (reached e)) [
      | inl t ↦ (let some : IsSome (number e) = placed.numbered e (reached_there e t) in cc)
      | inr f ↦ or_false (wanted e) (reached e) f
    ]
