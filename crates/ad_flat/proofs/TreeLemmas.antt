-- Slots name the axioms that they hold, and numbers their entities.
use Rattle.std.proofs.Common.{◌≡◌, ℕ, ◌==◌, Bool, true, false, ◌&&◌, IsTrue, List, [], ◌∷◌, Option, None, Some, is_some, IsSome, refl, sym, ap, ◌∙◌, subst, inl, inr, eqb-true, eq-eqb}
use Rattle.std.specs.List.{AllZip, Contains, filter, list_any, zip}
use Rattle.ad_base.specs.declared.limits.Side.{Side}
use Rattle.ad_entity.specs.Entities.{same_entity}
use Rattle.ad_entity.specs.declared.entities.Entity.{Entity}
use Rattle.ad_locality.specs.Signature.{occurrences, in_signature}
use Rattle.ad_locality.specs.Locality.{local}
use Rattle.ad_tree.specs.declared.axioms.Noted.{Noted}
use Rattle.ad_tree.proofs.Equality.{noted_eq, noted_eq-is}
use Rattle.ad_theory.specs.Numbers.{among, logic_of}
use Rattle.ad_theory.proofs.Members.{Has, either, not_both, or_cases, and_intro, and_left, and_right, has_of_contains, contains_of_has, any_of_has, has_of_any}
use Rattle.ad_syntax_laws.specs.OntologyLogic.{axiom_logic}
use Rattle.ad_syntax_laws.proofs.EntityLemmas.{same_entity_is, same_entity_refl}
use Rattle.ad_syntax_laws.proofs.LocalityLemmas.{antitone}
use Rattle.ad_cells.specs.Codes.{is_local_code}
use Rattle.ad_codes.specs.Encoded.{test_of}
use Rattle.ad_codes.specs.Laws.{is_seen, number_list, CodesAreTrees}
use Rattle.ad_slots.specs.Held.{Held}
use Rattle.ad_slots.specs.Places.{is_held, symbols_at, held_symbols, is_local_at, is_held_local}
use Rattle.ad_flat.specs.Holds.{Holds}
use Rattle.ad_flat.specs.Trees.{ArePlaced, in_signatures, axioms_where}
use Rattle.ad_flat.proofs.CarryLemmas.{IsImage, IsAlong, IsOneToOne}
use Rattle.ad_flat.proofs.NumberLemmas.{at_number, number_there, entity_of, number_among}

seen_out : (S : ℕ → Bool) (o : Option ℕ) → IsTrue (is_seen S o) → (n : ℕ) × (o ≡ Some n) × IsTrue (S n)
seen_out S None t = absurd (not_both t refl)
seen_out S (Some n) t = (n, refl, t)

-- the places and the axioms beside them
module _ (R : ℕ → Noted → Type 0) where
  pub pair_holds : (places : List ℕ) (axioms : List Noted) → AllZip R places axioms → (i : ℕ) (a : Noted) → Has (zip places axioms) (i, a) → R i a
  pair_holds [] axioms all i a has = absurd has
  pair_holds (p ∷ places) [] all i a has = absurd has
  pair_holds (p ∷ places) (x ∷ axioms) all i a (inl e) = let q : i ≡ p = ap (λ z. z.0) e in let r : a ≡ x = ap (λ z. z.1) e in subst (λ z. R z a) (sym q) (subst (λ z. R p z) (sym r) all.0)
  pair_holds (p ∷ places) (x ∷ axioms) all i a (inr h) = pair_holds places axioms all.1 i a h

  pub pair_of_place : (places : List ℕ) (axioms : List Noted) → AllZip R places axioms → (i : ℕ) → IsTrue (among places i) → (a : Noted) × Has (zip places axioms) (i, a)
  pair_of_place [] axioms all i t = absurd (not_both t refl)
  pair_of_place (p ∷ places) [] all i t = absurd all
  pair_of_place (p ∷ places) (x ∷ axioms) all i t = elim (or_cases (p == i) (among places i) t) [
    | inl q ↦ (x, inl (ap (λ k. (k, x)) (sym (eqb-true p i q))))
    | inr h ↦ (let r = pair_of_place places axioms all.1 i h in (r.0, inr r.1))
  ]

  pub pair_of_axiom : (places : List ℕ) (axioms : List Noted) → AllZip R places axioms → (a : Noted) → Has axioms a → (i : ℕ) × Has (zip places axioms) (i, a)
  pair_of_axiom [] [] all a has = absurd has
  pair_of_axiom [] (x ∷ axioms) all a has = absurd all
  pair_of_axiom (p ∷ places) [] all a has = absurd has
  pair_of_axiom (p ∷ places) (x ∷ axioms) all a (inl e) = (p, inl (ap (λ z. (p, z)) e))
  pair_of_axiom (p ∷ places) (x ∷ axioms) all a (inr h) = let r = pair_of_axiom places axioms all.1 a h in (r.0, inr r.1)

  pub axiom_of_pair : (places : List ℕ) (axioms : List Noted) → AllZip R places axioms → (i : ℕ) (a : Noted) → Has (zip places axioms) (i, a) → Has axioms a
  axiom_of_pair [] axioms all i a has = absurd has
  axiom_of_pair (p ∷ places) [] all i a has = absurd has
  axiom_of_pair (p ∷ places) (x ∷ axioms) all i a (inl e) = inl (ap (λ z. z.1) e)
  axiom_of_pair (p ∷ places) (x ∷ axioms) all i a (inr h) = inr (axiom_of_pair places axioms all.1 i a h)

  -- the axioms of a set of places are those that pass a test, where the two agree
  pub where_filter : (M : ℕ → Bool) (test : Noted → Bool) (places : List ℕ) (axioms : List Noted) → AllZip R places axioms
      → ((i : ℕ) (a : Noted) → Has (zip places axioms) (i, a) → test a ≡ M i) → axioms_where M places axioms ≡ filter test axioms
  where_filter M test [] [] all same = refl
  where_filter M test [] (x ∷ axioms) all same = absurd all
  where_filter M test (p ∷ places) [] all same = absurd all
  where_filter M test (p ∷ places) (x ∷ axioms) all same =
      let rest : axioms_where M places axioms ≡ filter test axioms = where_filter M test places axioms all.1 (λ i a h. same i a (inr h)) in
      let here : test x ≡ M p = same p x (inl refl) in
      elim (either (M p)) [
        | inl t ↦ (let u : test x ≡ true = here ∙ t in rw (t, u) (ap (λ l. x ∷ l) rest))
        | inr f ↦ (let u : test x ≡ false = here ∙ f in rw (f, u) rest)
      ]

module _ (number : Entity → Option ℕ) (slots : List (Option Held)) (places : List ℕ) (axioms : List Noted) (placed : ArePlaced number slots places axioms) where
  -- the axiom has its place in this slot
  abbrev pub names : ℕ → Noted → Type 0
  names i a = Has (zip places axioms) (i, a)

  -- the number is that of an entity in the axioms' signatures
  abbrev pub means : ℕ → Entity → Type 0
  means n e = IsTrue (in_signatures axioms e) × (number e ≡ Some n)

  abbrev pub up : (ℕ → Bool) → Noted → Bool
  up M a = list_any (λ p. M p.0 && noted_eq p.1 a) (zip places axioms)

  abbrev pub down : (Noted → Bool) → ℕ → Bool
  down N i = list_any (λ p. N p.1 && p.0 == i) (zip places axioms)

  abbrev pub to : (ℕ → Bool) → Entity → Bool
  to S e = in_signatures axioms e && is_seen S (number e)

  abbrev pub fro : (Entity → Bool) → ℕ → Bool
  fro T n = list_any (λ a. list_any (λ e. T e && among (number_list (number e)) n) (occurrences a.axiom)) axioms

  pub ups : IsImage names up
  ups = record {
    out = λ M a t.
        let r = has_of_any (λ p. M p.0 && noted_eq p.1 a) (zip places axioms) t in
        (r.0.0, subst (λ z. Has (zip places axioms) (r.0.0, z)) ((noted_eq-is r.0.1 a).0 (and_right (M r.0.0) (noted_eq r.0.1 a) r.2)) r.1, and_left (M r.0.0) (noted_eq r.0.1 a) r.2);
    into = λ M i a h t. any_of_has (λ p. M p.0 && noted_eq p.1 a) (zip places axioms) (i, a) h (and_intro (M i) (noted_eq a a) t ((noted_eq-is a a).1 refl));
  }

  pub downs : IsImage (λ a i. names i a) down
  downs = record {
    out = λ N i t.
        let r = has_of_any (λ p. N p.1 && p.0 == i) (zip places axioms) t in
        (r.0.1, subst (λ z. Has (zip places axioms) (z, r.0.1)) (eqb-true r.0.0 i (and_right (N r.0.1) (r.0.0 == i) r.2)) r.1, and_left (N r.0.1) (r.0.0 == i) r.2);
    into = λ N a i h t. any_of_has (λ p. N p.1 && p.0 == i) (zip places axioms) (i, a) h (and_intro (N a) (i == i) t (eq-eqb i i refl));
  }

  pub tos : IsImage means to
  tos = record {
    out = λ S e t.
        let r = seen_out S (number e) (and_right (in_signatures axioms e) (is_seen S (number e)) t) in
        (r.0, (and_left (in_signatures axioms e) (is_seen S (number e)) t, r.1), r.2);
    into = λ S n e h t. and_intro (in_signatures axioms e) (is_seen S (number e)) h.0 (subst (λ o. IsTrue (is_seen S o)) (sym h.1) t);
  }

  fro_out : (T : Entity → Bool) (n : ℕ) → IsTrue (fro T n) → (e : Entity) × means n e × IsTrue (T e)
  fro_out T n t =
      let r = has_of_any (λ a. list_any (λ e. T e && among (number_list (number e)) n) (occurrences a.axiom)) axioms t in
      let x = has_of_any (λ e. T e && among (number_list (number e)) n) (occurrences r.0.axiom) r.2 in
      let there : IsTrue (in_signature r.0.axiom x.0) = any_of_has (λ z. same_entity z x.0) (occurrences r.0.axiom) x.0 x.1 (same_entity_refl x.0) in
      (x.0, (any_of_has (λ a. in_signature a.axiom x.0) axioms r.0 r.1 there, at_number number (number x.0) n (and_right (T x.0) (among (number_list (number x.0)) n) x.2)), and_left (T x.0) (among (number_list (number x.0)) n) x.2)

  fro_into : (T : Entity → Bool) (e : Entity) (n : ℕ) → means n e → IsTrue (T e) → IsTrue (fro T n)
  fro_into T e n h t =
      let r = has_of_any (λ a. in_signature a.axiom e) axioms h.0 in
      let x = has_of_any (λ z. same_entity z e) (occurrences r.0.axiom) r.2 in
      any_of_has (λ a. list_any (λ e. T e && among (number_list (number e)) n) (occurrences a.axiom)) axioms r.0 r.1
      (any_of_has (λ e. T e && among (number_list (number e)) n) (occurrences r.0.axiom) e (subst (λ z. Has (occurrences r.0.axiom) z) (same_entity_is x.0 e x.2) x.1)
      (and_intro (T e) (among (number_list (number e)) n) t (number_there number (number e) n h.1)))

  pub fros : IsImage (λ e n. means n e) fro
  fros = record { out = λ T n t. fro_out T n t; into = λ T e n h t. fro_into T e n h t }

  some_is : (n m : ℕ) → Some n ≡ Some m → n ≡ m
  some_is n m e = cc

  pub one_entity : IsOneToOne means
  one_entity = record {
    one = λ n e f g h. placed.one_to_one e f n g.0 h.0 g.1 h.1;
    once = λ n m e g h. some_is n m (sym g.1 ∙ h.1);
  }

  held_at : (i : ℕ) (a : Noted) → names i a → Holds number slots i a.axiom
  held_at i a h = pair_holds _ places axioms placed.held i a h

  some_value : (o : Option ℕ) → IsSome o → (n : ℕ) × (o ≡ Some n)
  some_value None s = absurd (not_both s refl)
  some_value (Some n) s = (n, refl)

  number_for : (e : Entity) → IsTrue (in_signatures axioms e) → (n : ℕ) × (number e ≡ Some n)
  number_for e t = some_value (number e) (placed.numbered e t)

  in_all : (i : ℕ) (a : Noted) (e : Entity) → names i a → IsTrue (in_signature a.axiom e) → IsTrue (in_signatures axioms e)
  in_all i a e h t = any_of_has (λ a. in_signature a.axiom e) axioms a (axiom_of_pair _ places axioms placed.held i a h) t

  module _ (trees : CodesAreTrees) (side : Side) where
    -- a slot is local where its axiom is for the entities that are seen
    local_at : (i : ℕ) (a : Noted) (S : ℕ → Bool) → Holds number slots i a.axiom → is_held_local slots side S i ≡ local side (λ e. is_seen S (number e)) a.axiom
    local_at i a S h =
        ap (is_local_at side S) h.1
        ∙ ap (λ t. is_local_code side S t h.0.code) h.2.test
        ∙ ap (λ c. is_local_code side S (test_of a.axiom) c) h.2.code
        ∙ trees number side S a.axiom

    pub along : IsAlong (logic_of (held_symbols slots) (is_held_local slots side)) (axiom_logic side) names means
    along = record {
      sig_to = λ i a n h t.
          let o = held_at i a h in
          let r = entity_of number (occurrences a.axiom) n (sym (o.2.symbols n) ∙ subst (λ s. IsTrue (among (symbols_at s) n)) o.1 t) in
          (r.0, (in_all i a r.0 h r.1, r.2), r.1);
      sig_from = λ i a e h t.
          let o = held_at i a h in
          let r = number_for e (in_all i a e h t) in
          (r.0, (in_all i a e h t, r.1), subst (λ s. IsTrue (among (symbols_at s) r.0)) (sym o.1) (o.2.symbols r.0 ∙ number_among number (occurrences a.axiom) e r.0 t r.1));
      local_to = λ i a S T h less l.
          (antitone side).shrinks T (λ e. is_seen S (number e)) a
          (λ e s t. let r = number_for e (in_all i a e h s) in subst (λ o. IsTrue (is_seen S o)) (sym r.1) (less r.0 e (in_all i a e h s, r.1) t))
          (sym (local_at i a S (held_at i a h)) ∙ l);
      local_from = λ i a S T h less l.
          local_at i a S (held_at i a h) ∙ (antitone side).shrinks (λ e. is_seen S (number e)) T a
          (λ e s t. let r = seen_out S (number e) t in less r.0 e (in_all i a e h s, r.1) r.2) l;
    }

  -- the slots that hold axioms, and these axioms
  pub kept : (i : ℕ) (a : Noted) → names i a → IsTrue (is_held slots i) → Contains axioms a
  kept i a h t = contains_of_has axioms a (axiom_of_pair _ places axioms placed.held i a h)

  pub kept_back : (i : ℕ) (a : Noted) → names i a → Contains axioms a → IsTrue (is_held slots i)
  kept_back i a h c = subst (λ o. IsTrue (is_some o)) (sym (held_at i a h).1) refl

  pub covered : (i : ℕ) → IsTrue (is_held slots i) → (a : Noted) × names i a
  covered i t = pair_of_place _ places axioms placed.held i (placed.live i t)

  pub named : (a : Noted) → Contains axioms a → (i : ℕ) × names i a
  named a c = pair_of_axiom _ places axioms placed.held a (has_of_contains axioms a c)

  pub listed : (M : ℕ → Bool) → ((i : ℕ) (a : Noted) → names i a → IsTrue (up M a) → IsTrue (M i)) → axioms_where M places axioms ≡ filter (up M) axioms
  listed M whole = where_filter _ M (up M) places axioms placed.held (λ i a h.
      elim (either (M i)) [
        | inl t ↦ ups.into M i a h t ∙ sym t
        | inr f ↦ elim (either (up M a)) [
          | inl t ↦ absurd (not_both (whole i a h t) f)
          | inr g ↦ g ∙ sym f
        ]
      ])
