-- The text of the parts by slots is the text of the ontology's parts.
use Rattle.std.proofs.Common.{◌≡◌, ℕ, ◌+◌, Bool, false, ◌&&◌, ◌||◌, IsTrue, IsFalse, List, [], ◌∷◌, ◌++◌, ◌<◌, None, Some, IsSome, get_or, length, map, refl, sym, ap, ◌∙◌, subst, inl, inr, arith}
use Rattle.std.specs.Cmp.{both_ways}
use Rattle.std.specs.List.{filter, flat_map, list_any, range_with_len, zip}
use Rattle.std.proofs.lemmas.List.{get_or_default, length-map}
use Rattle.std.proofs.lemmas.Slice.Zip.{AllZip-long, firsts-zip, get_or-zip, length-zip, seconds-zip}
use Rattle.ad_base.specs.declared.limits.Side.TheVariants as sides
use Rattle.ad_codes.proofs.AxiomLemmas.{code_local}
use Rattle.ad_decomposition.specs.Atoms.{firsts, in_atoms, same_module}
use Rattle.ad_decomposition.proofs.Firsts.{firsts_has}
use Rattle.ad_entity.specs.declared.entities.Entity.{Entity}
use Rattle.ad_flat.specs.Trees.{in_signatures}
use Rattle.ad_flat.proofs.TreeLemmas.{along}
use Rattle.ad_locality.specs.Signature.{in_signature}
use Rattle.ad_module_document.proofs.ChosenLemmas.{each_slotted, kept_firsts}
use Rattle.ad_module_document.proofs.FoundLemmas.{or_false}
use Rattle.ad_numbered.specs.Numbered.{InSlots, IsNumbered, number_of, order_of}
use Rattle.ad_shapes.proofs.Mapped.{filter_mapped}
use Rattle.ad_slots.specs.Places.{held_symbols}
use Rattle.ad_syntax_laws.specs.ModuleDocument.{entities_about, goes_with, stands_in}
use Rattle.ad_syntax_laws.specs.OntologyModule.{is_logical_axiom, logical}
use Rattle.ad_theory.specs.Numbers.{among}
use Rattle.ad_theory.proofs.Members.{Has, and_intro, and_left, and_right, any_of_has, any_same, contains_of_has, either, filter_has, has_filter, has_of_any, not_both, or_cases, or_right, same_any}
use Rattle.ad_tree.proofs.Equality.{noted_eq-is}
use Rattle.ad_tree.specs.Same.{same_axiom}
use Rattle.ad_tree.specs.declared.axioms.Noted.{Noted}
use Rattle.ad_split.specs.Parts.{head_line, module_of, numbered, part_document, part_text, part_with, parts_text}
use Rattle.ad_split.specs.Slots.{closure_of, is_about, is_in_part, is_number_in, slot_document, slot_text, slots_text}
use Rattle.ad_split.specs.Tops.{is_top, tops, top_atoms}
use Rattle.ad_split.proofs.CarriedLemmas.{goes_logical}
use Rattle.ad_split.proofs.TopLemmas.{tops_alike, top_atoms_alike}

-- texts for the images of a list, where they agree
pub texts_alike : {A B X : Type 0} (F : ℕ × A → List ℕ) (H : ℕ × B → List ℕ) (f : X → A) (g : X → B) (xs : List X) (i : ℕ) → ((n : ℕ) (x : X) → Has xs x → F (n, f x) ≡ H (n, g x))
    → flat_map F (zip (range_with_len i (length (map f xs))) (map f xs)) ≡ flat_map H (zip (range_with_len i (length (map g xs))) (map g xs))
texts_alike F H f g [] i each = refl
texts_alike F H f g (x ∷ xs) i each =
    let here : F (i, f x) ≡ H (i, g x) = each i x (inl refl) in
    let rest : flat_map F (zip (range_with_len (i + 1) (length (map f xs))) (map f xs)) ≡ flat_map H (zip (range_with_len (i + 1) (length (map g xs))) (map g xs)) =
    texts_alike F H f g xs (i + 1) (λ n y h. each n y (inr h)) in
    rw (here, rest) refl

-- an element of an image
of_image : {A X : Type 0} (f : X → A) (xs : List X) (a : A) → Has (map f xs) a → (x : X) × Has xs x × (f x ≡ a)
of_image f [] a h = absurd h
of_image f (x ∷ xs) a (inl e) = (x, inl refl, sym e)
of_image f (x ∷ xs) a (inr h) = let r = of_image f xs a h in (r.0, inr r.1, r.2)

image_has : {A X : Type 0} (f : X → A) (xs : List X) (x : X) → Has xs x → Has (map f xs) (f x)
image_has f [] x h = absurd h
image_has f (y ∷ xs) x (inl e) = inl (ap f e)
image_has f (y ∷ xs) x (inr h) = inr (image_has f xs x h)

-- axioms are in the genuine modules of one another as their slots are in the rows
abbrev pub AreAlike : InSlots → (Noted → Noted → Bool) → (ℕ → ℕ → Bool) → Type 0
AreAlike ontology G K = (i j : ℕ) (d : Noted) → i < length (order_of ontology) → j < length (order_of ontology)
    → G (get_or (logical ontology.axioms) i d) (get_or (logical ontology.axioms) j d) ≡ K (get_or (order_of ontology) i 0) (get_or (order_of ontology) j 0)

module _ (ontology : InSlots) (is : IsNumbered ontology) (G : Noted → Noted → Bool) (K : ℕ → ℕ → Bool) (alike : AreAlike ontology G K) where
  -- the logical axioms, each beside its slot
  abbrev pairs : List (ℕ × Noted)
  pairs = zip (order_of ontology) (logical ontology.axioms)

  abbrev P : ℕ × Noted → ℕ × Noted → Bool
  P p q = K p.0 q.0

  abbrev symbols : ℕ → List ℕ
  symbols = held_symbols ontology.held

  long : length (logical ontology.axioms) ≡ length (order_of ontology)
  long = AllZip-long _ (order_of ontology) (logical ontology.axioms) is.placed.held

  firsts_are : map (λ p. p.0) pairs ≡ order_of ontology
  firsts_are = firsts-zip (order_of ontology) (logical ontology.axioms) long

  seconds_are : map (λ p. p.1) pairs ≡ logical ontology.axioms
  seconds_are = seconds-zip (order_of ontology) (logical ontology.axioms) long

  -- where a pair stands
  record Stands (p : ℕ × Noted) : Type 0 where
    at : ℕ
    below : at < length (order_of ontology)
    slot : get_or (order_of ontology) at 0 ≡ p.0
    noted : (d : Noted) → get_or (logical ontology.axioms) at d ≡ p.1

  stands : (p : ℕ × Noted) → Has pairs p → Stands p
  stands p h =
      let c = contains_of_has pairs p h in
      let below : c.0 < length (order_of ontology) = omega (arith, c.1, long, length-zip (order_of ontology) (logical ontology.axioms)) in
      let here : (get_or (order_of ontology) c.0 p.0, get_or (logical ontology.axioms) c.0 p.1) ≡ p =
      sym (get_or-zip (order_of ontology) (logical ontology.axioms) c.0 p below (omega (arith, long, below))) ∙ c.2 in
      record {
        at = c.0;
        below = below;
        slot = get_or_default (order_of ontology) c.0 0 p.0 below ∙ ap (λ q. q.0) here;
        noted = λ d. get_or_default (logical ontology.axioms) c.0 d p.1 (omega (arith, long, below)) ∙ ap (λ q. q.1) here;
      }

  agree : (p q : ℕ × Noted) → Has pairs p → Has pairs q → G p.1 q.1 ≡ K p.0 q.0
  agree p q h k =
      let a = stands p h in
      let b = stands q k in
      ap (λ x. G x q.1) (sym (a.noted p.1)) ∙ ap (G (get_or (logical ontology.axioms) a.at p.1)) (sym (b.noted p.1))
      ∙ alike a.at b.at p.1 a.below b.below ∙ ap (λ i. K i (get_or (order_of ontology) b.at 0)) a.slot ∙ ap (K p.0) b.slot

  in_order : (p : ℕ × Noted) → Has pairs p → Has (order_of ontology) p.0
  in_order p h = subst (λ l. Has l p.0) firsts_are (image_has (λ p. p.0) pairs p h)

  in_logical : (p : ℕ × Noted) → Has pairs p → Has (logical ontology.axioms) p.1
  in_logical p h = subst (λ l. Has l p.1) seconds_are (image_has (λ p. p.1) pairs p h)

  pair_at : (i : ℕ) → Has (order_of ontology) i → (p : ℕ × Noted) × Has pairs p × (p.0 ≡ i)
  pair_at i h = of_image (λ p. p.0) pairs i (subst (λ l. Has l i) (sym firsts_are) h)

  pair_of : (a : Noted) → Has (logical ontology.axioms) a → (p : ℕ × Noted) × Has pairs p × (p.1 ≡ a)
  pair_of a h = of_image (λ p. p.1) pairs a (subst (λ l. Has l a) (sym seconds_are) h)

  pub tops_of_axioms : tops G (logical ontology.axioms) ≡ map (λ p. p.1) (tops P pairs)
  tops_of_axioms = ap (tops G) (sym seconds_are) ∙ tops_alike (λ p. p.1) G P pairs agree

  pub tops_of_slots : tops K (order_of ontology) ≡ map (λ p. p.0) (tops P pairs)
  tops_of_slots = ap (tops K) (sym firsts_are) ∙ tops_alike (λ p. p.0) K P pairs (λ p q h k. refl)

  pub same_top_atoms : top_atoms K (order_of ontology) ≡ top_atoms G (logical ontology.axioms)
  same_top_atoms =
      ap (top_atoms K) (sym firsts_are) ∙ top_atoms_alike (λ p. p.0) K P pairs (λ p q h k. refl)
      ∙ sym (top_atoms_alike (λ p. p.1) G P pairs agree) ∙ ap (top_atoms G) seconds_are

  -- a top is a slot with its axiom, which is in its own row
  own : (p : ℕ × Noted) → Has (tops P pairs) p → Has pairs p × IsTrue (K p.0 p.0)
  own p h = filter_has (λ x. P x x) pairs p (firsts_has (same_module P pairs) (in_atoms P pairs) p (filter_has (is_top P pairs) (firsts P pairs) p h).0)

  module _ (p : ℕ × Noted) (h : Has pairs p) (self : IsTrue (K p.0 p.0)) where
    -- the axioms of the genuine module
    abbrev M : List Noted
    M = module_of G ontology.axioms p.1

    abbrev closure : ℕ → Bool
    closure = closure_of symbols (order_of ontology) (K p.0)

    abbrev seed : Entity → Bool
    seed e = in_signature p.1.axiom e

    as_many : length (module_of G ontology.axioms p.1) ≡ length (filter (K p.0) (order_of ontology))
    as_many =
        ap (λ l. length (filter (G p.1) l)) (sym seconds_are)
        ∙ ap length (filter_mapped (λ q. q.1) (G p.1) (λ q. K p.0 q.0) pairs (λ q k. agree p q h k))
        ∙ length-map (filter (λ q. K p.0 q.0) pairs) (λ q. q.1)
        ∙ sym (length-map (filter (λ q. K p.0 q.0) pairs) (λ q. q.0))
        ∙ sym (ap length (filter_mapped (λ q. q.0) (K p.0) (λ q. K p.0 q.0) pairs (λ q k. refl)))
        ∙ ap (λ l. length (filter (K p.0) l)) firsts_are

    in_module : (q : ℕ × Noted) → Has pairs q → IsTrue (K p.0 q.0) → Has M q.1
    in_module q k t = has_filter (G p.1) (logical ontology.axioms) q.1 (in_logical q k) (agree p q h k ∙ t)

    member_is : (i : ℕ) (a : Noted) → Has pairs (i, a) → K p.0 i ≡ stands_in M a
    member_is i a k = both_ways (K p.0 i) (stands_in M a)
        (λ t. same_any same_axiom noted_eq-is M a (in_module (i, a) k t))
        (λ t. sym (agree p (i, a) h k) ∙ (filter_has (G p.1) (logical ontology.axioms) a (any_same same_axiom noted_eq-is M a t)).1)

    -- an entity in the signature of a slot's axiom
    names_to : (q : ℕ × Noted) (e : Entity) (n : ℕ) → Has pairs q → number_of ontology e ≡ Some n → IsTrue (in_signature q.1.axiom e) → IsTrue (among (symbols q.0) n)
    names_to q e n k at t =
        let g = (along (number_of ontology) ontology.held (order_of ontology) (logical ontology.axioms) is.placed (λ number side seen. code_local side seen number) sides.Bottom).sig_from q.0 q.1 e k t in
        let same : g.0 ≡ n = (let other : number_of ontology e ≡ Some g.0 = g.1.1 in let both : Some g.0 ≡ Some n = sym other ∙ at in cc) in
        subst (λ m. IsTrue (among (symbols q.0) m)) same g.2

    names_from : (q : ℕ × Noted) (e : Entity) (n : ℕ) → Has pairs q → number_of ontology e ≡ Some n → IsTrue (among (symbols q.0) n) → IsTrue (in_signature q.1.axiom e)
    names_from q e n k at t =
        let g = (along (number_of ontology) ontology.held (order_of ontology) (logical ontology.axioms) is.placed (λ number side seen. code_local side seen number) sides.Bottom).sig_to q.0 q.1 n k t in
        let there : IsTrue (in_signatures (logical ontology.axioms) e) = is.only e (subst (λ o. IsSome o) (sym at) refl) in
        let same : g.0 ≡ e = is.placed.one_to_one g.0 e n g.1.0 there g.1.1 at in
        subst (λ f. IsTrue (in_signature q.1.axiom f)) same g.2

    seed_there : (e : Entity) → IsTrue (entities_about seed M e) → IsTrue (in_signatures (logical ontology.axioms) e)
    seed_there e t = elim (or_cases (seed e) (list_any (λ a. in_signature a.axiom e) M) t) [
      | inl s ↦ any_of_has (λ a. in_signature a.axiom e) (logical ontology.axioms) p.1 (in_logical p h) s
      | inr r ↦ (
          let x = has_of_any (λ a. in_signature a.axiom e) M r in
          any_of_has (λ a. in_signature a.axiom e) (logical ontology.axioms) x.0 (filter_has (G p.1) (logical ontology.axioms) x.0 x.1).0 x.2)
    ]

    about_none : (e : Entity) → number_of ontology e ≡ None → false ≡ entities_about seed M e
    about_none e none = elim (either (entities_about seed M e)) [
      | inl t ↦ (let some : IsSome (number_of ontology e) = is.placed.numbered e (seed_there e t) in cc)
      | inr f ↦ sym f
    ]

    closure_to : (e : Entity) (n : ℕ) → number_of ontology e ≡ Some n → IsTrue (closure n) → IsTrue (entities_about seed M e)
    closure_to e n at t =
        let x = has_of_any (λ i. K p.0 i && among (symbols i) n) (order_of ontology) t in
        let q = pair_at x.0 x.1 in
        let both : IsTrue (K p.0 q.0.0 && among (symbols q.0.0) n) = subst (λ i. IsTrue (K p.0 i && among (symbols i) n)) (sym q.2) x.2 in
        or_right (seed e) (list_any (λ a. in_signature a.axiom e) M)
        (any_of_has (λ a. in_signature a.axiom e) M q.0.1 (in_module q.0 q.1 (and_left (K p.0 q.0.0) (among (symbols q.0.0) n) both))
        (names_from q.0 e n q.1 at (and_right (K p.0 q.0.0) (among (symbols q.0.0) n) both)))

    one_there : (q : ℕ × Noted) (e : Entity) (n : ℕ) → Has pairs q → number_of ontology e ≡ Some n → IsTrue (K p.0 q.0) → IsTrue (in_signature q.1.axiom e) → IsTrue (closure n)
    one_there q e n k at t s =
        any_of_has (λ i. K p.0 i && among (symbols i) n) (order_of ontology) q.0 (in_order q k) (and_intro (K p.0 q.0) (among (symbols q.0) n) t (names_to q e n k at s))

    closure_from : (e : Entity) (n : ℕ) → number_of ontology e ≡ Some n → IsTrue (entities_about seed M e) → IsTrue (closure n)
    closure_from e n at t = elim (or_cases (seed e) (list_any (λ a. in_signature a.axiom e) M) t) [
      | inl s ↦ one_there p e n h at self s
      | inr r ↦ (
          let x = has_of_any (λ a. in_signature a.axiom e) M r in
          let m = filter_has (G p.1) (logical ontology.axioms) x.0 x.1 in
          let q = pair_of x.0 m.0 in
          let member : IsTrue (G p.1 q.0.1) = subst (λ b. IsTrue (G p.1 b)) (sym q.2) m.1 in
          one_there q.0 e n q.1 at (sym (agree p q.0 h q.1) ∙ member) (subst (λ (b : Noted). IsTrue (in_signature b.axiom e)) (sym q.2) x.2))
    ]

    about_is : (e : Entity) → is_about ontology closure e ≡ entities_about seed M e
    about_is e = elim (number_of ontology e) as (λ o. number_of ontology e ≡ o → is_number_in closure o ≡ entities_about seed M e) [
      | None ↦ λ none. about_none e none
      | Some n ↦ λ some. both_ways (closure n) (entities_about seed M e) (closure_to e n some) (closure_from e n some)
    ] refl

    in_document : Noted → Bool
    in_document a = stands_in M a || goes_with (entities_about seed M) a.axiom

    carried_is : (a : Noted) → IsFalse (is_logical_axiom a) → is_in_part ontology (K p.0) closure a None ≡ in_document a
    unfolding in_document
    carried_is a carried =
        let entities : is_about ontology closure ≡ entities_about seed M = λ i. λ e. about_is e i in
        elim (either (stands_in M a)) [
          | inl t ↦ absurd (not_both
              (filter_has is_logical_axiom ontology.axioms a (filter_has (G p.1) (logical ontology.axioms) a (any_same same_axiom noted_eq-is M a t)).0).1
              carried)
          | inr f ↦ ap (λ entities. goes_with entities a.axiom) entities ∙ ap (λ b. b || goes_with (entities_about seed M) a.axiom) (sym f)
        ]

    logical_is : (i : ℕ) (a : Noted) → IsTrue (is_logical_axiom a) → Has pairs (i, a) → is_in_part ontology (K p.0) closure a (Some i) ≡ in_document a
    unfolding in_document
    logical_is i a of_logic pair =
        member_is i a pair ∙ or_false (stands_in M a) (goes_with (entities_about seed M) a.axiom) (goes_logical (entities_about seed M) a.axiom of_logic)

    same_document : slot_document ontology K p.0 ≡ part_document G ontology.axioms p.1
    unfolding in_document
    same_document =
        kept_firsts (is_in_part ontology (K p.0) closure) in_document ontology.axioms ontology.slots
        (each_slotted (λ a slot. is_in_part ontology (K p.0) closure a slot ≡ in_document a) ontology.axioms ontology.slots is.slotted carried_is logical_is)

    same_part : (n : ℕ) → part_text G ontology.axioms (n, p.1) ≡ slot_text ontology K (n, p.0)
    same_part n =
        ap (λ count. part_with n count (part_document G ontology.axioms p.1)) as_many
        ∙ ap (λ document. part_with n (length (filter (K p.0) (order_of ontology))) document) (sym same_document)

  -- the texts are one
  pub same_text : slots_text ontology K ≡ parts_text G ontology.axioms
  same_text =
      let count : length (tops K (order_of ontology)) ≡ length (tops G (logical ontology.axioms)) =
      ap length tops_of_slots ∙ length-map (tops P pairs) (λ q. q.0) ∙ sym (length-map (tops P pairs) (λ q. q.1)) ∙ sym (ap length tops_of_axioms) in
      let parts : flat_map (part_text G ontology.axioms) (numbered (tops G (logical ontology.axioms))) ≡ flat_map (slot_text ontology K) (numbered (tops K (order_of ontology))) =
      ap (λ l. flat_map (part_text G ontology.axioms) (numbered l)) tops_of_axioms
      ∙ texts_alike (part_text G ontology.axioms) (slot_text ontology K) (λ q. q.1) (λ q. q.0) (tops P pairs) 0 (λ n q h. let o = own q h in same_part q o.0 o.1 n)
      ∙ ap (λ l. flat_map (slot_text ontology K) (numbered l)) (sym tops_of_slots) in
      ap (λ n. head_line n ++ flat_map (slot_text ontology K) (numbered (tops K (order_of ontology)))) count
      ∙ ap (λ t. head_line (length (tops G (logical ontology.axioms))) ++ t) (sym parts)
