-- The rows of slots are the genuine modules of the axioms that the slots hold.
use Rattle.std.proofs.Common.{◌≡◌, ◌<◌, ℕ, Bool, List, Option, length, get_or, map, IsTrue, sym, ap, ◌∙◌, subst, arith}
use Rattle.std.specs.Cmp.{both_ways}
use Rattle.std.specs.List.{IsDistinct, filter, zip}
use Rattle.std.proofs.lemmas.Slice.Zip.{AllZip-long, firsts-zip, seconds-zip, get_or-zip, length-zip}
use Rattle.ad_base.specs.declared.limits.Kind.{Kind}
use Rattle.ad_base.specs.declared.limits.Side.TheVariants as sides
use Rattle.ad_bits.specs.Rows.{has}
use Rattle.ad_codes.specs.Laws.{CodesAreTrees}
use Rattle.ad_codes.proofs.AxiomLemmas.{code_local}
use Rattle.ad_decomposition.specs.Tables.{AreGenuine, is_in, is_in_row_of}
use Rattle.ad_entity.specs.declared.entities.Entity.{Entity}
use Rattle.ad_flat.specs.Trees.{ArePlaced, IsSameSeed, axioms_where}
use Rattle.ad_flat.proofs.KindOfTreesLemmas.{kind_of_trees}
use Rattle.ad_flat.proofs.TreeLemmas.{where_filter, along, one_entity, kept_back, named, axiom_of_pair}
use Rattle.ad_locality.specs.Signature.{in_signature}
use Rattle.ad_ontology_atoms.specs.OntologyAtoms.{AreGenuineModules}
use Rattle.ad_ontology_atoms.proofs.BesideLemmas.{number_beside, number_is}
use Rattle.ad_slots.specs.Held.{Held}
use Rattle.ad_slots.specs.Places.{is_held, held_symbols, is_held_local}
use Rattle.ad_syntax_laws.specs.OntologyModule.{IsModuleOf, logical}
use Rattle.ad_tables.specs.Rows.{Tables}
use Rattle.ad_theory.specs.Numbers.{among}
use Rattle.ad_theory.proofs.Members.{Has, has_get_or, contains_of_has}
use Rattle.ad_tree.proofs.Equality.{noted_eq-is}
use Rattle.ad_tree.specs.Same.{same_axiom}
use Rattle.ad_tree.specs.declared.axioms.Noted.{Noted}

codes_are_trees : CodesAreTrees
codes_are_trees number side seen a = code_local side seen number a

module _ (places : List ℕ) (ontology : List Noted) where
  -- the logical axioms, each beside its slot
  abbrev pub in_slots : List (ℕ × Noted)
  in_slots = zip places (logical ontology)

  abbrev pub slot_of : Noted → ℕ
  slot_of a = number_beside same_axiom in_slots a

  -- whether the axiom b is in the row of the slot of a
  abbrev pub in_row : Tables → Kind → Noted → Noted → Bool
  in_row tables kind a b = is_in_row_of tables kind (slot_of a) (slot_of b)

module _ (number : Entity → Option ℕ) (slots : List (Option Held)) (places : List ℕ) (ontology : List Noted) (placed : ArePlaced number slots places (logical ontology)) where
  long : length (logical ontology) ≡ length places
  long = AllZip-long _ places (logical ontology) placed.held

  pub slots_are : map (λ p. p.0) (in_slots places ontology) ≡ places
  slots_are = firsts-zip places (logical ontology) long

  pub axioms_are : map (λ p. p.1) (in_slots places ontology) ≡ logical ontology
  axioms_are = seconds-zip places (logical ontology) long

  -- the symbols of a slot are the numbers of the entities in its axiom's signature
  own_seed : (i : ℕ) (a : Noted) → Has (in_slots places ontology) (i, a) → IsSameSeed number (logical ontology) (in_signature a.axiom) (among (held_symbols slots i))
  own_seed i a h e n t is =
      let names = along number slots places (logical ontology) placed codes_are_trees sides.Bottom in
      let means = one_entity number slots places (logical ontology) placed in
      both_ways (in_signature a.axiom e) (among (held_symbols slots i) n)
      (λ s. let r = names.sig_from i a e h s in subst (λ m. IsTrue (among (held_symbols slots i) m)) (means.once r.0 n e r.1 (t, is)) r.2)
      (λ s. let r = names.sig_to i a n h s in subst (λ f. IsTrue (in_signature a.axiom f)) (means.one n r.0 e r.1 (t, is)) r.2)

  held : (i : ℕ) (a : Noted) → Has (in_slots places ontology) (i, a) → IsTrue (is_held slots i)
  held i a h = kept_back number slots places (logical ontology) placed i a h (contains_of_has (logical ontology) a (axiom_of_pair _ places (logical ontology) placed.held i a h))

  module _ (distinct : IsDistinct same_axiom (logical ontology)) where
    pub slot_is : (i : ℕ) (a : Noted) → Has (in_slots places ontology) (i, a) → slot_of places ontology a ≡ i
    slot_is i a h = number_is same_axiom noted_eq-is (in_slots places ontology) (subst (λ l. IsDistinct same_axiom l) (sym axioms_are) distinct) (i, a) h

    slot_at : (i : ℕ) (d : Noted) → i < length places → slot_of places ontology (get_or (logical ontology) i d) ≡ get_or places i 0
    slot_at i d below =
        let inside : i < length (logical ontology) = subst (λ n. i < n) (sym long) below in
        let both : i < length (in_slots places ontology) = omega (arith, length-zip places (logical ontology), below, inside) in
        slot_is (get_or places i 0) (get_or (logical ontology) i d)
        (subst (λ p. Has (in_slots places ontology) p) (get_or-zip places (logical ontology) i (0, d) below inside) (has_get_or (in_slots places ontology) i (0, d) both))

    module _ (tables : Tables) (kind : Kind) where
      pub rows_are : (i j : ℕ) (d : Noted) → i < length places → j < length places
          → in_row places ontology tables kind (get_or (logical ontology) i d) (get_or (logical ontology) j d) ≡ is_in_row_of tables kind (get_or places i 0) (get_or places j 0)
      rows_are i j d l m =
          ap (λ s. is_in_row_of tables kind s (slot_of places ontology (get_or (logical ontology) j d))) (slot_at i d l)
          ∙ ap (λ s. is_in_row_of tables kind (get_or places i 0) s) (slot_at j d m)

      module _ (n : ℕ) (genuine : AreGenuine (held_symbols slots) (is_held_local slots) (is_held slots) n tables) where
        -- the row of a slot lists the genuine module of its axiom
        listed : (i : ℕ) (a : Noted) → Has (in_slots places ontology) (i, a) → IsModuleOf kind (in_signature a.axiom) ontology (filter (in_row places ontology tables kind a) (logical ontology))
        listed i a h =
            let r = genuine.rows kind i (held i a h) in
            let module_of_row : IsModuleOf kind (in_signature a.axiom) ontology (axioms_where (has r.0) places (logical ontology)) =
            kind_of_trees number slots places (logical ontology) placed codes_are_trees (in_signature a.axiom) (among (held_symbols slots i)) (own_seed i a h) kind (has r.0) r.3.0 r.3.1 in
            let row_has : (j : ℕ) (b : Noted) → Has (in_slots places ontology) (j, b) → in_row places ontology tables kind a b ≡ has r.0 j =
            (λ j b k.
            ap (λ s. is_in_row_of tables kind s (slot_of places ontology b)) (slot_is i a h)
            ∙ ap (λ s. is_in_row_of tables kind i s) (slot_is j b k)
            ∙ ap (λ row. is_in row j) r.1) in
            subst (λ M. IsModuleOf kind (in_signature a.axiom) ontology M) (where_filter _ (has r.0) (in_row places ontology tables kind a) places (logical ontology) placed.held row_has) module_of_row

        pub rows_genuine : AreGenuineModules kind ontology (in_row places ontology tables kind)
        rows_genuine = record { genuine = λ a o. let p = named number slots places (logical ontology) placed a o in listed p.0 a p.1 }
