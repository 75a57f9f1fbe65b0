-- The document by rows is the document of the module.
use Rattle.std.proofs.Common.{◌≡◌, ℕ, Bool, true, false, ◌||◌, IsTrue, IsFalse, List, [], ◌∷◌, Option, None, Some, is_some, map, refl, sym, ap, ◌∙◌, subst, inl, inr}
use Rattle.std.specs.List.{AllZip, filter, zip}
use Rattle.ad_base.specs.declared.limits.Kind.{Kind}
use Rattle.ad_bits.specs.Rows.{has}
use Rattle.ad_entity.specs.declared.entities.Entity.{Entity}
use Rattle.ad_tree.specs.Logical.{is_logical}
use Rattle.ad_tree.specs.declared.axioms.Axiom.{Axiom}
use Rattle.ad_tree.specs.declared.axioms.Axiom.TheVariants as axioms
use Rattle.ad_tree.specs.declared.axioms.Noted.{Noted}
use Rattle.ad_tree.specs.declared.notes.Subject.TheVariants as subjects
use Rattle.ad_theory.proofs.Members.{Has, either, not_both, filter_has}
use Rattle.ad_syntax_laws.specs.ModuleDocument.{IsModuleDocumentOf, entities_about, goes_with, stands_in}
use Rattle.ad_syntax_laws.specs.OntologyLogic.{seed_test}
use Rattle.ad_syntax_laws.specs.OntologyModule.{is_logical_axiom, logical}
use Rattle.ad_codes.proofs.AxiomLemmas.{code_local}
use Rattle.ad_flat.specs.Trees.{IsSameSeed, axioms_where}
use Rattle.ad_flat.proofs.KindOfTreesLemmas.{kind_of_trees}
use Rattle.ad_numbered.specs.Numbered.{InSlots, IsNumbered, given, number_of, order_of}
use Rattle.ad_module_document.specs.Documents.{HoldModule, document_in, is_about, is_about_number, is_chosen}
use Rattle.ad_module_document.proofs.FoundLemmas.{or_false, member_is, found_there, about_number, about_none}

-- a logical axiom goes with no entities
goes_logical : (entities : Entity → Bool) (a : Axiom) → IsTrue (is_logical a) → IsFalse (goes_with entities a)
goes_logical entities (axioms.Declaration declared) h = let z : false ≡ true = h in cc
goes_logical entities (axioms.AnnotationAssertion property (subjects.Iri iri) value) h = let z : false ≡ true = h in cc
goes_logical entities (axioms.AnnotationAssertion property (subjects.Anonymous label) value) h = refl
goes_logical entities _ h = refl

-- what is kept of pairs by a test of both parts is what a test of the first parts keeps, where the two agree
pub kept_firsts : {A B : Type 0} (test : A → B → Bool) (keep : A → Bool) (xs : List A) (ys : List B) → AllZip (λ x y. test x y ≡ keep x) xs ys
    → map (λ p. p.0) (filter (λ p. test p.0 p.1) (zip xs ys)) ≡ filter keep xs
kept_firsts test keep [] [] all = refl
kept_firsts test keep [] (y ∷ ys) all = absurd all
kept_firsts test keep (x ∷ xs) [] all = absurd all
kept_firsts test keep (x ∷ xs) (y ∷ ys) all =
    let rest : map (λ p. p.0) (filter (λ p. test p.0 p.1) (zip xs ys)) ≡ filter keep xs = kept_firsts test keep xs ys all.1 in
    elim (keep x) as (λ b. keep x ≡ b → map (λ p. p.0) (filter (λ p. test p.0 p.1) (zip (x ∷ xs) (y ∷ ys))) ≡ filter keep (x ∷ xs)) [
      | true ↦ λ k. let t : test x y ≡ true = all.0 ∙ k in rw (t, k) (ap (λ l. x ∷ l) rest)
      | false ↦ λ k. let t : test x y ≡ false = all.0 ∙ k in rw (t, k) rest
    ] refl

-- what holds of carried axioms, and of logical ones with their slots, holds of all axioms with what is their slot
pub each_slotted : (R : Noted → Option ℕ → Type 0) (xs : List Noted) (slots : List (Option ℕ)) → AllZip (λ a slot. is_some slot ≡ is_logical_axiom a) xs slots
    → ((a : Noted) → IsFalse (is_logical_axiom a) → R a None)
    → ((i : ℕ) (a : Noted) → IsTrue (is_logical_axiom a) → Has (zip (given slots) (logical xs)) (i, a) → R a (Some i)) → AllZip R xs slots
each_slotted R [] [] all none some = tt
each_slotted R [] (slot ∷ slots) all none some = absurd all
each_slotted R (x ∷ xs) [] all none some = absurd all
each_slotted R (x ∷ xs) (None ∷ slots) all none some =
    let carried : is_logical_axiom x ≡ false = sym all.0 in
    let rest : logical (x ∷ xs) ≡ logical xs = rw carried refl in
    (none x carried, each_slotted R xs slots all.1 none (λ i a l h. some i a l (subst (λ l. Has (zip (given slots) l) (i, a)) (sym rest) h)))
each_slotted R (x ∷ xs) (Some slot ∷ slots) all none some =
    let of_logic : is_logical_axiom x ≡ true = sym all.0 in
    let rest : logical (x ∷ xs) ≡ x ∷ logical xs = rw of_logic refl in
    let has_pair : (i : ℕ) (a : Noted) → Has (zip (slot ∷ given slots) (x ∷ logical xs)) (i, a) → Has (zip (given (Some slot ∷ slots)) (logical (x ∷ xs))) (i, a) = λ i a h. subst (λ l. Has (zip (slot ∷ given slots) l) (i, a)) (sym rest) h in
    (some slot x of_logic (has_pair slot x (inl refl)), each_slotted R xs slots all.1 none (λ i a l h. some i a l (has_pair i a (inr h))))

module _ (kind : Kind) (ontology : InSlots) (seed : List Entity) (members closure : List Bool) (is : IsNumbered ontology) (found : HoldModule kind ontology seed members closure) where
  same : IsSameSeed (number_of ontology) (logical ontology.axioms) (seed_test seed) found.numbers
  same e n there is = sym (found.numbered e n is)

  -- the axioms of the module
  abbrev module_of : List Noted
  module_of = axioms_where (has members) (order_of ontology) (logical ontology.axioms)

  about_is : (e : Entity) → is_about ontology seed closure e ≡ entities_about (seed_test seed) module_of e
  about_is e = elim (number_of ontology e) as (λ o. number_of ontology e ≡ o → is_about_number seed closure e o ≡ entities_about (seed_test seed) module_of e) [
    | None ↦ λ none. about_none (number_of ontology) ontology.held (order_of ontology) (logical ontology.axioms) is.placed (seed_test seed) found.numbers same kind (has members) (has closure) found.is e none
    | Some n ↦ λ some. about_number (number_of ontology) ontology.held (order_of ontology) (logical ontology.axioms) is.placed (seed_test seed) found.numbers same kind (has members) (has closure) found.is e n some
        (is.only e (subst (λ o. IsTrue (is_some o)) (sym some) refl))
  ] refl

  in_document : Noted → Bool
  in_document a = stands_in module_of a || goes_with (entities_about (seed_test seed) module_of) a.axiom

  carried_is : (a : Noted) → IsFalse (is_logical_axiom a) → is_chosen ontology seed members closure a None ≡ in_document a
  unfolding in_document
  carried_is a carried =
      let entities : is_about ontology seed closure ≡ entities_about (seed_test seed) module_of = λ i. λ e. about_is e i in
      elim (either (stands_in module_of a)) [
        | inl t ↦ absurd (not_both
            (filter_has is_logical_axiom ontology.axioms a
            (found_there (number_of ontology) ontology.held (order_of ontology) (logical ontology.axioms) is.placed (seed_test seed) found.numbers same kind (has members) (has closure) found.is a t)).1
            carried)
        | inr f ↦ ap (λ entities. goes_with entities a.axiom) entities ∙ ap (λ b. b || goes_with (entities_about (seed_test seed) module_of) a.axiom) (sym f)
      ]

  logical_is : (i : ℕ) (a : Noted) → IsTrue (is_logical_axiom a) → Has (zip (order_of ontology) (logical ontology.axioms)) (i, a) → is_chosen ontology seed members closure a (Some i) ≡ in_document a
  unfolding in_document
  logical_is i a of_logic pair =
      member_is (number_of ontology) ontology.held (order_of ontology) (logical ontology.axioms) is.placed (seed_test seed) found.numbers same kind (has members) (has closure) found.is i a pair
      ∙ or_false (stands_in module_of a) (goes_with (entities_about (seed_test seed) module_of) a.axiom) (goes_logical (entities_about (seed_test seed) module_of) a.axiom of_logic)

  -- the document by the rows of a module that was found is the document of the module
  pub found_document : IsModuleDocumentOf kind (seed_test seed) ontology.axioms (document_in ontology seed members closure)
  unfolding in_document
  found_document = (
    module_of,
    kind_of_trees (number_of ontology) ontology.held (order_of ontology) (logical ontology.axioms) is.placed (λ number side seen. code_local side seen number) (seed_test seed) found.numbers same kind (has members) (has closure) found.is,
    kept_firsts (is_chosen ontology seed members closure) in_document ontology.axioms ontology.slots
        (each_slotted (λ a slot. is_chosen ontology seed members closure a slot ≡ in_document a) ontology.axioms ontology.slots is.slotted carried_is logical_is),
  )
