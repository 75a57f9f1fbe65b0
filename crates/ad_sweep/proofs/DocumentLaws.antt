-- The module and its document.
use Rattle.std.proofs.Common.{◌≡◌, Bool, true, false, cond, ◌||◌, ◌&&◌, ◌↔◌, IsTrue, IsFalse, List, [], ◌∷◌, inl, inr, refl, sym, ap, subst, ◌∙◌}
use Rattle.std.specs.List.{Contains, filter}
use Rattle.ad_base.specs.declared.limits.Kind.{Kind}
use Rattle.ad_base.specs.declared.limits.Kind.TheVariants as kinds
use Rattle.ad_base.specs.declared.limits.Side.TheVariants as sides
use Rattle.ad_tree.specs.Same.{same_axiom}
use Rattle.ad_tree.specs.Logical.{is_logical}
use Rattle.ad_tree.specs.declared.axioms.Axiom.{Axiom}
use Rattle.ad_tree.specs.declared.axioms.Axiom.TheVariants as axioms
use Rattle.ad_tree.specs.declared.axioms.Noted.{Noted}
use Rattle.ad_entity.specs.declared.entities.Entity.{Entity}
use Rattle.ad_tree.specs.declared.notes.Subject.TheVariants as subjects
use Rattle.ad_tree.proofs.Equality.{noted_eq-is}
use Rattle.ad_theory.proofs.Members.{not_both, or_left, or_cases, and_intro, and_left, and_right, has_of_contains, contains_of_has, filter_has, filter_same, filter_all, any_same, same_any}
use Rattle.ad_theory.proofs.ListedLemmas.{contains_filter, filter_contains, listed_one, some_listed}
use Rattle.ad_theory.proofs.StarLemmas.{some_listed_star, listed_star_one}
use Rattle.ad_syntax_laws.specs.OntologyLogic.{axiom_logic}
use Rattle.ad_syntax_laws.proofs.LocalityLemmas.{antitone}
use Rattle.ad_syntax_laws.specs.OntologyModule.{IsModuleOf, is_logical_axiom, logical}
use Rattle.ad_syntax_laws.specs.ModuleDocument.{entities_about, goes_with, stands_in, document_with, IsModuleDocumentOf}

-- a logical axiom goes with no entities
goes_logical : (entities : Entity → Bool) (a : Axiom) → IsTrue (is_logical a) → IsFalse (goes_with entities a)
goes_logical entities (axioms.Declaration declared) h = let z : false ≡ true = h in cc
goes_logical entities (axioms.AnnotationAssertion property (subjects.Iri iri) value) h = let z : false ≡ true = h in cc
goes_logical entities (axioms.AnnotationAssertion property (subjects.Anonymous label) value) h = refl
goes_logical entities _ h = refl

filter_twice : {A : Type 0} (p q : A → Bool) (xs : List A) → filter q (filter p xs) ≡ filter (λ a. p a && q a) xs
filter_twice p q [] = refl
filter_twice p q (x ∷ xs) =
    let rest : filter q (filter p xs) ≡ filter (λ a. p a && q a) xs = filter_twice p q xs in
    elim (p x) as (λ b. filter q (cond b (x ∷ filter p xs) (filter p xs)) ≡ cond (b && q x) (x ∷ filter (λ a. p a && q a) xs) (filter (λ a. p a && q a) xs)) [
      | true ↦ ap (λ l. cond (q x) (x ∷ l) l) rest
      | false ↦ rest
    ]

-- a module of any kind is what passes a test that is true of its ontology's logical axioms alone
record IsPassed (O M : List Noted) : Type 0 where
  test : Noted → Bool
  within : (a : Noted) → IsTrue (test a) → Contains (logical O) a
  listed : M ≡ filter test (logical O)

passed : (kind : Kind) (seed : Entity → Bool) (O M : List Noted) → IsModuleOf kind seed O M → IsPassed O M
passed kinds.Bottom seed O M m = record { test = m.test; within = m.is_module.within; listed = m.listed }
passed kinds.Top seed O M m = record { test = m.test; within = m.is_module.within; listed = m.listed }
passed kinds.Star seed O M m = record { test = m.test; within = m.is_star.within; listed = m.listed }

-- an ontology has a module of each kind, and one only
some_module : (kind : Kind) (seed : Entity → Bool) (O : List Noted) → (M : List Noted) × IsModuleOf kind seed O M
some_module kinds.Bottom seed O = some_listed (axiom_logic sides.Bottom) seed (antitone sides.Bottom) same_axiom noted_eq-is (logical O)
some_module kinds.Top seed O = some_listed (axiom_logic sides.Top) seed (antitone sides.Top) same_axiom noted_eq-is (logical O)
some_module kinds.Star seed O =
    some_listed_star (axiom_logic sides.Bottom) (axiom_logic sides.Top) same_axiom noted_eq-is seed (antitone sides.Bottom) (antitone sides.Top) (logical O)

one_module : (kind : Kind) (seed : Entity → Bool) (O M N : List Noted) → IsModuleOf kind seed O M → IsModuleOf kind seed O N → M ≡ N
one_module kinds.Bottom seed O M N m n = listed_one (axiom_logic sides.Bottom) seed (logical O) M N m n
one_module kinds.Top seed O M N m n = listed_one (axiom_logic sides.Top) seed (logical O) M N m n
one_module kinds.Star seed O M N m n = listed_star_one (axiom_logic sides.Bottom) (axiom_logic sides.Top) seed (logical O) M N m n

-- the logical ones among the axioms that are in M or go with some entities are M
module _ (entities : Entity → Bool) (O M : List Noted) (m : IsPassed O M) where
  abbrev test : Noted → Bool
  test = m.test

  abbrev here : Noted → Bool
  here a = stands_in M a || goes_with entities a.axiom

  passes : (a : Noted) → IsTrue (here a && is_logical_axiom a) → IsTrue (is_logical_axiom a && test a)
  passes a h =
      let of_logic = and_right (here a) (is_logical_axiom a) h in
      elim (or_cases (stands_in M a) (goes_with entities a.axiom) (and_left (here a) (is_logical_axiom a) h)) [
        | inl s ↦ and_intro (is_logical_axiom a) (test a) of_logic
            (filter_contains test (logical O) a (subst (λ l. Contains l a) m.listed (contains_of_has M a (any_same same_axiom noted_eq-is M a s)))).1
        | inr g ↦ absurd (not_both g (goes_logical entities a.axiom of_logic))
      ]

  stays : (a : Noted) → IsTrue (is_logical_axiom a && test a) → IsTrue (here a && is_logical_axiom a)
  stays a h =
      let passed : IsTrue (test a) = and_right (is_logical_axiom a) (test a) h in
      and_intro (here a) (is_logical_axiom a)
      (or_left (stands_in M a) (goes_with entities a.axiom)
      (same_any same_axiom noted_eq-is M a (has_of_contains M a
      (subst (λ l. Contains l a) (sym m.listed) (contains_filter test (logical O) a (m.within a passed) passed)))))
      (and_left (is_logical_axiom a) (test a) h)

  logical_of : logical (filter here O) ≡ M
  logical_of =
      filter_twice here is_logical_axiom O
      ∙ filter_same (λ a. here a && is_logical_axiom a) (λ a. is_logical_axiom a && test a) O (λ a _ h. passes a h) (λ a _ h. stays a h)
      ∙ sym (filter_twice is_logical_axiom test O)
      ∙ sym m.listed

module _ (kind : Kind) (seed : Entity → Bool) (O : List Noted) where
  -- the logical axioms of the document with a module are the module
  logical_document : (M : List Noted) → IsModuleOf kind seed O M → logical (document_with seed M O) ≡ M
  logical_document M m = logical_of (entities_about seed M) O M (passed kind seed O M m)

  pub some_document : (D : List Noted) × IsModuleDocumentOf kind seed O D
  some_document = let m = some_module kind seed O in (document_with seed m.0 O, (m.0, m.1, refl))

  pub one_document : (D E : List Noted) → IsModuleDocumentOf kind seed O D → IsModuleDocumentOf kind seed O E → D ≡ E
  one_document D E d e = d.2 ∙ ap (λ M. document_with seed M O) (one_module kind seed O d.0 e.0 d.1 e.1) ∙ sym e.2

  pub document_logical : (D : List Noted) → IsModuleDocumentOf kind seed O D → IsModuleOf kind seed O (logical D)
  document_logical D d = subst (λ M. IsModuleOf kind seed O M) (sym (ap logical d.2 ∙ logical_document d.0 d.1)) d.1

  module _ (plain : (a : Noted) → Contains O a → IsTrue (is_logical_axiom a)) where
    -- without carried axioms the document with a module has no other axioms
    plain_document : (M : List Noted) → IsModuleOf kind seed O M → document_with seed M O ≡ M
    plain_document M m =
        sym (filter_all is_logical_axiom (document_with seed M O)
        (λ a h. plain a (contains_of_has O a (filter_has (λ b. stands_in M b || goes_with (entities_about seed M) b.axiom) O a h).0)))
        ∙ logical_document M m

    pub plain_is : (D : List Noted) → IsModuleDocumentOf kind seed O D ↔ IsModuleOf kind seed O D
    plain_is D = (
      (λ d. subst (λ M. IsModuleOf kind seed O M) (sym (d.2 ∙ plain_document d.0 d.1)) d.1),
      (λ m. (D, m, sym (plain_document D m))),
    )
