-- The module of all axioms is that of the logical ones, since a carried axiom is local for all names.
use Rattle.std.proofs.Common.{◌≡◌, Bool, true, false, ◌&&◌, IsTrue, IsFalse, List, [], ◌∷◌, inl, inr, refl, ap, ◌∙◌}
use Rattle.std.specs.List.{Contains, filter}
use Rattle.ad_base.specs.declared.limits.Side.{Side}
use Rattle.ad_tree.specs.Logical.{is_logical}
use Rattle.ad_locality.specs.Locality.{local}
use Rattle.ad_entity.specs.declared.entities.Entity.{Entity}
use Rattle.ad_tree.specs.declared.axioms.Axiom.{Axiom}
use Rattle.ad_tree.specs.declared.axioms.Axiom.TheVariants as axioms
use Rattle.ad_tree.specs.declared.axioms.Noted.{Noted}
use Rattle.ad_theory.specs.Module.{Logic, IsClosed, IsModule}
use Rattle.ad_theory.specs.Listed.{IsListedModule}
use Rattle.ad_theory.proofs.Members.{either, and_intro, and_left, and_right}
use Rattle.ad_theory.proofs.ListedLemmas.{contains_filter, filter_contains}
use Rattle.ad_syntax_laws.specs.OntologyLogic.{axiom_logic}
use Rattle.ad_syntax_laws.specs.OntologyModule.{is_logical_axiom}

filter_filter : {A : Type 0} (p q : A → Bool) (xs : List A) → ((a : A) → IsTrue (p a) → IsTrue (q a)) → filter p xs ≡ filter p (filter q xs)
filter_filter p q [] h = refl
filter_filter p q (x ∷ xs) h = elim (p x) as (λ b. p x ≡ b → filter p (x ∷ xs) ≡ filter p (filter q (x ∷ xs))) [
  | true ↦ λ e. let k : q x ≡ true = h x e in rw (k, e) (ap (λ l. x ∷ l) (filter_filter p q xs h))
  | false ↦ λ e. elim (q x) as (λ b. q x ≡ b → filter p (x ∷ xs) ≡ filter p (filter q (x ∷ xs))) [
    | true ↦ λ k. rw (k, e) (filter_filter p q xs h)
    | false ↦ λ k. rw (k, e) (filter_filter p q xs h)
  ] refl
] refl

module _ {A E : Type 0} (L : Logic A E) (keep : A → Bool) (carried : (a : A) (T : E → Bool) → IsFalse (keep a) → IsTrue (L.local T a)) where
  kept : (seed : E → Bool) (O : A → Type 0) (test : A → Bool) (S : E → Bool) → IsModule L seed O test S → (a : A) → IsTrue (test a) → IsTrue (keep a)
  kept seed O test S m a t = and_right (test a) (keep a) (m.least (λ b. test b && keep b) S (record {
    has_seed = m.closed.has_seed;
    has_symbols = λ b e h s. m.closed.has_symbols b e (and_left (test b) (keep b) h) s;
    rest = λ b o. elim (m.closed.rest b o) [
      | inl h ↦ elim (either (keep b)) [ inl k ↦ inl (and_intro (test b) (keep b) h k) | inr f ↦ inr (carried b S f) ]
      | inr l ↦ inr l
    ];
  }) a t)

  kept_closed : (seed : E → Bool) (O : List A) (N : A → Bool) (T : E → Bool) → IsClosed L seed (Contains (filter keep O)) N T → IsClosed L seed (Contains O) N T
  kept_closed seed O N T c = record {
    has_seed = c.has_seed;
    has_symbols = c.has_symbols;
    rest = λ a o. elim (either (keep a)) [ inl k ↦ c.rest a (contains_filter keep O a o k) | inr f ↦ inr (carried a T f) ];
  }

  -- the module of an ontology is that of what is kept
  pub kept_module : (seed : E → Bool) (O M : List A) → IsListedModule L seed O M → IsListedModule L seed (filter keep O) M
  kept_module seed O M m =
      let keeps : (a : A) → IsTrue (m.test a) → IsTrue (keep a) = kept seed (Contains O) m.test m.closure m.is_module in
      record {
        test = m.test;
        closure = m.closure;
        is_module = record {
          within = λ a t. contains_filter keep O a (m.is_module.within a t) (keeps a t);
          only = m.is_module.only;
          closed = record {
            has_seed = m.is_module.closed.has_seed;
            has_symbols = m.is_module.closed.has_symbols;
            rest = λ a c. m.is_module.closed.rest a (filter_contains keep O a c).0;
          };
          least = λ N T c a t. m.is_module.least N T (kept_closed seed O N T c) a t;
        };
        listed = m.listed ∙ filter_filter m.test keep O keeps;
      }

carried_local : (side : Side) (a : Axiom) (T : Entity → Bool) → IsFalse (is_logical a) → IsTrue (local side T a)
carried_local side (axioms.Declaration declared) T h = refl
carried_local side (axioms.AnnotationAssertion property subject value) T h = refl
carried_local side (axioms.SubAnnotationPropertyOf sub super) T h = refl
carried_local side (axioms.AnnotationPropertyDomain property domain) T h = refl
carried_local side (axioms.AnnotationPropertyRange property range) T h = refl
carried_local side _ T h = cc

-- the module of an ontology is that of its logical axioms
pub logical_module : (side : Side) (seed : Entity → Bool) (O M : List Noted) → IsListedModule (axiom_logic side) seed O M → IsListedModule (axiom_logic side) seed (filter is_logical_axiom O) M
logical_module side seed O M m = kept_module (axiom_logic side) is_logical_axiom (λ a T f. carried_local side a.axiom T f) seed O M m
