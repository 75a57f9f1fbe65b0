-- Each kind of module exists once, of an ontology that a list covers.
use Rattle.std.proofs.Common.{Bool, ◌↔◌, List, IsTrue, inl, inr}
use Rattle.ad_base.specs.declared.limits.Kind.{Kind}
use Rattle.ad_base.specs.declared.limits.Kind.TheVariants.{Bottom, Top, Star}
use Rattle.ad_theory.specs.Module.{Logic, IsAntitone, IsModule, IsClosure}
use Rattle.ad_theory.specs.Listed.{IsEqualityTest, seed_with}
use Rattle.ad_theory.specs.Kinds.{IsModuleOfKind}
use Rattle.ad_theory.proofs.Members.{Has, has_of_contains, contains_of_has}
use Rattle.ad_theory.proofs.ModuleLemmas.{grows, same_ontology}
use Rattle.ad_theory.proofs.Existence.{some_module}
use Rattle.ad_theory.proofs.ListedLemmas.{seed_with_cases, seed_with_seed, seed_with_symbols}
use Rattle.ad_theory.proofs.StarLemmas.{some_listed_star, star_ontology, star_one, listed_star_has, has_listed_star}

-- a module's closure is the seed with what stands in its signatures
pub closure_of_module : {A E : Type 0} {L : Logic A E} {seed : E → Bool} {O : A → Type 0} {M : A → Bool} {S : E → Bool} → IsModule L seed O M S → IsClosure L seed M S
closure_of_module m e = (m.only e, λ h. elim h [ inl s ↦ m.closed.has_seed e s | inr r ↦ m.closed.has_symbols r.0 e r.1 r.2 ])

-- two modules of the same kind are the same
module _ {A E : Type 0} (B T : Logic A E) (seed : E → Bool) (O : A → Type 0) where
  pub kind_one : (kind : Kind) (M N : A → Bool) (S R : E → Bool) → IsModuleOfKind kind B T seed O M S → IsModuleOfKind kind B T seed O N R → (a : A) → IsTrue (M a) → IsTrue (N a)
  kind_one Bottom M N S R m n a t = grows {L = B} (λ e h. h) (λ a o. o) m n a t
  kind_one Top M N S R m n a t = grows {L = T} (λ e h. h) (λ a o. o) m n a t
  kind_one Star M N S R m n a t = star_one m.0 n.0 a t

-- some module of this kind
pub record SomeOfKind {A E : Type 0} (kind : Kind) (B T : Logic A E) (seed : E → Bool) (O : A → Type 0) : Type 0 where
  pub test : A → Bool
  pub closure : E → Bool
  pub is : IsModuleOfKind kind B T seed O test closure

module _ {A E : Type 0} (B T : Logic A E) (bottom : IsAntitone B) (top : IsAntitone T) (same : A → A → Bool) (equality : IsEqualityTest same)
    (seed : E → Bool) (O : A → Type 0) (xs : List A) (covers : (a : A) → O a ↔ Has xs a) where
  pub some_of_kind : (kind : Kind) → SomeOfKind kind B T seed O
  some_of_kind Bottom =
      let m = some_module B bottom same equality seed xs in
      record { test = m.test; closure = m.closure; is = same_ontology (λ a h. (covers a).1 h) (λ a o. (covers a).0 o) m.is }
  some_of_kind Top =
      let m = some_module T top same equality seed xs in
      record { test = m.test; closure = m.closure; is = same_ontology (λ a h. (covers a).1 h) (λ a o. (covers a).0 o) m.is }
  some_of_kind Star =
      let m = some_listed_star B T same equality seed bottom top xs in
      let closure : IsClosure B seed m.1.test (seed_with B seed m.0) = (λ e. (
        (λ h. elim (seed_with_cases B seed m.0 e h) [ inl s ↦ inl s | inr r ↦ inr (r.0, listed_star_has B T seed xs m.0 m.1 r.0 r.1, r.2) ]),
        (λ h. elim h [ inl s ↦ seed_with_seed B seed m.0 e s | inr r ↦ seed_with_symbols B seed m.0 r.0 e (has_listed_star B T seed xs m.0 m.1 r.0 r.1) r.2 ]),
      )) in
      record {
        test = m.1.test;
        closure = seed_with B seed m.0;
        is = (star_ontology (λ a c. (covers a).1 (has_of_contains xs a c)) (λ a o. contains_of_has xs a ((covers a).0 o)) m.1.is_star, closure);
      }
