-- The rounds of the alternation.
use Rattle.std.proofs.Common.{◌≡◌, ℕ, zero, suc, ◌<◌, Bool, true, false, List, [], ◌∷◌, length, IsTrue, refl, ap, arith}
use Rattle.ad_bits.specs.Rows.{member_count, IsSubset}
use Rattle.ad_bits.proofs.Rows.{member_count-subset}
use Rattle.ad_theory.specs.Module.{Logic, IsAntitone, IsModule, IsFixed, IsStar}
use Rattle.ad_theory.specs.Alternation.{IsAboveStar}
use Rattle.ad_theory.proofs.Members.{not_both}
use Rattle.ad_theory.proofs.ModuleLemmas.{same_test, same_ontology, own, fixed_within}
use Rattle.ad_theory.proofs.StarLemmas.{left_module}

-- a subset that is not the whole has fewer members
pub fewer : (a b : List Bool) → length a ≡ length b → IsSubset a b → (a ≡ b → ⊥) → member_count a < member_count b
fewer [] [] l s n = absurd (n refl)
fewer [] (y ∷ b) l s n = absurd (omega (arith, l))
fewer (x ∷ a) [] l s n = absurd (omega (arith, l))
fewer (true ∷ a) (true ∷ b) l s n = omega (arith, fewer a b (omega (arith, l)) (λ i t. s (suc i) t) (λ e. n (ap (λ r. true ∷ r) e)))
fewer (false ∷ a) (false ∷ b) l s n = omega (arith, fewer a b (omega (arith, l)) (λ i t. s (suc i) t) (λ e. n (ap (λ r. false ∷ r) e)))
fewer (true ∷ a) (false ∷ b) l s n = absurd (not_both (s zero refl) refl)
fewer (false ∷ a) (true ∷ b) l s n = omega (arith, member_count-subset a b (λ i t. s (suc i) t))

-- a module of what is left is its own module
pub fixed_module : {A E : Type 0} {L : Logic A E} {seed : E → Bool} {O : A → Type 0} {M : A → Bool} {S : E → Bool} → IsAntitone L → IsModule L seed O M S → IsFixed L seed M
fixed_module {S = S} antitone m = (S, own antitone m)

-- and so is what is left, where its module is all of it
pub fixed_left : {A E : Type 0} {L : Logic A E} {seed : E → Bool} {O : A → Type 0} {M N : A → Bool} {S : E → Bool} → ((a : A) → IsTrue (M a) → O a)
    → IsModule L seed (λ a. O a × IsTrue (M a)) N S → ((a : A) → IsTrue (M a) → IsTrue (N a)) → IsFixed L seed M
fixed_left {S = S} within n all = (S, same_test (λ a t. (n.within a t).1) all (left_module within n))

-- what is its own module on both sides, and contains each part that is, is the star module
pub star_of : {A E : Type 0} {B T : Logic A E} {seed : E → Bool} {O : A → Type 0} {M : A → Bool} → ((a : A) → IsTrue (M a) → O a) → IsFixed B seed M → IsFixed T seed M
    → IsAboveStar B T seed O M → IsStar B T seed O M
star_of within bottom top w = record { within = within; bottom = bottom; top = top; greatest = w.above }

-- a module of all that is live, looked for among all numbers
pub whole_module : {L : Logic ℕ ℕ} {seed : ℕ → Bool} {O : ℕ → Type 0} {X M S : ℕ → Bool} → ((i : ℕ) → O i → IsTrue (X i)) → IsModule L seed (λ i. O i × IsTrue (X i)) M S → IsModule L seed O M S
whole_module whole m = same_ontology (λ i o. o.0) (λ i o. (o, whole i o)) m

-- a module of a part of O contains what is its own module on both sides
pub above_module : {A E : Type 0} {B T : Logic A E} {seed : E → Bool} {O : A → Type 0} {M : A → Bool} {S : E → Bool} → IsModule B seed O M S → IsAboveStar B T seed O M
above_module m = record { above = λ N part f g. fixed_within f part m }

-- a module of what is left of a part of O
pub part_module : {A E : Type 0} {L : Logic A E} {seed : E → Bool} {O P : A → Type 0} {X M : A → Bool} {S : E → Bool} → ((a : A) → IsTrue (X a) → P a)
    → IsModule L seed (λ a. O a × IsTrue (X a)) M S → IsModule L seed (λ a. (O a × P a) × IsTrue (X a)) M S
part_module part m = same_ontology (λ a o. ((o.0, part a o.1), o.1)) (λ a o. (o.0.0, o.1)) m

-- the star module of a part of O that contains the star module
pub star_of_above : {A E : Type 0} {B T : Logic A E} {seed : E → Bool} {O : A → Type 0} {X M : A → Bool} → IsAboveStar B T seed O X
    → IsStar B T seed (λ a. O a × IsTrue (X a)) M → IsStar B T seed O M
star_of_above w m = record {
  within = λ a t. (m.within a t).0;
  bottom = m.bottom;
  top = m.top;
  greatest = λ N part f g. m.greatest N (λ a t. (part a t, w.above N part f g a t)) f g;
}
