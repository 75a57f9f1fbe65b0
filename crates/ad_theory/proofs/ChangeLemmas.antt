-- The laws of change: what is left alone stays the module.
use Rattle.std.proofs.Common.{Bool, ◌&&◌, not, IsTrue, IsFalse, inl, inr, sym, ◌∙◌}
use Rattle.ad_theory.specs.Module.{Logic, IsAntitone, IsModule, IsFixed, IsStar}
use Rattle.ad_theory.specs.Change.{IsChange, IsUntouched, IsNewLocalForRest, IsStarUntouched}
use Rattle.ad_theory.proofs.Members.{either, and_intro, and_left, and_right, not_true, false_not}
use Rattle.ad_theory.proofs.ModuleLemmas.{restrict, extend, transport, fixed_transport}

-- restrict to what did not leave, change the logic, and extend by what is new
pub side_kept : {A E : Type 0} {L L' : Logic A E} {O O' : A → Type 0} {left new M : A → Bool} {seed S : E → Bool}
    → IsAntitone L → IsChange L L' O O' left new → IsModule L seed O M S → IsUntouched L' O' left new M S → IsModule L' seed O' M S
side_kept {L = L} {L' = L'} {O = O} {left = left} {new = new} antitone change m untouched =
    extend {L = L'} {K = λ a. O a × IsFalse (left a)} (λ a k. change.stays a k.0 k.1)
    (λ a o. elim (either (new a)) [ inl t ↦ inr (untouched.new_local a o t) | inr f ↦ inl (change.stayed a o f) ])
    (transport {L = L} {L' = L'} antitone {K = λ a. O a × IsFalse (left a)} (λ a e k. change.sigs a e k.0 k.1) (λ a T k. change.locals a T k.0 k.1)
    (restrict {L = L} antitone {K = λ a. O a × IsFalse (left a)} (λ a k. k.0) (λ a t. (m.within a t, untouched.none_left a t)) m))

-- what is its own module in the new ontology lies among the old axioms that did not leave
module _ {A E : Type 0} {L L' : Logic A E} {O O' : A → Type 0} {left new : A → Bool} (seed : E → Bool)
    (antitone : IsAntitone L) (change : IsChange L L' O O' left new) where
  fixed_among : {M : A → Bool} {S : E → Bool} → IsModule L seed O M S → IsNewLocalForRest L L' O' left new seed M
      → (N : A → Bool) → ((a : A) → IsTrue (N a) → O' a) → IsFixed L' seed N → (a : A) → IsTrue (N a) → IsTrue (M a && not (left a))
  fixed_among {M} {S} m rest N part f = f.1.least (λ a. M a && not (left a)) rest.0 (record {
    has_seed = λ e h. (rest.1 e).1 (inl h);
    has_symbols = λ a e t h. (rest.1 e).1 (inr (a, t, change.sigs a e (m.within a (and_left (M a) (not (left a)) t)) (not_true (left a) (and_right (M a) (not (left a)) t)) ∙ h));
    rest = λ a t. elim (either (new a)) [
      | inl n ↦ inr (rest.2 a (part a t) n)
      | inr o ↦ (let old : O a × IsFalse (left a) = change.stayed a (part a t) o in
          elim (m.closed.rest a old.0) [
            | inl h ↦ inl (and_intro (M a) (not (left a)) h (false_not (left a) old.1))
            | inr l ↦ inr (sym (change.locals a rest.0 old.0 old.1) ∙ antitone.shrinks rest.0 S a
                (λ e _ q. elim ((rest.1 e).0 q) [ inl s ↦ m.closed.has_seed e s | inr r ↦ m.closed.has_symbols r.0 e (and_left (M r.0) (not (left r.0)) r.1) r.2 ]) l)
          ])
    ];
  })

-- Each part of O' that is its own module on both sides lies, by the one side, among the old axioms that did not
-- leave, so it is such a part of O too, and lies in M.
module _ {A E : Type 0} {B B' T T' : Logic A E} {O O' : A → Type 0} {left new : A → Bool} (seed : E → Bool)
    (bottom : IsAntitone B) (top : IsAntitone T) (bottom' : IsAntitone B') (top' : IsAntitone T')
    (change : IsChange B B' O O' left new) (change' : IsChange T T' O O' left new) where
  -- parts of the old axioms that did not leave are their own modules before and after alike
  fixed_before : (N : A → Bool) → ((a : A) → IsTrue (N a) → O a × IsFalse (left a)) → IsFixed B' seed N → IsFixed T' seed N → IsFixed B seed N × IsFixed T seed N
  fixed_before N old f g = (
    fixed_transport {L = B'} {L' = B} bottom' (λ a e t. sym (change.sigs a e (old a t).0 (old a t).1)) (λ a S t. sym (change.locals a S (old a t).0 (old a t).1)) f,
    fixed_transport {L = T'} {L' = T} top' (λ a e t. sym (change'.sigs a e (old a t).0 (old a t).1)) (λ a S t. sym (change'.locals a S (old a t).0 (old a t).1)) g,
  )

  pub star_kept : {M X Y : A → Bool} {S R : E → Bool} → IsStar B T seed O M → IsModule B seed O X S → IsModule T seed O Y R
      → IsStarUntouched B B' T T' O' left new seed M X Y → IsStar B' T' seed O' M
  star_kept {M} {X} {Y} m x y untouched =
      let among : (P : A → Bool) → ((a : A) → IsTrue (P a) → O a) → (N : A → Bool) → ((a : A) → IsTrue (N a) → IsTrue (P a && not (left a))) → (a : A) → IsTrue (N a) → O a × IsFalse (left a) =
      (λ P part N within a t. (part a (and_left (P a) (not (left a)) (within a t)), not_true (left a) (and_right (P a) (not (left a)) (within a t)))) in
      record {
        within = λ a t. change.stays a (m.within a t) (untouched.none_left a t);
        bottom = fixed_transport {L = B} {L' = B'} bottom (λ a e t. change.sigs a e (m.within a t) (untouched.none_left a t)) (λ a S t. change.locals a S (m.within a t) (untouched.none_left a t)) m.bottom;
        top = fixed_transport {L = T} {L' = T'} top (λ a e t. change'.sigs a e (m.within a t) (untouched.none_left a t)) (λ a S t. change'.locals a S (m.within a t) (untouched.none_left a t)) m.top;
        greatest = λ N part f g.
            let old : (a : A) → IsTrue (N a) → O a × IsFalse (left a) =
            elim untouched.side [
              | inl rest ↦ among X x.within N (fixed_among {L = B} {L' = B'} seed bottom change x rest N part f)
              | inr rest ↦ among Y y.within N (fixed_among {L = T} {L' = T'} seed top change' y rest N part g)
            ] in
            let before = fixed_before N old f g in
            m.greatest N (λ a t. (old a t).0) before.0 before.1;
      }
