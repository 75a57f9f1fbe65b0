-- The laws of modules over any axioms: one at most, growing, and each its own module.
use Rattle.std.proofs.Common.{◌≡◌, Bool, ◌⊎◌, ◌&&◌, IsTrue, inl, inr, sym, ◌∙◌}
use Rattle.ad_theory.specs.Module.{Logic, IsAntitone, IsClosed, IsModule, IsFixed}
use Rattle.ad_theory.proofs.Members.{and_intro, and_left, and_right}

module _ {A E : Type 0} {L : Logic A E} where
  -- closed for a larger seed and ontology is closed for smaller ones
  pub closed_fewer : {s s' : E → Bool} {O O' : A → Type 0} {N : A → Bool} {T : E → Bool} → ((e : E) → IsTrue (s e) → IsTrue (s' e)) → ((a : A) → O a → O' a) → IsClosed L s' O' N T → IsClosed L s O N T
  closed_fewer f g c = record { has_seed = λ e h. c.has_seed e (f e h); has_symbols = c.has_symbols; rest = λ a o. c.rest a (g a o) }

  -- the module grows with seed and ontology
  pub grows : {s s' : E → Bool} {O O' : A → Type 0} {M M' : A → Bool} {S S' : E → Bool} → ((e : E) → IsTrue (s e) → IsTrue (s' e)) → ((a : A) → O a → O' a) → IsModule L s O M S → IsModule L s' O' M' S' → (a : A) → IsTrue (M a) → IsTrue (M' a)
  grows {M' = M'} {S' = S'} f g m m' = m.least M' S' (closed_fewer f g m'.closed)

  -- closed for the ontology has what the module's closure has
  pub closure_within : {s : E → Bool} {O : A → Type 0} {M : A → Bool} {S : E → Bool} → IsModule L s O M S → (N : A → Bool) (T : E → Bool) → IsClosed L s O N T → (e : E) → IsTrue (S e) → IsTrue (T e)
  closure_within m N T c e h = elim (m.only e h) [ inl r ↦ c.has_seed e r | inr r ↦ c.has_symbols r.0 e (m.least N T c r.0 r.1) r.2 ]

  -- an ontology with the same axioms
  pub same_ontology : {s : E → Bool} {O O' : A → Type 0} {M : A → Bool} {S : E → Bool} → ((a : A) → O a → O' a) → ((a : A) → O' a → O a) → IsModule L s O M S → IsModule L s O' M S
  same_ontology f g m = record {
    within = λ a t. f a (m.within a t);
    only = m.only;
    closed = closed_fewer (λ e h. h) g m.closed;
    least = λ N T c. m.least N T (closed_fewer (λ e h. h) f c);
  }

  -- a test that is true of the same axioms
  pub same_test : {s : E → Bool} {O : A → Type 0} {M M' : A → Bool} {S : E → Bool} → ((a : A) → IsTrue (M a) → IsTrue (M' a)) → ((a : A) → IsTrue (M' a) → IsTrue (M a)) → IsModule L s O M S → IsModule L s O M' S
  same_test f g m = record {
    within = λ a t. m.within a (g a t);
    only = λ e h. elim (m.only e h) [ inl r ↦ inl r | inr r ↦ inr (r.0, f r.0 r.1, r.2) ];
    closed = record {
      has_seed = m.closed.has_seed;
      has_symbols = λ a e t. m.closed.has_symbols a e (g a t);
      rest = λ a o. elim (m.closed.rest a o) [ inl t ↦ inl (f a t) | inr t ↦ inr t ];
    };
    least = λ N T c a t. m.least N T c a (g a t);
  }

  -- what is its own module and a part of the ontology is a part of its module
  pub fixed_within : {s : E → Bool} {O : A → Type 0} {N M : A → Bool} {S : E → Bool} → IsFixed L s N → ((a : A) → IsTrue (N a) → O a) → IsModule L s O M S → (a : A) → IsTrue (N a) → IsTrue (M a)
  fixed_within f part m = grows (λ e h. h) part f.1 m

  module _ (antitone : IsAntitone L) where
    -- the module of an ontology is that of each part of it that has the module
    pub restrict : {s : E → Bool} {O K : A → Type 0} {M : A → Bool} {S : E → Bool} → ((a : A) → K a → O a) → ((a : A) → IsTrue (M a) → K a) → IsModule L s O M S → IsModule L s K M S
    restrict {s} {O} {K} {M} {S} part has m = record {
      within = has;
      only = m.only;
      closed = closed_fewer (λ e h. h) part m.closed;
      least = λ N T c a t. and_right (M a) (N a) (m.least (λ b. M b && N b) (λ e. S e && T e) (record {
        has_seed = λ e h. and_intro (S e) (T e) (m.closed.has_seed e h) (c.has_seed e h);
        has_symbols = λ b e h s. and_intro (S e) (T e) (m.closed.has_symbols b e (and_left (M b) (N b) h) s) (c.has_symbols b e (and_right (M b) (N b) h) s);
        rest = λ b o. elim (m.closed.rest b o) [
          | inr l ↦ inr (antitone.shrinks (λ e. S e && T e) S b (λ e _ h. and_left (S e) (T e) h) l)
          | inl h ↦ elim (c.rest b (has b h)) [
            | inl n ↦ inl (and_intro (M b) (N b) h n)
            | inr l ↦ inr (antitone.shrinks (λ e. S e && T e) T b (λ e _ h. and_right (S e) (T e) h) l)
          ]
        ];
      }) a t);
    }

    -- a module is its own module
    pub own : {s : E → Bool} {O : A → Type 0} {M : A → Bool} {S : E → Bool} → IsModule L s O M S → IsModule L s (λ a. IsTrue (M a)) M S
    own m = restrict m.within (λ a t. t) m

  -- the module of an ontology is that of each larger one whose further axioms are local for its closure
  pub extend : {s : E → Bool} {O K : A → Type 0} {M : A → Bool} {S : E → Bool} → ((a : A) → K a → O a) → ((a : A) → O a → K a ⊎ IsTrue (L.local S a)) → IsModule L s K M S → IsModule L s O M S
  extend part others m = record {
    within = λ a t. part a (m.within a t);
    only = m.only;
    closed = record {
      has_seed = m.closed.has_seed;
      has_symbols = m.closed.has_symbols;
      rest = λ a o. elim (others a o) [ inl k ↦ m.closed.rest a k | inr l ↦ inr l ];
    };
    least = λ N T c. m.least N T (closed_fewer (λ e h. h) part c);
  }

-- two logics that agree on an ontology give it the same module
pub transport : {A E : Type 0} {L L' : Logic A E} → IsAntitone L → {s : E → Bool} {K : A → Type 0} {M : A → Bool} {S : E → Bool}
    → ((a : A) (e : E) → K a → L.sig a e ≡ L'.sig a e) → ((a : A) (T : E → Bool) → K a → L.local T a ≡ L'.local T a) → IsModule L s K M S → IsModule L' s K M S
transport {L = L} {L' = L'} antitone {s} {K} {M} {S} sigs locals m = record {
  within = m.within;
  only = λ e h. elim (m.only e h) [ inl r ↦ inl r | inr r ↦ inr (r.0, r.1, sym (sigs r.0 e (m.within r.0 r.1)) ∙ r.2) ];
  closed = record {
    has_seed = m.closed.has_seed;
    has_symbols = λ a e t h. m.closed.has_symbols a e t (sigs a e (m.within a t) ∙ h);
    rest = λ a k. elim (m.closed.rest a k) [ inl t ↦ inl t | inr l ↦ inr (sym (locals a S k) ∙ l) ];
  };
  least = λ N T c a t. and_right (M a) (N a) (m.least (λ b. M b && N b) (λ e. S e && T e) (record {
    has_seed = λ e h. and_intro (S e) (T e) (m.closed.has_seed e h) (c.has_seed e h);
    has_symbols = λ b e h s. and_intro (S e) (T e) (m.closed.has_symbols b e (and_left (M b) (N b) h) s)
        (c.has_symbols b e (and_right (M b) (N b) h) (sym (sigs b e (m.within b (and_left (M b) (N b) h))) ∙ s));
    rest = λ b k. elim (m.closed.rest b k) [
      | inr l ↦ inr (antitone.shrinks (λ e. S e && T e) S b (λ e _ h. and_left (S e) (T e) h) l)
      | inl h ↦ elim (c.rest b k) [
        | inl n ↦ inl (and_intro (M b) (N b) h n)
        | inr l ↦ inr (antitone.shrinks (λ e. S e && T e) T b (λ e _ h. and_right (S e) (T e) h) (locals b T k ∙ l))
      ]
    ];
  }) a t);
}

-- the same of a list of axioms that is its own module
pub fixed_transport : {A E : Type 0} {L L' : Logic A E} → IsAntitone L → {s : E → Bool} {M : A → Bool}
    → ((a : A) (e : E) → IsTrue (M a) → L.sig a e ≡ L'.sig a e) → ((a : A) (T : E → Bool) → IsTrue (M a) → L.local T a ≡ L'.local T a) → IsFixed L s M → IsFixed L' s M
fixed_transport antitone sigs locals f = (f.0, transport antitone sigs locals f.1)
