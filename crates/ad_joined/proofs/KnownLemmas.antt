-- Star modules that were found before: where a search within one meets one of those axioms for whose signatures it is the
-- star module too, it is its own module for what was searched for.
use Rattle.std.proofs.Common.{Bool, ◌||◌, ◌&&◌, not, ◌⊎◌, IsTrue, IsFalse, inl, inr}
use Rattle.ad_theory.specs.Module.{Logic, IsAntitone, IsClosed, IsFixed, IsStar}
use Rattle.ad_theory.specs.Alternation.{IsAboveStar}
use Rattle.ad_theory.specs.Sweep.{IsGathered}
use Rattle.ad_theory.proofs.Members.{either, not_both, not_true, false_not, or_cases, or_left, or_right, and_intro, and_left, and_right}
use Rattle.ad_theory.proofs.ModuleLemmas.{closed_fewer}
use Rattle.ad_joined.specs.Known.{HasFixed, IsMet}

module _ {A E : Type 0} (L : Logic A E) where
  -- what is its own module for the signature of one of its axioms is so for each seed whose search needs that axiom
  pub met_fixed : IsAntitone L → {seed : E → Bool} {M N same : A → Bool} {R : E → Bool} → IsGathered L seed (λ a. IsTrue (M a)) (λ a. IsTrue (N a)) R
      → HasFixed L M same → IsMet L.local same R → IsFixed L seed M
  met_fixed antitone {seed} {M} {N} {same} {R} g fixed met =
      let a = met.0 in
      let f = fixed a met.1 in
      let reaches : (K : A → Bool) (T : E → Bool) → IsClosed L seed (λ b. IsTrue (M b)) K T → (e : E) → IsTrue (R e) → IsTrue (T e) =
      (λ K T c e h. elim (g.only e h) [ inl s ↦ c.has_seed e s | inr r ↦ c.has_symbols r.0 e (g.below K T c r.0 r.1) r.2 ]) in
      let has_it : (K : A → Bool) (T : E → Bool) → IsClosed L seed (λ b. IsTrue (M b)) K T → IsTrue (K a) =
      (λ K T c. elim (c.rest a f.0) [ inl h ↦ h | inr t ↦ absurd (not_both (antitone.shrinks R T a (λ e _ h. reaches K T c e h) t) met.2) ]) in (
        (λ e. seed e || f.1.0 e),
        record {
          within = λ b t. t;
          only = λ e h. elim (or_cases (seed e) (f.1.0 e) h) [
            | inl s ↦ inl s
            | inr s ↦ elim (f.1.1.only e s) [ inl sig ↦ inr (a, f.0, sig) | inr r ↦ inr r ]
          ];
          closed = record {
            has_seed = λ e s. or_left (seed e) (f.1.0 e) s;
            has_symbols = λ b e m sig. or_right (seed e) (f.1.0 e) (f.1.1.closed.has_symbols b e m sig);
            rest = λ b m. inl m;
          };
          least = λ K T c. f.1.1.least K T (record { has_seed = λ e sig. c.has_symbols a e (has_it K T c) sig; has_symbols = c.has_symbols; rest = c.rest });
        },
      )

  -- what is its own module for symbols of a seed and of M's axioms is so together with M for that seed, where M is
  pub fixed_together : {seed less : E → Bool} {M K : A → Bool} → IsFixed L seed M → IsFixed L less K
      → ((e : E) → IsTrue (less e) → IsTrue (seed e) ⊎ ((a : A) × IsTrue (M a) × IsTrue (L.sig a e))) → IsFixed L seed (λ a. M a || K a)
  fixed_together {seed} {less} {M} {K} m k part = (
    (λ e. m.0 e || k.0 e),
    record {
      within = λ b t. t;
      only = λ e h. elim (or_cases (m.0 e) (k.0 e) h) [
        | inl s ↦ elim (m.1.only e s) [ inl sig ↦ inl sig | inr r ↦ inr (r.0, or_left (M r.0) (K r.0) r.1, r.2) ]
        | inr s ↦ elim (k.1.only e s) [
          | inl q ↦ elim (part e q) [ inl t ↦ inl t | inr r ↦ inr (r.0, or_left (M r.0) (K r.0) r.1, r.2) ]
          | inr r ↦ inr (r.0, or_right (M r.0) (K r.0) r.1, r.2)
        ]
      ];
      closed = record {
        has_seed = λ e s. or_left (m.0 e) (k.0 e) (m.1.closed.has_seed e s);
        has_symbols = λ b e h sig. elim (or_cases (M b) (K b) h) [
          | inl t ↦ or_left (m.0 e) (k.0 e) (m.1.closed.has_symbols b e t sig)
          | inr t ↦ or_right (m.0 e) (k.0 e) (k.1.closed.has_symbols b e t sig)
        ];
        rest = λ b h. inl h;
      };
      least = λ N T c b h.
          let first : (d : A) → IsTrue (M d) → IsTrue (N d) = m.1.least N T (closed_fewer (λ e s. s) (λ d t. or_left (M d) (K d) t) c) in
          elim (or_cases (M b) (K b) h) [
            | inl t ↦ first b t
            | inr t ↦ k.1.least N T (record {
              has_seed = λ e s. elim (part e s) [ inl q ↦ c.has_seed e q | inr r ↦ c.has_symbols r.0 e (first r.0 r.1) r.2 ];
              has_symbols = c.has_symbols;
              rest = λ d q. c.rest d (or_right (M d) (K d) q);
            }) b t
          ];
    },
  )

  -- what is its own module is so without M for the seed with the symbols of M's axioms
  pub fixed_rest : {seed more : E → Bool} {M K : A → Bool} → IsFixed L seed K → ((e : E) → IsTrue (seed e) → IsTrue (more e))
      → ((a : A) (e : E) → IsTrue (M a) → IsTrue (L.sig a e) → IsTrue (more e)) → IsFixed L more (λ a. K a && not (M a))
  fixed_rest {seed} {more} {M} {K} k part symbols = (
    (λ e. more e || k.0 e),
    record {
      within = λ b t. t;
      only = λ e h. elim (or_cases (more e) (k.0 e) h) [
        | inl s ↦ inl s
        | inr s ↦ elim (k.1.only e s) [
          | inl q ↦ inl (part e q)
          | inr r ↦ elim (either (M r.0)) [
            | inl t ↦ inl (symbols r.0 e t r.2)
            | inr f ↦ inr (r.0, and_intro (K r.0) (not (M r.0)) r.1 (false_not (M r.0) f), r.2)
          ]
        ]
      ];
      closed = record {
        has_seed = λ e s. or_left (more e) (k.0 e) s;
        has_symbols = λ b e h sig. or_right (more e) (k.0 e) (k.1.closed.has_symbols b e (and_left (K b) (not (M b)) h) sig);
        rest = λ b h. inl h;
      };
      least = λ N T c b h.
          let both : IsTrue (M b || N b) = k.1.least (λ d. M d || N d) T (record {
            has_seed = λ e s. c.has_seed e (part e s);
            has_symbols = λ d e q sig. elim (or_cases (M d) (N d) q) [ inl t ↦ c.has_seed e (symbols d e t sig) | inr t ↦ c.has_symbols d e t sig ];
            rest = λ d q. elim (either (M d)) [
              | inl t ↦ inl (or_left (M d) (N d) t)
              | inr f ↦ elim (c.rest d (and_intro (K d) (not (M d)) q (false_not (M d) f))) [ inl t ↦ inl (or_right (M d) (N d) t) | inr l ↦ inr l ]
            ];
          }) b (and_left (K b) (not (M b)) h) in
          elim (or_cases (M b) (N b) both) [
            | inl t ↦ absurd (not_both t (not_true (M b) (and_right (K b) (not (M b)) h)))
            | inr t ↦ t
          ];
    },
  )

-- A star module is the star module for each seed of its axioms' symbols for which it is its own module on both sides.
pub star_again : {A E : Type 0} {B T : Logic A E} {seed less : E → Bool} {O : A → Type 0} {M : A → Bool} → IsStar B T seed O M
    → ((e : E) → IsTrue (less e) → (a : A) × IsTrue (M a) × IsTrue (B.sig a e)) → ((e : E) → IsTrue (less e) → (a : A) × IsTrue (M a) × IsTrue (T.sig a e))
    → IsFixed B less M → IsFixed T less M → IsStar B T less O M
star_again {B = B} {T = T} {M = M} m bottoms tops f g = record {
  within = m.within;
  bottom = f;
  top = g;
  greatest = λ K part b t a h. m.greatest (λ d. M d || K d)
      (λ d q. elim (or_cases (M d) (K d) q) [ inl r ↦ m.within d r | inr r ↦ part d r ])
      (fixed_together B m.bottom b (λ e s. inr (bottoms e s))) (fixed_together T m.top t (λ e s. inr (tops e s))) a (or_right (M a) (K a) h);
}

-- What is its own module on both sides is, with the star module of what else may be in one, for the seed with its symbols,
-- the star module.
pub star_joined : {A E : Type 0} {B T : Logic A E} {seed more : E → Bool} {O : A → Type 0} {M X R N : A → Bool} → ((a : A) → IsTrue (M a) → O a)
    → IsFixed B seed M → IsFixed T seed M → IsAboveStar B T seed O X
    → ((a : A) → IsTrue (X a) → IsFalse (M a) → IsTrue (R a)) → ((e : E) → IsTrue (seed e) → IsTrue (more e))
    → ((a : A) (e : E) → IsTrue (M a) → IsTrue (B.sig a e) → IsTrue (more e)) → ((a : A) (e : E) → IsTrue (M a) → IsTrue (T.sig a e) → IsTrue (more e))
    → ((e : E) → IsTrue (more e) → IsTrue (seed e) ⊎ ((a : A) × IsTrue (M a) × IsTrue (B.sig a e)))
    → ((e : E) → IsTrue (more e) → IsTrue (seed e) ⊎ ((a : A) × IsTrue (M a) × IsTrue (T.sig a e)))
    → IsStar B T more (λ a. O a × IsTrue (R a)) N → IsStar B T seed O (λ a. M a || N a)
star_joined {B = B} {T = T} {M = M} {N = N} within f g above rest part bottoms tops bottom_only top_only n = record {
  within = λ a h. elim (or_cases (M a) (N a) h) [ inl t ↦ within a t | inr t ↦ (n.within a t).0 ];
  bottom = fixed_together B f n.bottom bottom_only;
  top = fixed_together T g n.top top_only;
  greatest = λ K has b t a h. elim (either (M a)) [
    | inl m ↦ or_left (M a) (N a) m
    | inr o ↦ or_right (M a) (N a) (n.greatest (λ d. K d && not (M d))
        (λ d q. let k = and_left (K d) (not (M d)) q in (has d k, rest d (above.above K has b t d k) (not_true (M d) (and_right (K d) (not (M d)) q))))
        (fixed_rest B b part bottoms) (fixed_rest T t part tops) a (and_intro (K a) (not (M a)) h (false_not (M a) o)))
  ];
}
