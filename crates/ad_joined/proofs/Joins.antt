-- Joining a module that was found before.
use Rattle.std.proofs.Common.{◌≡◌, ℕ, ◌<◌, Bool, ◌||◌, List, ◌⊎◌, IsTrue, IsFalse, inl, inr, sym, subst, ap, ◌∙◌, arith}
use Rattle.ad_bits.specs.Rows.{has, member_count, union, IsSubset}
use Rattle.ad_bits.proofs.Rows.{has-union, member_count-subset}
use Rattle.ad_extract.specs.Waiting.{IsWaiting}
use Rattle.ad_joined.specs.Wholes.{HasMoved}
use Rattle.ad_theory.specs.Module.{Logic, IsAntitone, IsClosed, IsModule}
use Rattle.ad_theory.specs.Sweep.{IsGathered, HasAlso}
use Rattle.ad_theory.proofs.Members.{either, not_both, or_cases, or_left, or_right}
use Rattle.ad_theory.proofs.SweepLemmas.{gathered_ends}
use Rattle.ad_joined.specs.Searched.{IsSearched}

module _ {A E : Type 0} (L : Logic A E) (antitone : IsAntitone L) where
  -- what a search leaves is the module
  pub searched_module : {seed : E → Bool} {O : A → Type 0} {M : A → Bool} {S : E → Bool} → IsSearched L seed O M S → IsModule L seed O M S
  searched_module {seed} {M = M} s = gathered_ends L seed s.gathered M (λ a. ((λ t. t), (λ t. t))) s.rest

  -- an axiom that is not local for what was reached is in the module for its own signature
  pub needed_has : {O : A → Type 0} {K : A → Bool} {R : E → Bool} (a : A) (reached : E → Bool) → IsSearched L (L.sig a) O K R → O a → IsFalse (L.local reached a) → IsTrue (K a)
  needed_has a reached s o new = elim (s.rest a o) [
    | inl t ↦ t
    | inr l ↦ absurd (not_both (antitone.shrinks reached _ a (λ e sig _. s.gathered.has_seed e sig) l) new)
  ]

  -- joined with the module for the signature of such an axiom, what was gathered is gathered still
  pub gathered_joins : {seed : E → Bool} {O : A → Type 0} {M K M' : A → Bool} {S R S' : E → Bool} → IsGathered L seed O (λ a. IsTrue (M a)) S
      → (a : A) → O a → IsFalse (L.local S a) → IsSearched L (L.sig a) O K R
      → HasAlso M K M' → HasAlso S R S' → IsGathered L seed O (λ b. IsTrue (M' b)) S'
  gathered_joins {seed} {O} {M} {K} {M'} {S} {R} {S'} g a o new s members also =
      let k = s.gathered in
      let in_K : IsTrue (K a) = needed_has a S s o new in
      let reaches : (N : A → Bool) (T : E → Bool) → IsClosed L seed O N T → (e : E) → IsTrue (S e) → IsTrue (T e) =
      (λ N T c e h. elim (g.only e h) [ inl r ↦ c.has_seed e r | inr r ↦ c.has_symbols r.0 e (g.below N T c r.0 r.1) r.2 ]) in
      let has_it : (N : A → Bool) (T : E → Bool) → IsClosed L seed O N T → IsTrue (N a) =
      (λ N T c. elim (c.rest a o) [ inl h ↦ h | inr t ↦ absurd (not_both (antitone.shrinks S T a (λ e _ h. reaches N T c e h) t) new) ]) in
      record {
        within = λ b h. elim ((members b).0 h) [ inl m ↦ g.within b m | inr m ↦ k.within b m ];
        only = λ e h. elim ((also e).0 h) [
          | inl t ↦ elim (g.only e t) [ inl r ↦ inl r | inr r ↦ inr (r.0, (members r.0).1 (inl r.1), r.2) ]
          | inr t ↦ elim (k.only e t) [ inl sig ↦ inr (a, (members a).1 (inr in_K), sig) | inr r ↦ inr (r.0, (members r.0).1 (inr r.1), r.2) ]
        ];
        has_seed = λ e h. (also e).1 (inl (g.has_seed e h));
        has_symbols = λ b e h sig. elim ((members b).0 h) [
          | inl m ↦ (also e).1 (inl (g.has_symbols b e m sig))
          | inr m ↦ (also e).1 (inr (k.has_symbols b e m sig))
        ];
        below = λ N T c b h. elim ((members b).0 h) [
          | inl m ↦ g.below N T c b m
          | inr m ↦ k.below N T (record { has_seed = λ e sig. c.has_symbols a e (has_it N T c) sig; has_symbols = c.has_symbols; rest = c.rest }) b m
        ];
        needed = λ b h. elim (either (L.local S' b)) [
          | inr f ↦ f
          | inl t ↦ elim ((members b).0 h) [
            | inl m ↦ absurd (not_both (antitone.shrinks S S' b (λ e _ q. (also e).1 (inl q)) t) (g.needed b m))
            | inr m ↦ absurd (not_both (antitone.shrinks R S' b (λ e _ q. (also e).1 (inr q)) t) (k.needed b m))
          ]
        ];
      }

  -- and each other axiom is local for what is settled, where that is a part of the joined module's symbols
  pub joined_rest : {O : A → Type 0} {K M' : A → Bool} {R settled : E → Bool} {seed : E → Bool} → IsSearched L seed O K R
      → ((b : A) → IsTrue (K b) → IsTrue (M' b)) → ((e : E) → IsTrue (settled e) → IsTrue (R e)) → (b : A) → O b → IsTrue (M' b) ⊎ IsTrue (L.local settled b)
  joined_rest {R = R} {settled = settled} s more part b o = elim (s.rest b o) [ inl t ↦ inl (more b t) | inr l ↦ inr (antitone.shrinks settled R b (λ e _ h. part e h) l) ]

-- the members of both rows
pub union_also : (left right row : List Bool) → row ≡ union left right → HasAlso (has left) (has right) (has row)
union_also left right row same i =
    let e : has row i ≡ (has left i || has right i) = ap (λ r. has r i) same ∙ has-union left right i in (
      (λ t. or_cases (has left i) (has right i) (sym e ∙ t)),
      (λ h. e ∙ elim h [ inl t ↦ or_left (has left i) (has right i) t | inr t ↦ or_right (has left i) (has right i) t ]),
    )

-- what waits of some symbols waits of more
pub waiting_more : (pending : List ℕ) (reached more : List Bool) → IsWaiting pending reached → IsSubset reached more → IsWaiting pending more
waiting_more pending reached more w part = record {
  part = λ s t. part s (w.part s t);
  distinct = w.distinct;
  room = omega (arith, w.room, member_count-subset reached more part);
}

-- first one step, then another
pub moved_more : (out mid after : List Bool) (pending between last : List ℕ) → HasMoved out pending mid between → HasMoved mid between after last → HasMoved out pending after last
moved_more out mid after pending between last first_step second_step = elim first_step [
  | inl l ↦ elim second_step [
    | inl m ↦ inl (omega (arith, l, m))
    | inr e ↦ inl (subst (λ r. member_count out < member_count r) (sym e.0) l)
  ]
  | inr d ↦ elim second_step [
    | inl m ↦ inl (subst (λ r. member_count r < member_count after) d.0 m)
    | inr e ↦ inr (e.0 ∙ d.0, e.1 ∙ d.1)
  ]
]
