-- Going through the members of a row, the largest first, and taking the row of each away: those that are met are in the
-- row of no other member.
use Rattle.std.proofs.Common.{◌≡◌, ◌≢◌, ◌↔◌, ℕ, ◌<◌, Bool, true, false, ◌&&◌, not, List, length, slice_index, IsTrue, IsFalse, inl, inr, refl, sym, ◌∙◌, ap, subst, arith}
use Rattle.std.proofs.lemmas.Bool.{cases_eq}
use Rattle.ad_bits.specs.Rows.{has, member_count}
use Rattle.ad_bits.proofs.Rows.{member_count-outside}
use Rattle.ad_theory.proofs.Members.{either, not_both, and_intro, and_left, and_right, not_true, false_not}
use Rattle.ad_sizes.specs.Sizes.{AreLargest}
use Rattle.ad_depend.specs.Numbering.{IsLargestOf}

-- the members of the row are in rows that nest, and one that is in the row of another has a smaller row
pub record AreRanked (G : ℕ → ℕ → Bool) (size : ℕ → ℕ) (start : List Bool) : Type 0 where
  pub own : (a : ℕ) → IsTrue (has start a) → IsTrue (G a a)
  pub nested : (a b c : ℕ) → IsTrue (has start a) → IsTrue (G a b) → IsTrue (G b c) → IsTrue (G a c)
  pub smaller : (a b : ℕ) → IsTrue (has start a) → IsTrue (has start b) → IsTrue (G a b) → a ≢ b → size b < size a

-- no other member has b in its row
abbrev pub IsUncovered : (ℕ → ℕ → Bool) → List Bool → ℕ → Type 0
IsUncovered G start b = (c : ℕ) → IsTrue (has start c) → IsTrue (G c b) → c ≡ b

-- What is left are members, and with each of them those that have it in their rows; of the others those in the row of
-- no other member are in the row over the numbers of members.
pub record IsWalked (G : ℕ → ℕ → Bool) (firsts : List ℕ) (start left row : List Bool) : Type 0 where
  pub within : (s : ℕ) → IsTrue (has left s) → IsTrue (has start s)
  pub above : (a b : ℕ) → IsTrue (has start a) → IsTrue (has start b) → IsTrue (G a b) → IsTrue (has left b) → IsTrue (has left a)
  pub found : (j : ℕ) → j < length firsts → IsTrue (has row j) ↔ (IsTrue (has start (slice_index firsts j)) × IsFalse (has left (slice_index firsts j)) × IsUncovered G start (slice_index firsts j))

module _ (G : ℕ → ℕ → Bool) (firsts : List ℕ) (start : List Bool) where
  pub walk_begins : (row : List Bool) → ((j : ℕ) → IsFalse (has row j)) → IsWalked G firsts start start row
  walk_begins row empty = record {
    within = λ s t. t;
    above = λ a b s t g u. s;
    found = λ j l. (λ t. absurd (not_both t (empty j)), λ h. absurd (not_both h.0 h.1));
  }

  pub walk_ends : (left row : List Bool) → IsWalked G firsts start left row → ((k : ℕ) → IsFalse (has left k)) → (j : ℕ) → j < length firsts →
      IsTrue (has row j) ↔ (IsTrue (has start (slice_index firsts j)) × IsUncovered G start (slice_index firsts j))
  walk_ends left row walked none j l = (
    λ t. let h = (walked.found j l).0 t in (h.0, h.2),
    λ h. (walked.found j l).1 (h.0, none (slice_index firsts j), h.1),
  )

  module _ (size : ℕ → ℕ) (ranked : AreRanked G size start) (left row : List Bool) (walked : IsWalked G firsts start left row) (m : ℕ) (largest : IsLargestOf size left m) where
    member : IsTrue (has start m)
    member = walked.within m largest.0

    uncovered : IsUncovered G start m
    uncovered c s g = elim (cases_eq c m) [
      | inl e ↦ e
      | inr n ↦ absurd (omega (arith, largest.1 c (walked.above c m s member g largest.0), ranked.smaller c m s member g n))
    ]

    module _ (after next : List Bool) (gone : (k : ℕ) → has after k ≡ (has left k && not (G m k))) where
      stays : (k : ℕ) → IsTrue (has after k) → IsTrue (has left k) × IsFalse (G m k)
      stays k t = let u = sym (gone k) ∙ t in (and_left (has left k) (not (G m k)) u, not_true (G m k) (and_right (has left k) (not (G m k)) u))

      goes : (k : ℕ) → IsTrue (G m k) → IsFalse (has after k)
      goes k g = elim (either (has after k)) [ inr f ↦ f | inl t ↦ absurd (not_both g (stays k t).1) ]

      pub walk_goes_on : (i : ℕ) → i < length firsts → slice_index firsts i ≡ m → ((j : ℕ) → j < length firsts → slice_index firsts j ≡ m → j ≡ i) →
          IsTrue (has next i) → ((j : ℕ) → j ≢ i → has next j ≡ has row j) → IsWalked G firsts start after next
      walk_goes_on i k is only here others = record {
        within = λ s t. walked.within s (stays s t).0;
        above = λ a b s t g u.
            let old = stays b u in
            gone a ∙ and_intro (has left a) (not (G m a)) (walked.above a b s t g old.0)
            (elim (either (G m a)) [
              | inr f ↦ false_not (G m a) f
              | inl h ↦ absurd (not_both (ranked.nested m a b member h g) old.1)
            ]);
        found = λ j l. elim (cases_eq j i) [
          | inl e ↦ (let same : slice_index firsts j ≡ m = ap (slice_index firsts) e ∙ is in (
            λ _. (
              subst (λ f. IsTrue (has start f)) (sym same) member,
              subst (λ f. IsFalse (has after f)) (sym same) (goes m (ranked.own m member)),
              subst (IsUncovered G start) (sym same) uncovered,
            ),
            λ _. subst (λ n. IsTrue (has next n)) (sym e) here,
          ))
          | inr n ↦ (
            λ t. let h = (walked.found j l).0 (sym (others j n) ∙ t) in (h.0, lost (slice_index firsts j) h.1, h.2),
            λ h. others j n ∙ (walked.found j l).1 (
              h.0,
              (elim (either (has left (slice_index firsts j))) [
                | inr f ↦ f
                | inl t ↦ absurd (n (only j l (sym (h.2 m member (taken (slice_index firsts j) t h.1)))))
              ]),
              h.2,
            ),
          )
        ];
      }
        where
          lost : (b : ℕ) → IsFalse (has left b) → IsFalse (has after b)
          lost b f = elim (either (has after b)) [ inr g ↦ g | inl t ↦ absurd (not_both (stays b t).0 f) ]

          taken : (b : ℕ) → IsTrue (has left b) → IsFalse (has after b) → IsTrue (G m b)
          taken b t f = elim (either (G m b)) [ inl g ↦ g | inr n ↦ absurd (not_both (gone b ∙ and_intro (has left b) (not (G m b)) t (false_not (G m b) n)) f) ]

-- one of those that are the largest
pub largest_one : (size : ℕ → ℕ) (left from largest : List Bool) → from ≡ left → AreLargest size from largest → (m : ℕ) → IsTrue (has largest m) → IsLargestOf size left m
largest_one size left from largest e are m t = let l = subst (λ r. AreLargest size r largest) e are in (l.largest m).0 t

-- with a row that has the member fewer are left
pub fewer : (G : ℕ → ℕ → Bool) (left after : List Bool) (m : ℕ) → IsTrue (has left m) → IsTrue (G m m) → ((k : ℕ) → has after k ≡ (has left k && not (G m k))) → member_count after < member_count left
fewer G left after m t own gone =
    let here : G m m ≡ true = own in
    let there : has left m ≡ true = t in
    let out : has after m ≡ false = gone m ∙ rw (there, here) refl in
    member_count-outside after left m (λ k u. and_left (has left k) (not (G m k)) (sym (gone k) ∙ u)) out there
