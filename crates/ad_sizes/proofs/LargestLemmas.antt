-- Among the members of a row those whose numbers are the largest, place by place.
use Rattle.std.proofs.Common.{◌≡◌, ℕ, ◌+◌, ◌*◌, ◌<◌, ◌≤◌, Bool, true, false, ◌&&◌, not, List, [], length, get_or, drop, drop-cons, suc, IsTrue, IsFalse, inl, inr, refl, sym, ◌∙◌, subst, arith}
use Rattle.std.proofs.lemmas.Bool.{cases_lt}
use Rattle.ad_bits.specs.Rows.{has, IsSubset}
use Rattle.ad_theory.proofs.Members.{either, and_intro, and_left, and_right, not_true, false_not}
use Rattle.ad_sizes.specs.Places.{lowest, number_over, KeepsHaving}
use Rattle.ad_sizes.specs.Sizes.{AreLargest}

-- at the start all are left
pub all_largest : (size : ℕ → ℕ) (members : List Bool) → ((i k : ℕ) → size k ≤ size i) → AreLargest size members members
all_largest size members same = record {
  largest = λ i. (λ t. (t, λ k _. same i k), λ h. h.0);
  some = λ i t. (i, t);
}

pub largest_as : (f g : ℕ → ℕ) (members left : List Bool) → ((i : ℕ) → IsTrue (has members i) → f i ≡ g i) → AreLargest f members left → AreLargest g members left
largest_as f g members left same h = record {
  largest = λ i. (
    λ t. let m = (h.largest i).0 t in (m.0, λ k s. let l = m.1 k s in omega (arith, same k s, same i m.0)),
    λ m. (h.largest i).1 (m.0, λ k s. let l = m.1 k s in omega (arith, same k s, same i m.0)),
  );
  some = h.some;
}

module _ (lacking : List Bool) (high : ℕ → ℕ) (members left : List Bool) (before : AreLargest high members left) where
  with_low : ℕ → ℕ
  with_low i = lowest lacking i + 2 * high i

  lacks : (i : ℕ) → IsTrue (has lacking i) → lowest lacking i ≡ 0
  lacks i t = let e : has lacking i ≡ true = t in rw e refl

  has_it : (i : ℕ) → IsFalse (has lacking i) → lowest lacking i ≡ 1
  has_it i f = let e : has lacking i ≡ false = f in rw e refl

  low_le : (i : ℕ) → lowest lacking i ≤ 1
  low_le i = elim (either (has lacking i)) [ inl t ↦ omega (arith, lacks i t) | inr f ↦ omega (arith, has_it i f) ]

  -- all that are left lack the place
  pub all_lack : IsSubset left lacking → AreLargest (λ i. lowest lacking i + 2 * high i) members left
  all_lack within = record {
    largest = λ i. (
      λ t.
          let m = (before.largest i).0 t in (
            m.0,
            λ k s.
                let l = m.1 k s in
                let e = lacks i (within i t) in
                elim (cases_lt (high k) (high i)) [
                  | inl h ↦ omega (arith, low_le k)
                  | inr h ↦ (
                      let top = (before.largest k).1 (s, λ n u. let b = m.1 n u in omega arith) in
                      omega (arith, lacks k (within k top))
                      )
                ],
          ),
      λ m. (before.largest i).1 (m.0, λ k s. let l = m.1 k s in omega (arith, low_le i, l)),
    );
    some = before.some;
  }

  -- some have it
  pub some_have : (new : List Bool) (j : ℕ) → IsTrue (has left j && not (has lacking j)) → ((k : ℕ) → has new k ≡ (has left k && not (has lacking k))) → AreLargest (λ i. lowest lacking i + 2 * high i) members new
  some_have new j there is =
      let m = (before.largest j).0 (and_left (has left j) (not (has lacking j)) there) in
      let one = has_it j (not_true (has lacking j) (and_right (has left j) (not (has lacking j)) there)) in
      record {
        largest = λ i. (
          λ t.
              let u = sym (is i) ∙ t in
              let n = (before.largest i).0 (and_left (has left i) (not (has lacking i)) u) in
              let e = has_it i (not_true (has lacking i) (and_right (has left i) (not (has lacking i)) u)) in
              (n.0, λ k s. let l = n.1 k s in omega (arith, low_le k)),
          λ n.
              let l = n.1 j m.0 in
              let h = m.1 i n.0 in
              let same : high i ≡ high j = omega (arith, low_le i) in
              is i ∙ and_intro (has left i) (not (has lacking i))
              ((before.largest i).1 (n.0, λ k s. let b = m.1 k s in omega arith))
              (elim (either (has lacking i)) [
                | inr f ↦ false_not (has lacking i) f
                | inl t ↦ absurd (omega (arith, lacks i t))
              ]),
        );
        some = λ _ _. (j, is j ∙ there);
      }

kept : (lacking : List Bool) (high : ℕ → ℕ) (members left new : List Bool) → AreLargest high members left → KeepsHaving lacking left new → AreLargest (λ i. lowest lacking i + 2 * high i) members new
kept lacking high members left new before (inl h) = subst (AreLargest (λ i. lowest lacking i + 2 * high i) members) (sym h.1) (all_lack lacking high members left before h.0)
kept lacking high members left new before (inr h) =
    let o = h.0 in
    some_have lacking high members left before new o.0 (and_intro (has left o.0) (not (has lacking o.0)) o.1 (false_not (has lacking o.0) o.2)) h.1

-- one place lower
pub one_place : (places : List (List Bool)) (at above : ℕ) (lacking members left new : List Bool) → above ≡ at + 1 → lacking ≡ get_or places at [] → at < length places →
    AreLargest (number_over 0 (drop above places)) members left → KeepsHaving lacking left new → AreLargest (number_over 0 (drop at places)) members new
one_place places at above lacking members left new next read within before keeps =
    let next' : above ≡ suc at = omega arith in
    subst (λ ps. AreLargest (number_over 0 ps) members new) (sym (drop-cons places at [] within))
    (kept (get_or places at []) (number_over 0 (drop (suc at) places)) members left new
    (subst (λ n. AreLargest (number_over 0 (drop n places)) members left) next' before)
    (subst (λ r. KeepsHaving r left new) read keeps))
