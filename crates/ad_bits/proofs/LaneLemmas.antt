-- Four words at a time.
use Rattle.std.proofs.Common.{◌≡◌, ◌≢◌, ℕ, zero, suc, ◌+◌, ◌-◌, ◌*◌, ◌%◌, ◌≤◌, ◌<◌, not, eqb, List, [], ◌∷◌, length, get_or, map, refl, ap, sym, subst, ◌∙◌, arith, ◌⊎◌, inl, inr, bit_or, bit_xor}
use lib.Lanes.{zip2, fold_l, chunk, put_chunk}
use Rattle.std.specs.Bool.{OnTrue, OnFalse}
use Rattle.std.specs.Int.{bit_at}
use Rattle.std.specs.Int.Bits.{or_zero_l}
use Rattle.std.proofs.lemmas.Bool.{cases_lt, cases_eq, OnTrue_from, OnFalse_from, not-true, not-false, eqb-false, eqb-true}
use Rattle.std.proofs.lemmas.List.{get_or_past, get_or-map, length-map}
use Rattle.std.proofs.lemmas.Nat.{le_or_l, le_or_r}
use Rattle.std.proofs.lemmas.Nat.Bits.{same_from_bits, bit_at_xor, bit_at-zero, bit_at-lt}
use Rattle.std.proofs.lemmas.Simd.{length-chunk, get_or-chunk, get_or-put_chunk_at, get_or-put_chunk_below, get_or-put_chunk_above, get_or-zip2}
use Rattle.ad_bits.specs.Words.{ChangesLanes, SomeLane, NoLane}

-- the first n words are f of what they and the other's were, and the rest is as it was
pub record IsChangedBelow (f : ℕ → ℕ → ℕ) (old now other : List ℕ) (n : ℕ) : Type 0 where
  pub done : (k : ℕ) → k < n → get_or now k 0 ≡ f (get_or old k 0) (get_or other k 0)
  pub left : (k : ℕ) → n ≤ k → get_or now k 0 ≡ get_or old k 0

module _ (f : ℕ → ℕ → ℕ) (old now other : List ℕ) where
  pub changed_none : IsChangedBelow f old old other 0
  changed_none = record { done = λ k h. absurd (omega arith); left = λ k h. refl }

  pub changed_more : (next : List ℕ) (i : ℕ) → IsChangedBelow f old now other (4 * i) → ChangesLanes f now next other (4 * i) → IsChangedBelow f old next other (4 * (i + 1))
  changed_more next i before step = record {
    done = λ k h.
        elim (cases_lt k (4 * i)) [
          | inl early ↦ step.below k early ∙ before.done k early
          | inr late ↦ step.inside k late (omega arith) ∙ ap (λ w. f w (get_or other k 0)) (before.left k late)
        ];
    left = λ k h. step.above k (omega arith) ∙ before.left k (omega arith);
  }

  pub changed_all : (n : ℕ) → IsChangedBelow f old now other n → length old ≡ n → length now ≡ n → length other ≡ n → f 0 0 ≡ 0 → (k : ℕ) → get_or now k 0 ≡ f (get_or old k 0) (get_or other k 0)
  changed_all n all a b c zeros k =
      elim (cases_lt k n) [
        | inl within ↦ all.done k within
        | inr past ↦
            get_or_past now k 0 (omega arith) ∙ sym zeros
            ∙ ap (λ w. f w 0) (sym (get_or_past old k 0 (omega arith)))
            ∙ ap (λ w. f (get_or old k 0) w) (sym (get_or_past other k 0 (omega arith)))
      ]

-- ---- one vector of four

or_head : (x : ℕ) (lanes : List ℕ) → x ≡ 0 → ((j : ℕ) → get_or lanes j 0 ≡ 0) → (j : ℕ) → get_or (x ∷ lanes) j 0 ≡ 0
or_head x lanes first rest zero = first
or_head x lanes first rest (suc j) = rest j

-- where the lanes' `or` is 0, each of them is
or_none : (lanes : List ℕ) (a : ℕ) → fold_l bit_or a lanes ≡ 0 → (a ≡ 0) × ((j : ℕ) → get_or lanes j 0 ≡ 0)
or_none [] a is = (is, λ _. refl)
or_none (x ∷ lanes) a is =
    let rest = or_none lanes (bit_or a x) is in
    (omega (arith, rest.0, le_or_l a x), or_head x lanes (omega (arith, rest.0, le_or_r a x)) rest.1)

-- where it isn't, some lane isn't
or_some : (lanes : List ℕ) (a : ℕ) → fold_l bit_or a lanes ≢ 0 → (a ≢ 0) ⊎ ((j : ℕ) × (j < length lanes) × (get_or lanes j 0 ≢ 0))
or_some [] a is = inl is
or_some (x ∷ lanes) a is =
    elim (or_some lanes (bit_or a x) is) [
      | inl both ↦
          elim (cases_eq a 0) [
            | inl none ↦ inr (0, omega arith, λ zeros. both (ap (λ w. bit_or w x) none ∙ or_zero_l x ∙ zeros))
            | inr some ↦ inl some
          ]
      | inr (j, within, set) ↦ inr (suc j, omega arith, set)
    ]

-- the lane of two vectors that f joins, g changing the second before
pub zipped : (f : ℕ → ℕ → ℕ) (left right : List ℕ) (at j : ℕ) → at + 4 ≤ length left → at + 4 ≤ length right → j < 4
    → get_or (zip2 f (chunk at 4 left) (chunk at 4 right)) j 0 ≡ f (get_or left (at + j) 0) (get_or right (at + j) 0)
zipped f left right at j here there within =
    get_or-zip2 f (chunk at 4 left) (chunk at 4 right) j 0 0 0 (omega (arith, length-chunk at 4 left here)) (omega (arith, length-chunk at 4 right there))
    ∙ ap (λ w. f w (get_or (chunk at 4 right) j 0)) (get_or-chunk at 4 left j 0 within)
    ∙ ap (λ w. f (get_or left (at + j) 0) w) (get_or-chunk at 4 right j 0 within)

pub zipped_map : (f : ℕ → ℕ → ℕ) (g : ℕ → ℕ) (left right : List ℕ) (at j : ℕ) → at + 4 ≤ length left → at + 4 ≤ length right → j < 4
    → get_or (zip2 f (chunk at 4 left) (map g (chunk at 4 right))) j 0 ≡ f (get_or left (at + j) 0) (g (get_or right (at + j) 0))
zipped_map f g left right at j here there within =
    get_or-zip2 f (chunk at 4 left) (map g (chunk at 4 right)) j 0 0 0 (omega (arith, length-chunk at 4 left here)) (omega (arith, length-map (chunk at 4 right) g, length-chunk at 4 right there))
    ∙ ap (λ w. f w (get_or (map g (chunk at 4 right)) j 0)) (get_or-chunk at 4 left j 0 within)
    ∙ ap (λ w. f (get_or left (at + j) 0) w) (get_or-map g (chunk at 4 right) j 0 0 (omega (arith, length-chunk at 4 right there)) ∙ ap g (get_or-chunk at 4 right j 0 within))

module _ (f : ℕ → ℕ → ℕ) (left right lanes : List ℕ) (at : ℕ) (four : length lanes ≡ 4)
    (each : (j : ℕ) → j < 4 → get_or lanes j 0 ≡ f (get_or left (at + j) 0) (get_or right (at + j) 0)) where
  pub lanes_put : at + 4 ≤ length left → ChangesLanes f left (put_chunk at left lanes) right at
  lanes_put room = record {
    inside = λ k low high.
        let there : at + (k - at) ≡ k = omega arith in
        let P : ℕ → Type 0 = λ m. get_or (put_chunk at left lanes) m 0 ≡ f (get_or left m 0) (get_or right m 0) in
        subst P there (get_or-put_chunk_at at left lanes (k - at) 0 (omega arith) (omega arith) ∙ each (k - at) (omega arith));
    below = λ k low. get_or-put_chunk_below at left lanes k 0 low;
    above = λ k high. get_or-put_chunk_above at left lanes k 0 (omega arith);
  }

  pub lanes_some : OnTrue (not (eqb (fold_l bit_or 0 lanes) 0)) (SomeLane f left right at)
  lanes_some =
      OnTrue_from (not (eqb (fold_l bit_or 0 lanes) 0)) (SomeLane f left right at)
      (λ is.
      elim (or_some lanes 0 (eqb-false _ 0 (not-true _ is))) [
        | inl none ↦ absurd (none refl)
        | inr (j, within, set) ↦ record {
          lane = at + j;
          from = omega arith;
          within = omega arith;
          set = λ zero. set (each j (omega arith) ∙ zero);
        }
      ])

  pub lanes_none : OnFalse (not (eqb (fold_l bit_or 0 lanes) 0)) (NoLane f left right at)
  lanes_none =
      OnFalse_from (not (eqb (fold_l bit_or 0 lanes) 0)) (NoLane f left right at)
      (λ is k low high.
      let there : at + (k - at) ≡ k = omega arith in
      let P : ℕ → Type 0 = λ m. f (get_or left m 0) (get_or right m 0) ≡ 0 in
      subst P there (sym (each (k - at) (omega arith)) ∙ (or_none lanes 0 (eqb-true _ 0 (not-false _ is))).1 (k - at)))

-- ---- a whole slice

-- no two of the first n words are other than 0 under f
abbrev pub NoneBelow : (ℕ → ℕ → ℕ) → List ℕ → List ℕ → ℕ → Type 0
NoneBelow f left right n = (k : ℕ) → k < n → f (get_or left k 0) (get_or right k 0) ≡ 0

pub none_more : (f : ℕ → ℕ → ℕ) (left right : List ℕ) (i : ℕ) → NoneBelow f left right (4 * i) → NoLane f left right (4 * i) → NoneBelow f left right (4 * (i + 1))
none_more f left right i before here k within =
    elim (cases_lt k (4 * i)) [
      | inl early ↦ before k early
      | inr late ↦ here k late (omega arith)
    ]

-- the same of all words, since past the last both are 0
pub none_all : (f : ℕ → ℕ → ℕ) (left right : List ℕ) (n : ℕ) → NoneBelow f left right n → length left ≡ n → length right ≡ n → f 0 0 ≡ 0 → (k : ℕ) → f (get_or left k 0) (get_or right k 0) ≡ 0
none_all f left right n all a b zeros k =
    elim (cases_lt k n) [
      | inl within ↦ all k within
      | inr past ↦
          ap (λ w. f w (get_or right k 0)) (get_or_past left k 0 (omega arith)) ∙ ap (λ w. f 0 w) (get_or_past right k 0 (omega arith)) ∙ zeros
    ]

-- two numbers with no bit in which they differ are the same
pub same_from_xor : (a b : ℕ) → bit_xor a b ≡ 0 → a ≡ b
same_from_xor a b none =
    same_from_bits a b
    (λ i.
    let here : (bit_at a i + bit_at b i) % 2 ≡ 0 = sym (bit_at_xor a b i) ∙ ap (λ w. bit_at w i) none ∙ bit_at-zero i in
    omega (arith, here, bit_at-lt a i, bit_at-lt b i))
