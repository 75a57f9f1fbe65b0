-- The stack of symbols that wait: pushing one that is newly reached, and popping the last.
use Rattle.std.proofs.Common.{◌≡◌, ◌≢◌, ℕ, zero, suc, ◌+◌, ◌<◌, ◌≤◌, ◌==◌, not, Bool, true, false, ◌⊎◌, ◌↔◌, List, [], ◌∷◌, ◌++◌, length, set, IsTrue, IsFalse, inl, inr, refl, sym, subst, ◌∙◌, eqb-true, eq-eqb, arith, length-append, get_or, take, not-suc-le-zero, le_of_suc-le-suc, eq-or-lt_of_le}
use Rattle.std.proofs.lemmas.List.{take_more}
use Rattle.std.proofs.lemmas.Bool.{cases_lt}
use Rattle.ad_bits.specs.Rows.{has, IsLeastFrom, HasNoneFrom}
use Rattle.ad_bits.proofs.Rows.{has-set_same, has-set_other, member_count-set}
use Rattle.ad_theory.specs.Numbers.{among}
use Rattle.ad_theory.specs.Sweep.{HasAlso}
use Rattle.ad_theory.proofs.Members.{either, not_both, or_left, or_right, or_cases, and_intro, and_left, false_not}
use Rattle.ad_extract.specs.Waiting.{AreDistinct, IsWaiting, settled}

-- what stands in a list with one more number
pub last_cases : (xs : List ℕ) (x s : ℕ) → IsTrue (among (xs ++ x ∷ []) s) → IsTrue (among xs s) ⊎ (s ≡ x)
last_cases [] x s t = inr (elim (or_cases (x == s) false t) [ inl e ↦ sym (eqb-true x s e) | inr f ↦ absurd (not_both f refl) ])
last_cases (y ∷ xs) x s t = elim (or_cases (y == s) (among (xs ++ x ∷ []) s) t) [
  | inl e ↦ inl (or_left (y == s) (among xs s) e)
  | inr h ↦ elim (last_cases xs x s h) [ inl k ↦ inl (or_right (y == s) (among xs s) k) | inr e ↦ inr e ]
]

pub last_old : (xs : List ℕ) (x s : ℕ) → IsTrue (among xs s) → IsTrue (among (xs ++ x ∷ []) s)
last_old [] x s t = absurd (not_both t refl)
last_old (y ∷ xs) x s t = elim (or_cases (y == s) (among xs s) t) [
  | inl e ↦ or_left (y == s) (among (xs ++ x ∷ []) s) e
  | inr h ↦ or_right (y == s) (among (xs ++ x ∷ []) s) (last_old xs x s h)
]

pub last_new : (xs : List ℕ) (x : ℕ) → IsTrue (among (xs ++ x ∷ []) x)
last_new [] x = or_left (x == x) false (eq-eqb x x refl)
last_new (y ∷ xs) x = or_right (y == x) (among (xs ++ x ∷ []) x) (last_new xs x)

distinct_push : (xs : List ℕ) (x : ℕ) → AreDistinct xs → IsFalse (among xs x) → AreDistinct (xs ++ x ∷ [])
distinct_push [] x d f = (refl, tt)
distinct_push (y ∷ xs) x d f =
    let first : IsFalse (among (xs ++ x ∷ []) y) = elim (either (among (xs ++ x ∷ []) y)) [
      | inr g ↦ g
      | inl t ↦ elim (last_cases xs x y t) [
        | inl h ↦ absurd (not_both h d.0)
        | inr e ↦ absurd (not_both (or_left (y == x) (among xs x) (eq-eqb y x e)) f)
      ]
    ] in
    let rest : IsFalse (among xs x) = elim (either (among xs x)) [ inr g ↦ g | inl t ↦ absurd (not_both (or_right (y == x) (among xs x) t) f) ] in
    (first, distinct_push xs x d.1 rest)

distinct_pop : (xs : List ℕ) (x : ℕ) → AreDistinct (xs ++ x ∷ []) → AreDistinct xs × IsFalse (among xs x)
distinct_pop [] x d = (tt, refl)
distinct_pop (y ∷ xs) x d =
    let rest = distinct_pop xs x d.1 in
    let here : IsFalse (among xs y) = elim (either (among xs y)) [ inr g ↦ g | inl t ↦ absurd (not_both (last_old xs x y t) d.0) ] in
    let last : IsFalse (among (y ∷ xs) x) = elim (either (among (y ∷ xs) x)) [
      | inr g ↦ g
      | inl t ↦ elim (or_cases (y == x) (among xs x) t) [
        | inl e ↦ absurd (not_both (subst (λ z. IsTrue (among (xs ++ x ∷ []) z)) (sym (eqb-true y x e)) (last_new xs x)) d.0)
        | inr h ↦ absurd (not_both h rest.1)
      ]
    ] in
    ((here, rest.0), last)

-- a symbol that is newly reached waits
pub pushes : (pending : List ℕ) (reached : List Bool) (s : ℕ) → IsWaiting pending reached → s < length reached → IsFalse (has reached s) → IsWaiting (pending ++ s ∷ []) (set reached s true)
pushes pending reached s w below new = record {
  part = λ e t. elim (either (s == e)) [
    | inl q ↦ subst (λ z. IsTrue (has (set reached s true) z)) (eqb-true s e q) (has-set_same reached s true below)
    | inr n ↦ (let other : e ≢ s = λ q. not_both (eq-eqb s e (sym q)) n in
        elim (last_cases pending s e t) [ inl h ↦ has-set_other reached s e true other ∙ w.part e h | inr q ↦ absurd (other q) ])
  ];
  distinct = distinct_push pending s w.distinct (elim (either (among pending s)) [ inr g ↦ g | inl t ↦ absurd (not_both (w.part s t) new) ]);
  room = omega (arith, length-append pending (s ∷ []), member_count-set reached s below new, w.room);
}

pub pushes_settled : (pending : List ℕ) (reached : List Bool) (s : ℕ) → s < length reached → IsFalse (has reached s) → (e : ℕ) → settled (pending ++ s ∷ []) (set reached s true) e ≡ settled pending reached e
pushes_settled pending reached s below new e = elim (either (s == e)) [
  | inl q ↦ subst (λ z. settled (pending ++ s ∷ []) (set reached s true) z ≡ settled pending reached z) (eqb-true s e q)
      (let a : among (pending ++ s ∷ []) s ≡ true = last_new pending s in
      let b : has (set reached s true) s ≡ true = has-set_same reached s true below in
      rw (a, b, new) refl)
  | inr n ↦ (let other : e ≢ s = λ q. not_both (eq-eqb s e (sym q)) n in
      let a : has (set reached s true) e ≡ has reached e = has-set_other reached s e true other in
      let b : among (pending ++ s ∷ []) e ≡ among pending e = elim (either (among pending e)) [
        | inl t ↦ last_old pending s e t ∙ sym t
        | inr f ↦ elim (either (among (pending ++ s ∷ []) e)) [
          | inr g ↦ g ∙ sym f
          | inl t ↦ elim (last_cases pending s e t) [ inl h ↦ absurd (not_both h f) | inr q ↦ absurd (other q) ]
        ]
      ] in
      rw (a, b) refl)
]

-- a further member
pub set_members : (reached : List Bool) (s : ℕ) → s < length reached → (e : ℕ) → IsTrue (has (set reached s true) e) ↔ (IsTrue (has reached e) ⊎ (e ≡ s))
set_members reached s below e = elim (either (s == e)) [
  | inl q ↦ ((λ _. inr (sym (eqb-true s e q))), (λ _. subst (λ z. IsTrue (has (set reached s true) z)) (eqb-true s e q) (has-set_same reached s true below)))
  | inr n ↦ (let other : e ≢ s = λ q. not_both (eq-eqb s e (sym q)) n in
      let a : has (set reached s true) e ≡ has reached e = has-set_other reached s e true other in
      ((λ t. inl (sym a ∙ t)), (λ h. elim h [ inl t ↦ a ∙ t | inr q ↦ absurd (other q) ])))
]

-- the last symbol that waits, and the others
module _ (items pending : List ℕ) (reached : List Bool) (s : ℕ) (last : items ≡ pending ++ s ∷ []) (waiting : IsWaiting items reached) where
  waiting_last : IsWaiting (pending ++ s ∷ []) reached
  waiting_last = subst (λ l. IsWaiting l reached) last waiting

  pub pops : IsWaiting pending reached
  pops = record {
    part = λ e t. waiting_last.part e (last_old pending s e t);
    distinct = (distinct_pop pending s waiting_last.distinct).0;
    room = omega (arith, length-append pending (s ∷ []), waiting_last.room);
  }

  pub popped_reached : IsTrue (has reached s)
  popped_reached = waiting_last.part s (last_new pending s)

  pub popped_waited : IsFalse (settled items reached s)
  popped_waited = let a : among (pending ++ s ∷ []) s ≡ true = last_new pending s in let b : has reached s ≡ true = popped_reached in rw (last, a, b) refl

  pub popped_settled : IsTrue (settled pending reached s)
  popped_settled = and_intro (has reached s) (not (among pending s)) popped_reached (false_not (among pending s) (distinct_pop pending s waiting_last.distinct).1)

  pub popped_other : (e : ℕ) → e ≢ s → settled pending reached e ≡ settled items reached e
  popped_other e other =
      let b : among (pending ++ s ∷ []) e ≡ among pending e = elim (either (among pending e)) [
        | inl t ↦ last_old pending s e t ∙ sym t
        | inr f ↦ elim (either (among (pending ++ s ∷ []) e)) [
          | inr g ↦ g ∙ sym f
          | inl t ↦ elim (last_cases pending s e t) [ inl h ↦ absurd (not_both h f) | inr q ↦ absurd (other q) ]
        ]
      ] in
      rw (last, b) refl

-- nothing waits, and nothing is reached
pub waiting_none : (reached : List Bool) → IsWaiting [] reached
waiting_none reached = record { part = λ s t. absurd (not_both t refl); distinct = tt; room = omega arith }

-- what stands in a list at a place
pub among_at : (xs : List ℕ) (i : ℕ) → i < length xs → IsTrue (among xs (get_or xs i 0))
among_at [] i l = absurd (not-suc-le-zero l)
among_at (x ∷ xs) zero l = or_left (x == x) (among xs x) (eq-eqb x x refl)
among_at (x ∷ xs) (suc i) l = or_right (x == get_or xs i 0) (among xs (get_or xs i 0)) (among_at xs i (le_of_suc-le-suc l))

-- what stands among the first elements, and one more
pub among_more : (xs : List ℕ) (i : ℕ) → i < length xs → (s : ℕ) → IsTrue (among (take (i + 1) xs) s) ↔ (IsTrue (among (take i xs) s) ⊎ (s ≡ get_or xs i 0))
among_more xs i l s = rw (take_more xs i 0 l) (
  (λ t. last_cases (take i xs) (get_or xs i 0) s t),
  (λ h. elim h [
    | inl t ↦ last_old (take i xs) (get_or xs i 0) s t
    | inr e ↦ subst (λ z. IsTrue (among (take i xs ++ get_or xs i 0 ∷ []) z)) (sym e) (last_new (take i xs) (get_or xs i 0))
  ]),
)

-- one more of the names in a list was added
pub also_more : (xs : List ℕ) (i : ℕ) (before mid after : ℕ → Bool) → i < length xs → HasAlso before (among (take i xs)) mid
    → ((s : ℕ) → IsTrue (after s) ↔ (IsTrue (mid s) ⊎ (s ≡ get_or xs i 0))) → HasAlso before (among (take (i + 1) xs)) after
also_more xs i before mid after l h more e = (
  (λ t. elim ((more e).0 t) [
    | inl m ↦ elim ((h e).0 m) [ inl b ↦ inl b | inr a ↦ inr ((among_more xs i l e).1 (inl a)) ]
    | inr q ↦ inr ((among_more xs i l e).1 (inr q))
  ]),
  (λ s. elim s [
    | inl b ↦ (more e).1 (inl ((h e).1 (inl b)))
    | inr a ↦ elim ((among_more xs i l e).0 a) [ inl k ↦ (more e).1 (inl ((h e).1 (inr k))) | inr q ↦ (more e).1 (inr q) ]
  ]),
)

pub also_none : (xs : List ℕ) (before : ℕ → Bool) → HasAlso before (among (take 0 xs)) before
also_none xs before e = ((λ t. inl t), (λ h. elim h [ inl t ↦ t | inr t ↦ absurd (not_both t refl) ]))

-- the members of the seed below one more number
pub members_more : (seed : List Bool) (from i : ℕ) (mid after : ℕ → Bool) → IsLeastFrom seed from i
    → ((s : ℕ) → IsTrue (mid s) ↔ (IsTrue (has seed s) × (s < from))) → ((s : ℕ) → IsTrue (after s) ↔ (IsTrue (mid s) ⊎ (s ≡ i)))
    → (s : ℕ) → IsTrue (after s) ↔ (IsTrue (has seed s) × (s < i + 1))
members_more seed from i mid after least h more s = (
  (λ t. elim ((more s).0 t) [
    | inl m ↦ (let r = (h s).0 m in (r.0, omega (arith, r.1, least.at_or_above)))
    | inr e ↦ (subst (λ z. IsTrue (has seed z)) (sym e) least.member, omega (arith, e))
  ]),
  (λ r. elim (cases_lt s from) [
    | inl below ↦ (more s).1 (inl ((h s).1 (r.0, below)))
    | inr above ↦ elim (eq-or-lt_of_le (let q : s ≤ i = omega (arith, r.1) in q)) [
      | inl e ↦ (more s).1 (inr e)
      | inr l ↦ absurd (not_both r.0 (least.none_between s above l))
    ]
  ]),
)

-- and those below from are all, where there is none from it on
pub members_all : (seed : List Bool) (from : ℕ) (reached : ℕ → Bool) → HasNoneFrom seed from → ((s : ℕ) → IsTrue (reached s) ↔ (IsTrue (has seed s) × (s < from)))
    → (s : ℕ) → IsTrue (reached s) ↔ IsTrue (has seed s)
members_all seed from reached none h s = (
  (λ t. ((h s).0 t).0),
  (λ t. elim (cases_lt s from) [ inl below ↦ (h s).1 (t, below) | inr above ↦ absurd (not_both t (none s above)) ]),
)

-- what is settled was reached
pub settled_reached : (pending : List ℕ) (reached : List Bool) (s : ℕ) → IsTrue (settled pending reached s) → IsTrue (has reached s)
settled_reached pending reached s t = and_left (has reached s) (not (among pending s)) t
