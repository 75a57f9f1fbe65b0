-- Numbers that are given and released.
use Rattle.std.proofs.Common.{◌≡◌, ◌≢◌, ℕ, ◌+◌, ◌<◌, ◌≤◌, ◌==◌, Bool, true, false, cond, not, ◌⊎◌, IsTrue, IsFalse, List, [], ◌∷◌, ◌++◌, length, Option, None, Some, refl, sym, ap, ◌∙◌, subst, inl, inr, eqb-true, eq-eqb, arith, length-append}
use Rattle.ad_theory.specs.Numbers.{among}
use Rattle.ad_theory.proofs.Members.{either, not_both, or_left, or_right, or_cases, and_intro, and_left, and_right, not_true, false_not}
use Rattle.ad_entity.specs.Entities.{same_entity}
use Rattle.ad_entity.specs.declared.entities.Entity.{Entity}
use Rattle.ad_syntax_laws.proofs.EntityLemmas.{same_entity_is, same_entity_of}
use Rattle.ad_signature.specs.Spare.{are_distinct, IsTaken}

-- what stands in a list with one more number
last_cases : (xs : List ℕ) (x s : ℕ) → IsTrue (among (xs ++ x ∷ []) s) → IsTrue (among xs s) ⊎ (x ≡ s)
last_cases [] x s t = inr (elim (or_cases (x == s) false t) [ inl e ↦ eqb-true x s e | inr f ↦ absurd (not_both f refl) ])
last_cases (y ∷ xs) x s t = elim (or_cases (y == s) (among (xs ++ x ∷ []) s) t) [
  | inl e ↦ inl (or_left (y == s) (among xs s) e)
  | inr h ↦ elim (last_cases xs x s h) [ inl k ↦ inl (or_right (y == s) (among xs s) k) | inr e ↦ inr e ]
]

last_old : (xs : List ℕ) (x s : ℕ) → IsTrue (among xs s) → IsTrue (among (xs ++ x ∷ []) s)
last_old [] x s t = absurd (not_both t refl)
last_old (y ∷ xs) x s t = elim (or_cases (y == s) (among xs s) t) [
  | inl e ↦ or_left (y == s) (among (xs ++ x ∷ []) s) e
  | inr h ↦ or_right (y == s) (among (xs ++ x ∷ []) s) (last_old xs x s h)
]

last_new : (xs : List ℕ) (x : ℕ) → IsTrue (among (xs ++ x ∷ []) x)
last_new [] x = or_left (x == x) false (eq-eqb x x refl)
last_new (y ∷ xs) x = or_right (y == x) (among (xs ++ x ∷ []) x) (last_new xs x)

none_last : (xs : List ℕ) (x s : ℕ) → IsFalse (among (xs ++ x ∷ []) s) → IsFalse (among xs s)
none_last xs x s f = elim (either (among xs s)) [ inl t ↦ absurd (not_both (last_old xs x s t) f) | inr g ↦ g ]

distinct_push : (xs : List ℕ) (x : ℕ) → IsTrue (are_distinct xs) → IsFalse (among xs x) → IsTrue (are_distinct (xs ++ x ∷ []))
distinct_push [] x d f = refl
distinct_push (y ∷ xs) x d f =
    let first : IsFalse (among (xs ++ x ∷ []) y) = elim (either (among (xs ++ x ∷ []) y)) [
      | inr g ↦ g
      | inl t ↦ elim (last_cases xs x y t) [
        | inl h ↦ absurd (not_both h (not_true (among xs y) (and_left (not (among xs y)) (are_distinct xs) d)))
        | inr e ↦ absurd (not_both (or_left (y == x) (among xs x) (eq-eqb y x (sym e))) f)
      ]
    ] in
    let rest : IsFalse (among xs x) = elim (either (among xs x)) [ inr g ↦ g | inl t ↦ absurd (not_both (or_right (y == x) (among xs x) t) f) ] in
    and_intro (not (among (xs ++ x ∷ []) y)) (are_distinct (xs ++ x ∷ [])) (false_not (among (xs ++ x ∷ []) y) first) (distinct_push xs x (and_right (not (among xs y)) (are_distinct xs) d) rest)

distinct_pop : (xs : List ℕ) (x : ℕ) → IsTrue (are_distinct (xs ++ x ∷ [])) → IsTrue (are_distinct xs) × IsFalse (among xs x)
distinct_pop [] x d = (refl, refl)
distinct_pop (y ∷ xs) x d =
    let first : IsFalse (among (xs ++ x ∷ []) y) = not_true (among (xs ++ x ∷ []) y) (and_left (not (among (xs ++ x ∷ []) y)) (are_distinct (xs ++ x ∷ [])) d) in
    let rest = distinct_pop xs x (and_right (not (among (xs ++ x ∷ []) y)) (are_distinct (xs ++ x ∷ [])) d) in
    let last : IsFalse (among (y ∷ xs) x) = elim (either (among (y ∷ xs) x)) [
      | inr g ↦ g
      | inl t ↦ elim (or_cases (y == x) (among xs x) t) [
        | inl e ↦ absurd (not_both (subst (λ z. IsTrue (among (xs ++ x ∷ []) z)) (sym (eqb-true y x e)) (last_new xs x)) first)
        | inr h ↦ absurd (not_both h rest.1)
      ]
    ] in
    (and_intro (not (among xs y)) (are_distinct xs) (false_not (among xs y) (none_last xs x y first)) rest.0, last)

-- what is kept of the numbers that are given, those that were released, and the next
pub record IsKept (number : Entity → Option ℕ) (free : List ℕ) (next : ℕ) : Type 0 where
  pub below : (e : Entity) (n : ℕ) → number e ≡ Some n → n < next
  pub one_to_one : (e f : Entity) (n : ℕ) → number e ≡ Some n → number f ≡ Some n → IsTrue (same_entity e f)
  pub free_below : (n : ℕ) → IsTrue (among free n) → n < next
  pub free_unused : (e : Entity) (n : ℕ) → number e ≡ Some n → IsFalse (among free n)
  pub free_distinct : IsTrue (are_distinct free)

named_cases : (same : Bool) (n m : ℕ) (old : Option ℕ) → cond same (Some n) old ≡ Some m → (IsTrue same × (n ≡ m)) ⊎ (IsFalse same × (old ≡ Some m))
named_cases true n m old e = inl (refl, cc)
named_cases false n m old e = inr (refl, e)

unnamed_cases : (same : Bool) (m : ℕ) (old : Option ℕ) → cond same None old ≡ Some m → IsFalse same × (old ≡ Some m)
unnamed_cases true m old e = cc
unnamed_cases false m old e = (refl, e)

-- an entity is given a number that none has
module _ (before after : Entity → Option ℕ) (entity : Entity) (n : ℕ) (names : (e : Entity) → after e ≡ cond (same_entity entity e) (Some n) (before e)) where
  cases : (e : Entity) (m : ℕ) → after e ≡ Some m → (IsTrue (same_entity entity e) × (n ≡ m)) ⊎ (IsFalse (same_entity entity e) × (before e ≡ Some m))
  cases e m h = named_cases (same_entity entity e) n m (before e) (sym (names e) ∙ h)

  still_one_to_one : ((e : Entity) → before e ≢ Some n) → ((e f : Entity) (m : ℕ) → before e ≡ Some m → before f ≡ Some m → IsTrue (same_entity e f))
      → (e f : Entity) (m : ℕ) → after e ≡ Some m → after f ≡ Some m → IsTrue (same_entity e f)
  still_one_to_one unused old e f m g h = elim (cases e m g) [
    | inl a ↦ elim (cases f m h) [
      | inl b ↦ same_entity_of e f (sym (same_entity_is entity e a.0) ∙ same_entity_is entity f b.0)
      | inr b ↦ absurd (unused f (b.1 ∙ ap Some (sym a.1)))
    ]
    | inr a ↦ elim (cases f m h) [
      | inl b ↦ absurd (unused e (a.1 ∙ ap Some (sym b.1)))
      | inr b ↦ old e f m a.1 b.1
    ]
  ]

  -- one that was released
  given_released : (free' : List ℕ) (next : ℕ) → IsKept before (free' ++ n ∷ []) next → IsKept after free' next
  given_released free' next k =
      let unused : (e : Entity) → before e ≢ Some n = λ e h. not_both (last_new free' n) (k.free_unused e n h) in
      let popped = distinct_pop free' n k.free_distinct in
      record {
        below = λ e m h. elim (cases e m h) [ inl a ↦ subst (λ z. z < next) a.1 (k.free_below n (last_new free' n)) | inr a ↦ k.below e m a.1 ];
        one_to_one = still_one_to_one unused k.one_to_one;
        free_below = λ m t. k.free_below m (last_old free' n m t);
        free_unused = λ e m h. elim (cases e m h) [ inl a ↦ subst (λ z. IsFalse (among free' z)) a.1 popped.1 | inr a ↦ none_last free' n m (k.free_unused e m a.1) ];
        free_distinct = popped.0;
      }

  -- the next one
  given_next : IsKept before [] n → IsKept after [] (n + 1)
  given_next k =
      let unused : (e : Entity) → before e ≢ Some n = λ e h. let l : n < n = k.below e n h in absurd (omega arith) in
      record {
        below = λ e m h. elim (cases e m h) [ inl a ↦ subst (λ z. z < n + 1) a.1 (omega arith) | inr a ↦ (let l : m < n = k.below e m a.1 in omega arith) ];
        one_to_one = still_one_to_one unused k.one_to_one;
        free_below = λ m t. absurd (not_both t refl);
        free_unused = λ e m h. refl;
        free_distinct = refl;
      }

  pub given : (free free' : List ℕ) (next next' : ℕ) → IsKept before free next → IsTaken free next n free' next' → IsKept after free' next'
  given free free' next next' k taken = elim taken [
    | inl a ↦ subst (λ z. IsKept after free' z) (sym a.1) (given_released free' next (subst (λ l. IsKept before l next) a.0 k))
    | inr a ↦ subst (λ z. IsKept after free' z) (sym a.3) (subst (λ l. IsKept after l (next + 1)) (sym a.1)
        (subst (λ z. IsKept after [] (z + 1)) a.2 (given_next (subst (λ z. IsKept before [] z) (sym a.2) (subst (λ l. IsKept before l next) a.0 k)))))
  ]

  -- and none had it
  pub was_unused : (free free' : List ℕ) (next next' : ℕ) → IsKept before free next → IsTaken free next n free' next' → (e : Entity) → before e ≢ Some n
  was_unused free free' next next' k taken e h = elim taken [
    | inl a ↦ not_both (subst (λ l. IsTrue (among l n)) (sym a.0) (last_new free' n)) (k.free_unused e n h)
    | inr a ↦ (let l : n < next = k.below e n h in let q : n ≡ next = a.2 in absurd (omega arith))
  ]

-- an entity's number is released
pub released : (before after : Entity → Option ℕ) (entity : Entity) (n : ℕ) (free : List ℕ) (next : ℕ) → before entity ≡ Some n
    → ((e : Entity) → after e ≡ cond (same_entity entity e) None (before e)) → IsKept before free next → IsKept after (free ++ n ∷ []) next
released before after entity n free next had names k =
    let cases : (e : Entity) (m : ℕ) → after e ≡ Some m → IsFalse (same_entity entity e) × (before e ≡ Some m) = λ e m h. unnamed_cases (same_entity entity e) m (before e) (sym (names e) ∙ h) in
    record {
      below = λ e m h. k.below e m (cases e m h).1;
      one_to_one = λ e f m g h. k.one_to_one e f m (cases e m g).1 (cases f m h).1;
      free_below = λ m t. elim (last_cases free n m t) [ inl h ↦ k.free_below m h | inr q ↦ subst (λ z. z < next) q (k.below entity n had) ];
      free_unused = λ e m h. elim (either (among (free ++ n ∷ []) m)) [
        | inr f ↦ f
        | inl t ↦ elim (last_cases free n m t) [
          | inl a ↦ absurd (not_both a (k.free_unused e m (cases e m h).1))
          | inr q ↦ absurd (not_both (k.one_to_one entity e n had ((cases e m h).1 ∙ ap Some (sym q))) (cases e m h).0)
        ]
      ];
      free_distinct = distinct_push free n k.free_distinct (k.free_unused entity n had);
    }

-- how many are given, with those that were released, are all below the next
pub counted_given : (old new n next next' : ℕ) (free free' : List ℕ) → IsTaken free next n free' next' → old + length free ≡ next → new ≡ old + 1 → new + length free' ≡ next'
counted_given old new n next next' free free' taken counted more = elim taken [
  | inl a ↦ omega (arith, ap length a.0, length-append free' (n ∷ []), a.1)
  | inr a ↦ omega (arith, ap length a.0, ap length a.1, a.3)
]

pub within_given : (old n next next' limit : ℕ) (free free' : List ℕ) → IsTaken free next n free' next' → old + length free ≡ next → old < limit → next ≤ limit → next' ≤ limit
within_given old n next next' limit free free' taken counted few within = elim taken [
  | inl a ↦ omega (arith, a.1)
  | inr a ↦ omega (arith, ap length a.0, a.3)
]

pub next_given : (n next next' : ℕ) (free free' : List ℕ) → IsTaken free next n free' next' → next' ≤ next + 1
next_given n next next' free free' taken = elim taken [ inl a ↦ omega (arith, a.1) | inr a ↦ omega (arith, a.3) ]

pub given_below : (number : Entity → Option ℕ) (free free' : List ℕ) (n next next' limit old : ℕ) → IsKept number free next → IsTaken free next n free' next' → old + length free ≡ next → old < limit → next ≤ limit → n < limit
given_below number free free' n next next' limit old k taken counted few within = elim taken [
  | inl a ↦ (let l : n < next = k.free_below n (subst (λ l. IsTrue (among l n)) (sym a.0) (last_new free' n)) in omega arith)
  | inr a ↦ omega (arith, ap length a.0, a.2)
]
