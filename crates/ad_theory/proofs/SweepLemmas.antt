-- The lemmas that carry a sweep over a list: how it begins, takes an axiom, and ends.
use Rattle.std.proofs.Common.{◌≡◌, ℕ, zero, suc, ◌+◌, ◌<◌, ◌≤◌, Bool, true, false, ◌⊎◌, ◌↔◌, List, [], ◌∷◌, length, get_or, set, replicate, IsTrue, IsFalse, inl, inr, refl, sym, subst, ap, ◌∙◌, le_of_suc-le-suc, not-suc-le-zero, eq-or-lt_of_le, length-set, arith}
use Rattle.std.proofs.lemmas.List.{length-replicate}
use Rattle.std.specs.List.{Contains, filter, list_any}
use Rattle.ad_theory.specs.Module.{Logic, IsAntitone, IsClosed, IsModule}
use Rattle.ad_theory.specs.Listed.{IsListedModule, IsEqualityTest}
use Rattle.ad_theory.specs.Sweep.{IsGathered, IsSweeping, IsSettledBelow, HasAlso, chosen, unmarked}
use Rattle.ad_theory.proofs.Members.{Has, either, not_both, has_of_contains, contains_of_has, has_get_or, any_same, same_any}

chosen_none : {A : Type 0} (n : ℕ) (xs : List A) → chosen (replicate n false) xs ≡ []
chosen_none zero xs = refl
chosen_none (suc n) [] = refl
chosen_none (suc n) (x ∷ xs) = chosen_none n xs

chosen_has : {A : Type 0} (bs : List Bool) (xs : List A) (a : A) → Has (chosen bs xs) a → Has xs a
chosen_has [] xs a h = absurd h
chosen_has (b ∷ bs) [] a h = absurd h
chosen_has (true ∷ bs) (x ∷ xs) a (inl e) = inl e
chosen_has (true ∷ bs) (x ∷ xs) a (inr h) = inr (chosen_has bs xs a h)
chosen_has (false ∷ bs) (x ∷ xs) a h = inr (chosen_has bs xs a h)

-- a further mark: what was chosen stays, the marked element comes in, and no other
chosen-set_old : {A : Type 0} (bs : List Bool) (xs : List A) (k : ℕ) (a : A) → Has (chosen bs xs) a → Has (chosen (set bs k true) xs) a
chosen-set_old [] xs k a h = h
chosen-set_old (b ∷ bs) [] k a h = absurd h
chosen-set_old (true ∷ bs) (x ∷ xs) zero a h = h
chosen-set_old (false ∷ bs) (x ∷ xs) zero a h = inr h
chosen-set_old (true ∷ bs) (x ∷ xs) (suc k) a (inl e) = inl e
chosen-set_old (true ∷ bs) (x ∷ xs) (suc k) a (inr h) = inr (chosen-set_old bs xs k a h)
chosen-set_old (false ∷ bs) (x ∷ xs) (suc k) a h = chosen-set_old bs xs k a h

chosen-set_new : {A : Type 0} (bs : List Bool) (xs : List A) (k : ℕ) (d : A) → length bs ≡ length xs → k < length xs → Has (chosen (set bs k true) xs) (get_or xs k d)
chosen-set_new bs [] k d e l = absurd (not-suc-le-zero l)
chosen-set_new [] (x ∷ xs) k d e l = absurd (let z : 0 ≡ suc (length xs) = e in cc)
chosen-set_new (b ∷ bs) (x ∷ xs) zero d e l = inl refl
chosen-set_new (true ∷ bs) (x ∷ xs) (suc k) d e l = inr (chosen-set_new bs xs k d (let z : suc (length bs) ≡ suc (length xs) = e in cc) (le_of_suc-le-suc l))
chosen-set_new (false ∷ bs) (x ∷ xs) (suc k) d e l = chosen-set_new bs xs k d (let z : suc (length bs) ≡ suc (length xs) = e in cc) (le_of_suc-le-suc l)

chosen-set_cases : {A : Type 0} (bs : List Bool) (xs : List A) (k : ℕ) (d : A) (a : A) → Has (chosen (set bs k true) xs) a → Has (chosen bs xs) a ⊎ (a ≡ get_or xs k d)
chosen-set_cases [] xs k d a h = inl h
chosen-set_cases (b ∷ bs) [] zero d a h = absurd h
chosen-set_cases (b ∷ bs) [] (suc k) d a h = absurd h
chosen-set_cases (true ∷ bs) (x ∷ xs) zero d a h = inl h
chosen-set_cases (false ∷ bs) (x ∷ xs) zero d a (inl e) = inr e
chosen-set_cases (false ∷ bs) (x ∷ xs) zero d a (inr h) = inl h
chosen-set_cases (true ∷ bs) (x ∷ xs) (suc k) d a (inl e) = inl (inl e)
chosen-set_cases (true ∷ bs) (x ∷ xs) (suc k) d a (inr h) = elim (chosen-set_cases bs xs k d a h) [ inl r ↦ inl (inr r) | inr e ↦ inr e ]
chosen-set_cases (false ∷ bs) (x ∷ xs) (suc k) d a h = chosen-set_cases bs xs k d a h

chosen-marked : {A : Type 0} (bs : List Bool) (xs : List A) (k : ℕ) (d : A) → length bs ≡ length xs → k < length xs → IsTrue (get_or bs k true) → Has (chosen bs xs) (get_or xs k d)
chosen-marked bs [] k d e l m = absurd (not-suc-le-zero l)
chosen-marked [] (x ∷ xs) k d e l m = absurd (let z : 0 ≡ suc (length xs) = e in cc)
chosen-marked (true ∷ bs) (x ∷ xs) zero d e l m = inl refl
chosen-marked (false ∷ bs) (x ∷ xs) zero d e l m = absurd (not_both m refl)
chosen-marked (true ∷ bs) (x ∷ xs) (suc k) d e l m = inr (chosen-marked bs xs k d (let z : suc (length bs) ≡ suc (length xs) = e in cc) (le_of_suc-le-suc l) m)
chosen-marked (false ∷ bs) (x ∷ xs) (suc k) d e l m = chosen-marked bs xs k d (let z : suc (length bs) ≡ suc (length xs) = e in cc) (le_of_suc-le-suc l) m

-- where a test is true exactly at the marked elements, it keeps what was chosen
chosen_filter : {A : Type 0} (test : A → Bool) (bs : List Bool) (xs : List A) → length bs ≡ length xs
    → ((k : ℕ) (d : A) → k < length xs → IsTrue (get_or bs k true) → IsTrue (test (get_or xs k d)))
    → ((k : ℕ) (d : A) → k < length xs → IsFalse (get_or bs k true) → IsFalse (test (get_or xs k d)))
    → chosen bs xs ≡ filter test xs
chosen_filter test [] [] e on off = refl
chosen_filter test [] (x ∷ xs) e on off = absurd (let z : 0 ≡ suc (length xs) = e in cc)
chosen_filter test (b ∷ bs) [] e on off = refl
chosen_filter test (true ∷ bs) (x ∷ xs) e on off =
    let here : test x ≡ true = on 0 x (omega arith) refl in
    let rest : chosen bs xs ≡ filter test xs = chosen_filter test bs xs (let z : suc (length bs) ≡ suc (length xs) = e in cc) (λ k d l m. on (suc k) d (omega (arith, l)) m) (λ k d l m. off (suc k) d (omega (arith, l)) m) in
    rw (here, rest) refl
chosen_filter test (false ∷ bs) (x ∷ xs) e on off =
    let here : test x ≡ false = off 0 x (omega arith) refl in
    let rest : chosen bs xs ≡ filter test xs = chosen_filter test bs xs (let z : suc (length bs) ≡ suc (length xs) = e in cc) (λ k d l m. on (suc k) d (omega (arith, l)) m) (λ k d l m. off (suc k) d (omega (arith, l)) m) in
    rw (here, rest) refl

-- each new mark leaves one fewer unmarked
pub unmarked-set : (bs : List Bool) (k : ℕ) → k < length bs → IsFalse (get_or bs k true) → suc (unmarked (set bs k true)) ≡ unmarked bs
unmarked-set [] k l f = absurd (not-suc-le-zero l)
unmarked-set (true ∷ bs) zero l f = absurd (not_both refl f)
unmarked-set (false ∷ bs) zero l f = refl
unmarked-set (true ∷ bs) (suc k) l f = unmarked-set bs k (le_of_suc-le-suc l) f
unmarked-set (false ∷ bs) (suc k) l f = ap suc (unmarked-set bs k (le_of_suc-le-suc l) f)

module _ {A E : Type 0} (L : Logic A E) (seed : E → Bool) where
  -- at first nothing is gathered, and the seed is seen
  pub gathered_begins : (O M : A → Type 0) (seen : E → Bool) → ((a : A) → M a → ⊥) → ((e : E) → IsTrue (seen e) ↔ IsTrue (seed e)) → IsGathered L seed O M seen
  gathered_begins O M seen none names = record {
    within = λ a h. absurd (none a h);
    only = λ e h. inl ((names e).0 h);
    has_seed = λ e h. (names e).1 h;
    has_symbols = λ a e h s. absurd (none a h);
    below = λ N T c a h. absurd (none a h);
    needed = λ a h. absurd (none a h);
  }

  -- an axiom comes in that is not local for some of the names seen so far
  pub gathered_takes : IsAntitone L → {O M M' : A → Type 0} {seen seen' : E → Bool} → IsGathered L seed O M seen
      → (a : A) → O a → (names : E → Bool) → ((e : E) → IsTrue (names e) → IsTrue (seen e)) → IsFalse (L.local names a)
      → ((b : A) → M' b ↔ (M b ⊎ (b ≡ a))) → HasAlso seen (L.sig a) seen' → IsGathered L seed O M' seen'
  gathered_takes antitone {O} {M} {M'} {seen} {seen'} g a o names few new members also =
      let not_local : (T : E → Bool) → ((e : E) → IsTrue (seen e) → IsTrue (T e)) → IsTrue (L.local T a) → ⊥ =
      (λ T more t. not_both (antitone.shrinks names T a (λ e _ h. more e (few e h)) t) new) in
      let needed : (N : A → Bool) (T : E → Bool) → IsClosed L seed O N T → IsTrue (N a) =
      (λ N T c. elim (c.rest a o) [ inl h ↦ h | inr t ↦ absurd (not_local T (λ e h. elim (g.only e h) [ inl s ↦ c.has_seed e s | inr r ↦ c.has_symbols r.0 e (g.below N T c r.0 r.1) r.2 ]) t) ]) in
      record {
        within = λ b h. elim ((members b).0 h) [ inl m ↦ g.within b m | inr e ↦ subst O (sym e) o ];
        only = λ e h. elim ((also e).0 h) [
          | inl s ↦ elim (g.only e s) [ inl r ↦ inl r | inr r ↦ inr (r.0, (members r.0).1 (inl r.1), r.2) ]
          | inr s ↦ inr (a, (members a).1 (inr refl), s)
        ];
        has_seed = λ e h. (also e).1 (inl (g.has_seed e h));
        has_symbols = λ b e h s. elim ((members b).0 h) [
          | inl m ↦ (also e).1 (inl (g.has_symbols b e m s))
          | inr q ↦ (also e).1 (inr (subst (λ y. IsTrue (L.sig y e)) q s))
        ];
        below = λ N T c b h. elim ((members b).0 h) [ inl m ↦ g.below N T c b m | inr q ↦ subst (λ y. IsTrue (N y)) (sym q) (needed N T c) ];
        needed = λ b h. elim (either (L.local seen' b)) [
          | inr f ↦ f
          | inl t ↦ elim ((members b).0 h) [
            | inl m ↦ absurd (not_both (antitone.shrinks seen seen' b (λ e _ s. (also e).1 (inl s)) t) (g.needed b m))
            | inr q ↦ absurd (not_local seen' (λ e s. (also e).1 (inl s)) (subst (λ y. IsTrue (L.local seen' y)) q t))
          ]
        ];
      }

  -- once each other axiom is local for what was seen, the gathered ones are the module
  pub gathered_ends : {O M : A → Type 0} {seen : E → Bool} → IsGathered L seed O M seen → (test : A → Bool) → ((a : A) → IsTrue (test a) ↔ M a)
      → ((a : A) → O a → IsTrue (test a) ⊎ IsTrue (L.local seen a)) → IsModule L seed O test seen
  gathered_ends g test members rest = record {
    within = λ a t. g.within a ((members a).0 t);
    only = λ e h. elim (g.only e h) [ inl s ↦ inl s | inr r ↦ inr (r.0, (members r.0).1 r.1, r.2) ];
    closed = record {
      has_seed = g.has_seed;
      has_symbols = λ a e t s. g.has_symbols a e ((members a).0 t) s;
      rest = rest;
    };
    least = λ N T c a t. g.below N T c a ((members a).0 t);
  }

  -- a sweep begins with no mark set and the seed seen
  pub begins : (O : List A) (seen : E → Bool) → ((e : E) → IsTrue (seen e) ↔ IsTrue (seed e)) → IsSweeping L seed O (replicate (length O) false) seen
  begins O seen names = record {
    long = length-replicate (length O) false;
    gathered = gathered_begins (Contains O) (Contains (chosen (replicate (length O) false) O)) seen
        (λ a c. let h : Has (chosen (replicate (length O) false) O) a = has_of_contains (chosen (replicate (length O) false) O) a c in
        let h' : Has [] a = subst (λ l. Has l a) (chosen_none (length O) O) h in h')
        names;
  }

  -- it marks an axiom that is not local for what was seen, whose names are then seen too
  pub takes : IsAntitone L → (O : List A) (marks : List Bool) (seen seen' : E → Bool) (k : ℕ) (a : A) → IsSweeping L seed O marks seen
      → k < length O → a ≡ get_or O k a → IsFalse (L.local seen a) → HasAlso seen (L.sig a) seen' → IsSweeping L seed O (set marks k true) seen'
  takes antitone O marks seen seen' k a w l at new also = record {
    long = length-set marks k true ∙ w.long;
    gathered = gathered_takes antitone w.gathered a
        (contains_of_has O a (subst (λ y. Has O y) (sym at) (has_get_or O k a l))) seen (λ e h. h) new
        (λ b. (
          (λ c. elim (chosen-set_cases marks O k a b (has_of_contains (chosen (set marks k true) O) b c)) [ inl h ↦ inl (contains_of_has (chosen marks O) b h) | inr e ↦ inr (e ∙ sym at) ]),
          (λ h. contains_of_has (chosen (set marks k true) O) b (elim h [
            | inl c ↦ chosen-set_old marks O k b (has_of_contains (chosen marks O) b c)
            | inr e ↦ subst (λ y. Has (chosen (set marks k true) O) y) (sym (e ∙ at)) (chosen-set_new marks O k a w.long l)
          ])),
        ))
        also;
  }

  -- one more axiom is marked, or local for what was seen
  pub settled_more : (O : List A) (marks : List Bool) (seen : E → Bool) (n : ℕ) → IsSettledBelow L O marks seen n
      → ((d : A) → IsFalse (get_or marks n true) → IsTrue (L.local seen (get_or O n d))) → IsSettledBelow L O marks seen (n + 1)
  settled_more O marks seen n below here k d l f = elim (eq-or-lt_of_le (let q : k ≤ n = omega arith in q)) [
    | inl e ↦ subst (λ i. IsTrue (L.local seen (get_or O i d))) (sym e) (here d (subst (λ i. IsFalse (get_or marks i true)) e f))
    | inr q ↦ below k d q f
  ]

  module _ (same : A → A → Bool) (equality : IsEqualityTest same) where
    -- after a round that adds nothing the marked axioms are the module, and what was seen is its closure
    pub ends_module : (O : List A) (marks : List Bool) (seen : E → Bool) → IsSweeping L seed O marks seen → IsSettledBelow L O marks seen (length O)
        → IsModule L seed (Contains O) (λ a. list_any (same a) (chosen marks O)) seen
    ends_module O marks seen w settled = gathered_ends w.gathered (λ a. list_any (same a) (chosen marks O))
        (λ a. (
          (λ t. contains_of_has (chosen marks O) a (any_same same equality (chosen marks O) a t)),
          (λ c. same_any same equality (chosen marks O) a (has_of_contains (chosen marks O) a c)),
        ))
        (λ a c. elim (either (get_or marks c.0 true)) [
          | inl t ↦ inl (same_any same equality (chosen marks O) a (subst (λ y. Has (chosen marks O) y) c.2 (chosen-marked marks O c.0 a w.long c.1 t)))
          | inr f ↦ inr (subst (λ y. IsTrue (L.local seen y)) c.2 (settled c.0 a c.1 f))
        ])

    pub ends : (O : List A) (marks : List Bool) (seen : E → Bool) → IsSweeping L seed O marks seen → IsSettledBelow L O marks seen (length O)
        → IsListedModule L seed O (chosen marks O)
    ends O marks seen w settled = record {
      test = λ a. list_any (same a) (chosen marks O);
      closure = seen;
      is_module = ends_module O marks seen w settled;
      listed = chosen_filter (λ a. list_any (same a) (chosen marks O)) marks O w.long
          (λ k d l t. same_any same equality (chosen marks O) (get_or O k d) (chosen-marked marks O k d w.long l t))
          (λ k d l f. elim (either (list_any (same (get_or O k d)) (chosen marks O))) [
            | inr n ↦ n
            | inl t ↦ absurd (not_both (settled k d l f) (w.gathered.needed (get_or O k d)
                (contains_of_has (chosen marks O) (get_or O k d) (any_same same equality (chosen marks O) (get_or O k d) t))))
          ]);
    }
