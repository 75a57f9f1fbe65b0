-- The star module: it exists once, and the alternation ends in it.
use Rattle.std.proofs.Common.{◌≡◌, ℕ, zero, suc, ◌<◌, ◌≤◌, Bool, true, false, cond, List, [], ◌∷◌, length, IsTrue, IsFalse, inl, inr, refl, sym, subst, ap, ◌∙◌, arith}
use Rattle.std.specs.List.{Contains, filter, list_all, list_any}
use Rattle.ad_theory.specs.Module.{Logic, IsAntitone, IsModule, IsStar}
use Rattle.ad_theory.specs.Listed.{IsListedModule, IsListedStar, IsEqualityTest}
use Rattle.ad_theory.specs.Alternation.{IsAboveStar, IsLeftAfterRounds, none, round}
use Rattle.ad_theory.proofs.Members.{Has, either, not_both, and_left, and_right, has_of_contains, filter_same, same_any, filter-filter, filter_all}
use Rattle.ad_theory.proofs.ModuleLemmas.{same_ontology, same_test, fixed_within, restrict, own}
use Rattle.ad_theory.proofs.ListedLemmas.{contains_filter, filter_contains, listed_has, has_listed, some_listed}

-- the module of what is left of O, where all that is left is a part of O
pub left_module : {A E : Type 0} {L : Logic A E} {seed : E → Bool} {O : A → Type 0} {X M : A → Bool} {S : E → Bool} → ((a : A) → IsTrue (X a) → O a)
    → IsModule L seed (λ a. O a × IsTrue (X a)) M S → IsModule L seed (λ a. IsTrue (X a)) M S
left_module part m = same_ontology (λ a o. o.1) (λ a t. (part a t, t)) m

-- Each module here is that of the axioms of O among those that are left.
module _ {A E : Type 0} {B T : Logic A E} {seed : E → Bool} {O : A → Type 0} where
  -- the alternation begins with the whole ontology, and perhaps more
  pub above_begins : (X : A → Bool) → ((a : A) → O a → IsTrue (X a)) → IsAboveStar B T seed O X
  above_begins X whole = record { above = λ N part _ _ a t. whole a (part a t) }

  -- it goes on with the bottom module, or the top module, of what is left
  pub above_bottom : {X M : A → Bool} {S : E → Bool} → IsAboveStar B T seed O X → IsModule B seed (λ a. O a × IsTrue (X a)) M S → IsAboveStar B T seed O M
  above_bottom w m = record { above = λ N part f g. fixed_within f (λ a t. (part a t, w.above N part f g a t)) m }

  pub above_top : {X M : A → Bool} {S : E → Bool} → IsAboveStar B T seed O X → IsModule T seed (λ a. O a × IsTrue (X a)) M S → IsAboveStar B T seed O M
  above_top w m = record { above = λ N part f g. fixed_within g (λ a t. (part a t, w.above N part f g a t)) m }

  -- so it does with the top module of the bottom module
  pub round_goes_on : {X M N : A → Bool} {S R : E → Bool} → IsAboveStar B T seed O X → IsModule B seed (λ a. O a × IsTrue (X a)) M S
      → IsModule T seed (λ a. O a × IsTrue (M a)) N R → IsAboveStar B T seed O N
  round_goes_on w m n = above_top (above_bottom w m) n

  -- where that is all of the bottom module, the bottom module is the star module
  pub round_ends : IsAntitone B → {X M N : A → Bool} {S R : E → Bool} → IsAboveStar B T seed O X → IsModule B seed (λ a. O a × IsTrue (X a)) M S
      → IsModule T seed (λ a. O a × IsTrue (M a)) N R → ((a : A) → IsTrue (M a) → IsTrue (N a)) → IsStar B T seed O M
  round_ends antitone {M = M} {S = S} {R = R} w m n all = record {
    within = λ a t. (m.within a t).0;
    bottom = (S, own antitone m);
    top = (R, same_test (λ a t. (n.within a t).1) all (left_module (λ a t. (m.within a t).0) n));
    greatest = (above_bottom w m).above;
  }

  -- and where the bottom module of a top module is all of it, that is the star module too
  pub turn_ends : IsAntitone T → {X M N : A → Bool} {S R : E → Bool} → IsAboveStar B T seed O X → IsModule T seed (λ a. O a × IsTrue (X a)) M S
      → IsModule B seed (λ a. O a × IsTrue (M a)) N R → ((a : A) → IsTrue (M a) → IsTrue (N a)) → IsStar B T seed O M
  turn_ends antitone {M = M} {S = S} {R = R} w m n all = record {
    within = λ a t. (m.within a t).0;
    bottom = (R, same_test (λ a t. (n.within a t).1) all (left_module (λ a t. (m.within a t).0) n));
    top = (S, own antitone m);
    greatest = (above_top w m).above;
  }

  -- two tests of the star module are true of the same axioms
  pub star_one : {M N : A → Bool} → IsStar B T seed O M → IsStar B T seed O N → (a : A) → IsTrue (M a) → IsTrue (N a)
  star_one {M = M} m n = n.greatest M m.within m.bottom m.top

  pub star_test : {M M' : A → Bool} → ((a : A) → IsTrue (M a) → IsTrue (M' a)) → ((a : A) → IsTrue (M' a) → IsTrue (M a)) → IsStar B T seed O M → IsStar B T seed O M'
  star_test f g m = record {
    within = λ a t. m.within a (g a t);
    bottom = (m.bottom.0, same_ontology f g (same_test f g m.bottom.1));
    top = (m.top.0, same_ontology f g (same_test f g m.top.1));
    greatest = λ N part b t a h. f a (m.greatest N part b t a h);
  }

-- the star module of an ontology with the same axioms
pub star_ontology : {A E : Type 0} {B T : Logic A E} {seed : E → Bool} {O O' : A → Type 0} {M : A → Bool} → ((a : A) → O a → O' a) → ((a : A) → O' a → O a) → IsStar B T seed O M → IsStar B T seed O' M
star_ontology f g m = record {
  within = λ a t. f a (m.within a t);
  bottom = m.bottom;
  top = m.top;
  greatest = λ N part. m.greatest N (λ a t. g a (part a t));
}

-- a filter that leaves something out gives a shorter list
length-filter_le : {A : Type 0} (p : A → Bool) (xs : List A) → length (filter p xs) ≤ length xs
length-filter_le p [] = omega arith
length-filter_le p (x ∷ xs) = let h : length (filter p xs) ≤ length xs = length-filter_le p xs in
    elim (p x) as (λ b. length (cond b (x ∷ filter p xs) (filter p xs)) ≤ suc (length xs)) [ true ↦ omega (arith, h) | false ↦ omega (arith, h) ]

length-filter_lt : {A : Type 0} (p : A → Bool) (xs : List A) → IsFalse (list_all p xs) → length (filter p xs) < length xs
length-filter_lt p [] f = absurd (not_both refl f)
length-filter_lt p (x ∷ xs) f = elim (either (p x)) [
  | inr n ↦ rw n (let h : length (filter p xs) ≤ length xs = length-filter_le p xs in omega (arith, h))
  | inl t ↦ (let f' : list_all p xs ≡ false = rw t at f in let h : length (filter p xs) < length xs = length-filter_lt p xs f' in rw t (omega (arith, h)))
]

all_has : {A : Type 0} (p : A → Bool) (xs : List A) (a : A) → IsTrue (list_all p xs) → Has xs a → IsTrue (p a)
all_has p [] a t h = absurd h
all_has p (x ∷ xs) a t (inl e) = subst (λ y. IsTrue (p y)) (sym e) (and_left (p x) (list_all p xs) t)
all_has p (x ∷ xs) a t (inr h) = all_has p xs a (and_right (p x) (list_all p xs) t) h

-- a listed module is its own
pub own_listed : {A E : Type 0} {L : Logic A E} → IsAntitone L → {seed : E → Bool} {O M : List A} → IsListedModule L seed O M → IsListedModule L seed M M
own_listed antitone {O = O} {M = M} m = record {
  test = m.test;
  closure = m.closure;
  is_module = restrict antitone (λ a c. (filter_contains m.test O a (subst (λ l. Contains l a) m.listed c)).0)
      (λ a t. subst (λ l. Contains l a) (sym m.listed) (contains_filter m.test O a (m.is_module.within a t) t)) m.is_module;
  listed = subst (λ l. l ≡ filter m.test l) (sym m.listed) (sym (filter-filter m.test m.test O (λ a t. t)));
}

module _ {A E : Type 0} (B T : Logic A E) (same : A → A → Bool) (equality : IsEqualityTest same) (seed : E → Bool) where
  -- what is left after some rounds, as a test
  record Left (O X : List A) : Type 0 where
    test : A → Bool
    above : IsAboveStar B T seed (Contains O) test
    listed : X ≡ filter test O

  -- one more module of what is left
  module_left : {L : Logic A E} (O : List A) {X M : List A} (test : A → Bool) → X ≡ filter test O → (m : IsListedModule L seed X M) → IsModule L seed (λ a. Contains O a × IsTrue (test a)) m.test m.closure
  module_left O test listed m = same_ontology
      (λ a c. filter_contains test O a (subst (λ l. Contains l a) listed c))
      (λ a o. subst (λ l. Contains l a) (sym listed) (contains_filter test O a o.0 o.1)) m.is_module

  listed_left : {L : Logic A E} (O : List A) {X M : List A} (test : A → Bool) → X ≡ filter test O → (m : IsListedModule L seed X M) → M ≡ filter m.test O
  listed_left O test listed m = m.listed ∙ ap (λ l. filter m.test l) listed ∙ filter-filter m.test test O (λ a t. ((module_left O test listed m).within a t).1)

  left_after_rounds : {O X : List A} → IsLeftAfterRounds B T seed O X → Left O X
  left_after_rounds {O} none = record {
    test = λ a. list_any (same a) O;
    above = above_begins (λ a. list_any (same a) O) (λ a c. same_any same equality O a (has_of_contains O a c));
    listed = sym (filter_all (λ a. list_any (same a) O) O (λ a h. same_any same equality O a h));
  }
  left_after_rounds {O} (round rounds m n) =
      let w = left_after_rounds rounds in
      let found = listed_left O w.test w.listed m in
      record {
        test = n.test;
        above = round_goes_on w.above (module_left O w.test w.listed m) (module_left O m.test found n);
        listed = listed_left O m.test found n;
      }

  -- the alternation ends in the star module
  pub rounds_end : IsAntitone B → {O X M : List A} → IsLeftAfterRounds B T seed O X → IsListedModule B seed X M → IsListedModule T seed M M → IsListedStar B T seed O M
  rounds_end bottom {O} {X} {M} rounds m n =
      let w = left_after_rounds rounds in
      let found = listed_left O w.test w.listed m in
      record {
        test = m.test;
        is_star = round_ends bottom w.above (module_left O w.test w.listed m) (module_left O m.test found n)
            (λ a t. listed_has T seed M M n a (has_listed B seed X M m a t));
        listed = found;
      }

  module _ (bottom : IsAntitone B) (top : IsAntitone T) where
    -- and it ends: each round leaves something out, or is the last
    record Ends (O : List A) : Type 0 where
      left : List A
      found : List A
      rounds : IsLeftAfterRounds B T seed O left
      is_bottom : IsListedModule B seed left found
      is_top : IsListedModule T seed found found

    one_round : (O X : List A) → IsLeftAfterRounds B T seed O X → ((Y : List A) → length Y < length X → IsLeftAfterRounds B T seed O Y → Ends O) → Ends O
    one_round O X rounds next =
        let b = some_listed B seed bottom same equality X in
        let t = some_listed T seed top same equality b.0 in
        elim (either (list_all t.1.test b.0)) [
          | inl h ↦ record {
            left = X;
            found = b.0;
            rounds = rounds;
            is_bottom = b.1;
            is_top = subst (λ l. IsListedModule T seed b.0 l) (t.1.listed ∙ filter_all t.1.test b.0 (λ a k. all_has t.1.test b.0 a h k)) t.1;
          }
          | inr f ↦ next t.0
              (let fewer : length (filter t.1.test b.0) < length b.0 = length-filter_lt t.1.test b.0 f in
              let part : length (filter b.1.test X) ≤ length X = length-filter_le b.1.test X in
              omega (arith, fewer, part, ap length t.1.listed, ap length b.1.listed))
              (round rounds b.1 t.1)
        ]

    rounds_from : (O : List A) (n : ℕ) (X : List A) → length X ≤ n → IsLeftAfterRounds B T seed O X → Ends O
    rounds_from O zero X short rounds = one_round O X rounds (λ Y fewer _. absurd (omega (arith, fewer, short)))
    rounds_from O (suc n) X short rounds = one_round O X rounds (λ Y fewer more. rounds_from O n Y (omega (arith, fewer, short)) more)

    pub rounds_do_end : (O : List A) → (X M : List A) × IsLeftAfterRounds B T seed O X × IsListedModule B seed X M × IsListedModule T seed M M
    rounds_do_end O = let e = rounds_from O (length O) O (omega arith) none in (e.left, e.found, e.rounds, e.is_bottom, e.is_top)

    -- a list of axioms has a star module
    pub some_listed_star : (O : List A) → (M : List A) × IsListedStar B T seed O M
    some_listed_star O = let e = rounds_from O (length O) O (omega arith) none in (e.found, rounds_end bottom e.rounds e.is_bottom e.is_top)

module _ {A E : Type 0} (B T : Logic A E) (seed : E → Bool) where
  -- two lists of the star module are the same
  pub listed_star_one : (O M N : List A) → IsListedStar B T seed O M → IsListedStar B T seed O N → M ≡ N
  listed_star_one O M N m n =
      m.listed ∙ filter_same m.test n.test O (λ a _ t. star_one m.is_star n.is_star a t) (λ a _ t. star_one n.is_star m.is_star a t) ∙ sym n.listed

  pub listed_star_has : (O M : List A) → (m : IsListedStar B T seed O M) → (a : A) → Contains M a → IsTrue (m.test a)
  listed_star_has O M m a c = (filter_contains m.test O a (subst (λ l. Contains l a) m.listed c)).1

  pub has_listed_star : (O M : List A) → (m : IsListedStar B T seed O M) → (a : A) → IsTrue (m.test a) → Contains M a
  has_listed_star O M m a t = subst (λ l. Contains l a) (sym m.listed) (contains_filter m.test O a (m.is_star.within a t) t)
