-- What modules that are written down are: their rows nest.
use Rattle.std.proofs.Common.{◌≡◌, ℕ, ◌+◌, ◌<◌, Bool, false, ◌==◌, ◌&&◌, ◌||◌, not, eqb, ltb, nat_eq, List, [], ◌∷◌, Some, None, length, get_or, map, IsTrue, IsFalse, inl, inr, sym, ◌∙◌, ap, subst, arith}
use Rattle.std.specs.List.{Contains, list_all, list_any, IsDistinct, AllByRecursion}
use Rattle.std.proofs.lemmas.Bool.{eqb-true}
use Rattle.std.proofs.lemmas.Bool.Decides.{nat_tests}
use Rattle.std.proofs.lemmas.List.{get_or-map, length-map}
use Rattle.std.proofs.lemmas.List.FromFn.{length-range_with_len, get_or-range_with_len}
use Rattle.std.proofs.lemmas.List.Sums.{AllPass-from_list_all}
use Rattle.ad_base.specs.declared.limits.Kind.TheVariants.{Star}
use Rattle.ad_bits.proofs.Rows.{within_size}
use Rattle.ad_theory.specs.Numbers.{among}
use Rattle.ad_tables.specs.Rows.{Tables, Numbered, row_of}
use Rattle.ad_theory.proofs.Members.{either, not_both, or_left, or_right, or_cases, and_left, and_right, not_true, has_of_contains, contains_of_has, has_of_any, Has}
use Rattle.ad_decomposition.specs.Atoms.{AreAtoms}
use Rattle.ad_decomposition.specs.Tables.{is_in, is_in_row_of, AreNested, HaveRows}
use Rattle.ad_decomposition.proofs.Depends.{all_of_has}
use Rattle.ad_depend.specs.Numbering.{AreAtomsOfRows}
use Rattle.ad_decomposition_tests.specs.Modules.{tables_of, slots_of, is_in_module, are_square, are_distinct, is_below, are_nested, is_example}

all_apart : (x : ℕ) (xs : List ℕ) → IsFalse (list_any (λ y. x == y) xs) → AllByRecursion (λ y. nat_eq x y ≡ false) xs
all_apart x [] f = tt
all_apart x (y ∷ xs) f = (
  elim (either (x == y)) [ inr h ↦ h | inl h ↦ absurd (not_both (or_left (x == y) (list_any (λ y. x == y) xs) h) f) ],
  all_apart x xs (elim (either (list_any (λ y. x == y) xs)) [ inr h ↦ h | inl h ↦ absurd (not_both (or_right (x == y) (list_any (λ y. x == y) xs) h) f) ]),
)

distinct_is : (xs : List ℕ) → IsTrue (are_distinct xs) → IsDistinct nat_eq xs
unfolding IsDistinct
distinct_is [] t = tt
distinct_is (x ∷ xs) t = (
  all_apart x xs (not_true (list_any (λ y. x == y) xs) (and_left (not (list_any (λ y. x == y) xs)) (are_distinct xs) t)),
  distinct_is xs (and_right (not (list_any (λ y. x == y) xs)) (are_distinct xs) t),
)

contains_of_among : (xs : List ℕ) (b : ℕ) → IsTrue (among xs b) → Contains xs b
contains_of_among xs b t = let r = has_of_any (λ x. x == b) xs t in let e : r.0 ≡ b = (let h = r.2 in grind (arith, nat_tests)) in contains_of_has xs b (subst (Has xs) e r.1)

implies : (a b : Bool) → IsTrue (not a || b) → IsTrue a → IsTrue b
implies a b t h = elim (or_cases (not a) b t) [ inl n ↦ absurd (not_both h (not_true a n)) | inr u ↦ u ]

module _ (modules : List (List Bool)) (order : List ℕ) (example : IsTrue (is_example modules order)) where
  square : IsTrue (are_square modules)
  square = and_left (are_square modules) (list_all (λ a. ltb a (length modules)) order && (are_distinct order && are_nested modules order)) example

  of_order : IsTrue (list_all (λ a. ltb a (length modules)) order && (are_distinct order && are_nested modules order))
  of_order = and_right (are_square modules) (list_all (λ a. ltb a (length modules)) order && (are_distinct order && are_nested modules order)) example

  tests : IsTrue (are_distinct order && are_nested modules order)
  tests = and_right (list_all (λ a. ltb a (length modules)) order) (are_distinct order && are_nested modules order) of_order

  below : (a : ℕ) → Contains order a → a < length modules
  below a o =
      let h = all_of_has (λ a. ltb a (length modules)) order (and_left (list_all (λ a. ltb a (length modules)) order) (are_distinct order && are_nested modules order) of_order) a (has_of_contains order a o) in
      grind (arith, nat_tests)

  row_at : (i : ℕ) → i < length modules → row_of (tables_of modules) Star i ≡ Some (get_or modules i [])
  row_at i l = get_or-map (λ (row : List Bool). Some row) modules i [] None l

  size_at : (i : ℕ) → i < length modules → length (get_or modules i []) ≡ length modules
  size_at i l = eqb-true (length (get_or modules i [])) (length modules) (AllPass-from_list_all (λ row. eqb (length row) (length modules)) modules square i [] l)

  member_below : (i k : ℕ) → i < length modules → IsTrue (is_in_module modules i k) → k < length modules
  member_below i k l t = omega (arith, within_size (get_or modules i []) k (sym (ap (λ r. is_in r k) (row_at i l)) ∙ t), size_at i l)

  -- what a test says of each slot
  each : (p : ℕ → Bool) → IsTrue (list_all p (slots_of modules)) → (i : ℕ) → i < length modules → IsTrue (p i)
  each p t i l =
      let same : 0 + i ≡ i = omega arith in
      subst (λ k. IsTrue (p k)) (get_or-range_with_len 0 (length modules) i 0 l ∙ same)
      (AllPass-from_list_all p (slots_of modules) t i 0 (omega (arith, length-range_with_len 0 (length modules))))

  is_below_of : (a b : ℕ) → Contains order a → IsTrue (is_in_module modules a b) → IsTrue (is_below modules order a b)
  is_below_of a b o h =
      let of_a = all_of_has (λ a. list_all (λ b. not (is_in_module modules a b) || is_below modules order a b) (slots_of modules)) order (and_right (are_distinct order) (are_nested modules order) tests) a (has_of_contains order a o) in
      implies (is_in_module modules a b) (is_below modules order a b) (each _ of_a b (member_below a b (below a o) h)) h

  abbrev holds_all : ℕ → ℕ → Bool
  holds_all a b = list_all (λ c. not (is_in_module modules b c) || is_in_module modules a c) (slots_of modules)

  pub example_distinct : IsDistinct nat_eq order
  example_distinct = distinct_is order (and_left (are_distinct order) (are_nested modules order) tests)

  rows_have : HaveRows (tables_of modules) Star (length (map Some modules)) order
  rows_have = record {
    below = λ i o. omega (arith, below i o, length-map modules (λ (row : List Bool). Some row));
    rows = λ i o. (get_or modules i [], row_at i (below i o), size_at i (below i o) ∙ sym (length-map modules (λ (row : List Bool). Some row)));
  }

  rows_nest : AreNested (is_in_row_of (tables_of modules) Star) order
  rows_nest = record {
    within = λ a b o h. contains_of_among order b (and_left (among order b) (holds_all a b) (is_below_of a b o h));
    nested = λ a b c o h k.
        let all = and_right (among order b) (holds_all a b) (is_below_of a b o h) in
        let m = member_below a b (below a o) h in
        implies (is_in_module modules b c) (is_in_module modules a c) (each _ all c (member_below b c m k)) k;
  }

  module _ (tables : Tables) (is : tables ≡ tables_of modules) where
    pub example_rows : HaveRows tables Star (length tables.star) order
    example_rows = subst (λ (t : Tables). HaveRows t Star (length t.star) order) (sym is) rows_have

    pub example_nested : AreNested (is_in_row_of tables Star) order
    example_nested = subst (λ (t : Tables). AreNested (is_in_row_of t Star) order) (sym is) rows_nest

    pub example_atoms : (atoms : Numbered) → AreAtoms (is_in_row_of tables Star) order atoms → AreAtomsOfRows tables Star atoms
    example_atoms atoms numbered = (order, record { rows = example_rows; nested = example_nested; numbered = numbered })
