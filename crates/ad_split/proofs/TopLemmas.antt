-- The tops of axioms that are slots, and those of the axioms that the slots hold.
use Rattle.std.proofs.Common.{◌≡◌, ℕ, suc, ◌+◌, ◌<◌, Bool, ◌||◌, true, false, cond, not, List, [], ◌∷◌, ◌++◌, map, length, get_or, refl, sym, ◌∙◌, ap, subst, arith}
use Rattle.std.specs.List.{filter, list_any, range_with_len}
use Rattle.std.proofs.lemmas.List.{map-id}
use Rattle.std.proofs.lemmas.List.FromFn.{filter_of_map_range_with_len_more}
use Rattle.ad_bits.specs.Rows.{has}
use Rattle.ad_decomposition.specs.Atoms.{depends, same_module, depends_strictly, in_atoms, firsts, firsts_among}
use Rattle.ad_decomposition.proofs.Firsts.{firsts_has}
use Rattle.ad_shapes.specs.Shapes.{places_where}
use Rattle.ad_shapes.proofs.Mapped.{filter_mapped, all_mapped, any_mapped, places_mapped, firsts_mapped}
use Rattle.ad_theory.proofs.Members.{Has, filter_has}
use Rattle.ad_split.specs.Tops.{is_top, tops, top_atoms}

-- Where one list of axioms is made of another by a function, and the genuine modules agree along it, so do the tops.
module _ {X A : Type 0} (f : X → A) (G : A → A → Bool) (K : X → X → Bool) (xs : List X) (agree : (x y : X) → Has xs x → Has xs y → G (f x) (f y) ≡ K x y) where
  abbrev order : List A
  order = map f xs

  depends_alike : (x y : X) → Has xs x → Has xs y → depends G order (f x) (f y) ≡ depends K xs x y
  depends_alike x y h k =
      let each : (z : X) → Has xs z → (not (G (f y) (f z)) || G (f x) (f z)) ≡ (not (K y z) || K x z) =
      (λ z m. let one : G (f y) (f z) ≡ K y z = agree y z k m in let other : G (f x) (f z) ≡ K x z = agree x z h m in rw (one, other) refl) in
      all_mapped f (λ c. not (G (f y) c) || G (f x) c) (λ z. not (K y z) || K x z) xs each

  same_alike : (x y : X) → Has xs x → Has xs y → same_module G order (f x) (f y) ≡ same_module K xs x y
  same_alike x y h k =
      let down : depends G order (f x) (f y) ≡ depends K xs x y = depends_alike x y h k in
      let up : depends G order (f y) (f x) ≡ depends K xs y x = depends_alike y x k h in
      rw (down, up) refl

  strictly_alike : (x y : X) → Has xs x → Has xs y → depends_strictly G order (f x) (f y) ≡ depends_strictly K xs x y
  strictly_alike x y h k =
      let down : depends G order (f x) (f y) ≡ depends K xs x y = depends_alike x y h k in
      let up : depends G order (f y) (f x) ≡ depends K xs y x = depends_alike y x k h in
      rw (down, up) refl

  in_list : (x : X) → Has (in_atoms K xs) x → Has xs x
  in_list x h = (filter_has (λ x. K x x) xs x h).0

  pub first_in_list : (x : X) → Has (firsts K xs) x → Has xs x
  first_in_list x h = in_list x (firsts_has (same_module K xs) (in_atoms K xs) x h)

  firsts_alike : firsts G order ≡ map f (firsts K xs)
  firsts_alike =
      ap (firsts_among (same_module G order)) (filter_mapped f (λ a. G a a) (λ x. K x x) xs (λ x h. agree x x h h))
      ∙ firsts_mapped f (same_module G order) (same_module K xs) (in_atoms K xs) (λ x y h k. same_alike x y (in_list x h) (in_list y k))

  top_alike : (x : X) → Has (firsts K xs) x → is_top G order (f x) ≡ is_top K xs x
  top_alike x h =
      ap (λ as'. not (list_any (λ b. depends_strictly G order b (f x)) as')) firsts_alike
      ∙ ap not (any_mapped f (λ b. depends_strictly G order b (f x)) (λ y. depends_strictly K xs y x) (firsts K xs) (λ y k. strictly_alike y x (first_in_list y k) (first_in_list x h)))

  pub tops_alike : tops G order ≡ map f (tops K xs)
  tops_alike = ap (filter (is_top G order)) firsts_alike ∙ filter_mapped f (is_top G order) (is_top K xs) (firsts K xs) top_alike

  pub top_atoms_alike : top_atoms G order ≡ top_atoms K xs
  top_atoms_alike = ap (places_where (is_top G order) 0) firsts_alike ∙ places_mapped f (is_top G order) (is_top K xs) (firsts K xs) 0 top_alike

-- the places of a test are the numbers of a row that has them
pub places_in_row : {A : Type 0} (test : A → Bool) (row : List Bool) (i : ℕ) (xs : List A) → ((j : ℕ) (d : A) → j < length xs → has row (i + j) ≡ test (get_or xs j d))
    → filter (has row) (range_with_len i (length xs)) ≡ places_where test i xs
places_in_row test row i [] each = refl
places_in_row test row i (x ∷ xs) each =
    let first : i + 0 ≡ i = omega arith in
    let here : has row i ≡ test x = subst (λ n. has row n ≡ test x) first (each 0 x (omega arith)) in
    let next : i + 1 ≡ suc i = omega arith in
    let rest : filter (has row) (range_with_len (i + 1) (length xs)) ≡ places_where test (suc i) xs =
    ap (λ n. filter (has row) (range_with_len n (length xs))) next
    ∙ places_in_row test row (suc i) xs (λ j d l. let shift : i + suc j ≡ suc i + j = omega arith in subst (λ n. has row n ≡ test (get_or xs j d)) shift (each (suc j) d (omega arith))) in
    rw (here, rest) refl

-- one more number of the row
pub numbers_more : (row : List Bool) (n : ℕ) → filter (has row) (range_with_len 0 (n + 1)) ≡ filter (has row) (range_with_len 0 n) ++ cond (has row n) (n ∷ []) []
numbers_more row n =
    ap (filter (has row)) (sym (map-id (range_with_len 0 (n + 1))))
    ∙ filter_of_map_range_with_len_more (has row) (λ k. k) 0 n n (omega arith)
    ∙ ap (λ l. filter (has row) l ++ cond (has row n) (n ∷ []) []) (map-id (range_with_len 0 n))

-- what stands at the places of a test passes it
looked_up : {A : Type 0} (test : A → Bool) (get : ℕ → A) (i : ℕ) (xs : List A) (d : A) → ((j : ℕ) → j < length xs → get (i + j) ≡ get_or xs j d)
    → map get (places_where test i xs) ≡ filter test xs
looked_up test get i [] d each = refl
looked_up test get i (x ∷ xs) d each =
    let first : i + 0 ≡ i = omega arith in
    let here : get i ≡ x = subst (λ n. get n ≡ x) first (each 0 (omega arith)) in
    let rest : map get (places_where test (suc i) xs) ≡ filter test xs =
    looked_up test get (suc i) xs d (λ j l. let shift : i + suc j ≡ suc i + j = omega arith in subst (λ n. get n ≡ get_or xs j d) shift (each (suc j) (omega arith))) in
    elim (test x) as (λ b. map get (cond b (i ∷ places_where test (suc i) xs) (places_where test (suc i) xs)) ≡ cond b (x ∷ filter test xs) (filter test xs)) [
      | true ↦ ap (λ l. get i ∷ l) rest ∙ ap (λ y. y ∷ filter test xs) here
      | false ↦ rest
    ]

pub at_places_where : {A : Type 0} (test : A → Bool) (xs : List A) (d : A) → map (λ k. get_or xs k d) (places_where test 0 xs) ≡ filter test xs
at_places_where test xs d = looked_up test (λ k. get_or xs k d) 0 xs d (λ j l. let same : 0 + j ≡ j = omega arith in ap (λ n. get_or xs n d) same)
