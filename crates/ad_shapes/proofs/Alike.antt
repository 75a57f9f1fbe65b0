-- Where one list of axioms is made of another by a function, and the genuine modules agree along it, so do atoms.
use Rattle.std.proofs.Common.{◌≡◌, ℕ, Bool, ◌||◌, ◌&&◌, not, List, Option, map, length, refl, sym, ◌∙◌, ap}
use Rattle.std.specs.List.{Contains, filter, list_any, position}
use Rattle.std.proofs.lemmas.List.{length-map}
use Rattle.ad_decomposition.specs.Atoms.{atom_of, depends, same_module, depends_strictly, in_atoms, firsts, size_of, tautologies, covers, firsts_among}
use Rattle.ad_shapes.specs.Shapes.{Shape, places_where, covered_by, shape_of}
use Rattle.ad_theory.proofs.Members.{Has, contains_of_has, filter_has}
use Rattle.ad_decomposition.proofs.Firsts.{firsts_has}
use Rattle.ad_shapes.proofs.Mapped.{filter_mapped, all_mapped, any_mapped, places_mapped, position_mapped, map_mapped, firsts_mapped}

module _ {X A : Type 0} (f : X → A) (G : A → A → Bool) (K : X → X → Bool) (xs : List X) (agree : (x y : X) → Has xs x → Has xs y → G (f x) (f y) ≡ K x y) where
  abbrev order : List A
  order = map f xs

  depends_alike : (x y : X) → Has xs x → Has xs y → depends G order (f x) (f y) ≡ depends K xs x y
  depends_alike x y h k =
      let each : (z : X) → Has xs z → (not (G (f y) (f z)) || G (f x) (f z)) ≡ (not (K y z) || K x z) =
      (λ z m. let one : G (f y) (f z) ≡ K y z = agree y z k m in let other : G (f x) (f z) ≡ K x z = agree x z h m in rw (one, other) refl) in
      all_mapped f (λ c. not (G (f y) c) || G (f x) c) (λ z. not (K y z) || K x z) xs each

  same_alike : (x y : X) → Has xs x → Has xs y → same_module G order (f x) (f y) ≡ same_module K xs x y
  same_alike x y h k =
      let down : depends G order (f x) (f y) ≡ depends K xs x y = depends_alike x y h k in
      let up : depends G order (f y) (f x) ≡ depends K xs y x = depends_alike y x k h in
      rw (down, up) refl

  strictly_alike : (x y : X) → Has xs x → Has xs y → depends_strictly G order (f x) (f y) ≡ depends_strictly K xs x y
  strictly_alike x y h k =
      let down : depends G order (f x) (f y) ≡ depends K xs x y = depends_alike x y h k in
      let up : depends G order (f y) (f x) ≡ depends K xs y x = depends_alike y x k h in
      rw (down, up) refl

  -- what is in atoms, and the first axiom of each, are in the list
  in_list : (x : X) → Has (in_atoms K xs) x → Has xs x
  in_list x h = (filter_has (λ x. K x x) xs x h).0

  first_in_list : (x : X) → Has (firsts K xs) x → Has xs x
  first_in_list x h = in_list x (firsts_has (same_module K xs) (in_atoms K xs) x h)

  atoms_alike : in_atoms G order ≡ map f (in_atoms K xs)
  atoms_alike = filter_mapped f (λ a. G a a) (λ x. K x x) xs (λ x h. agree x x h h)

  firsts_alike : firsts G order ≡ map f (firsts K xs)
  firsts_alike = ap (firsts_among (same_module G order)) atoms_alike ∙ firsts_mapped f (same_module G order) (same_module K xs) (in_atoms K xs) (λ x y h k. same_alike x y (in_list x h) (in_list y k))

  atom_alike : (x : X) → Has xs x → atom_of G order (f x) ≡ atom_of K xs x
  atom_alike x h =
      let own : G (f x) (f x) ≡ K x x = agree x x h h in
      let place : position (same_module G order (f x)) (firsts G order) ≡ position (same_module K xs x) (firsts K xs) =
      ap (position (same_module G order (f x))) firsts_alike
      ∙ position_mapped f (same_module G order (f x)) (same_module K xs x) (firsts K xs) (λ y k. same_alike x y h (first_in_list y k)) in
      rw (own, place) refl

  all_atoms_alike : map (atom_of G order) order ≡ map (atom_of K xs) xs
  all_atoms_alike = map_mapped f (atom_of G order) (atom_of K xs) xs atom_alike

  size_alike : (x : X) → Has xs x → size_of G order (f x) ≡ size_of K xs x
  size_alike x h =
      let own : A → Bool = same_module G order (f x) in
      let own' : X → Bool = same_module K xs x in
      ap (λ as'. length (filter own as')) atoms_alike
      ∙ ap length (filter_mapped f own own' (in_atoms K xs) (λ y k. same_alike x y h (in_list y k)))
      ∙ length-map (filter own' (in_atoms K xs)) f

  tautologies_alike : tautologies G order ≡ tautologies K xs
  tautologies_alike =
      let none : X → Bool = λ x. not (K x x) in
      ap length (filter_mapped f (λ a. not (G a a)) none xs (λ x h. ap not (agree x x h h))) ∙ length-map (filter none xs) f

  between_alike : (x y : X) → Has xs x → Has xs y → list_any (λ c. depends_strictly G order (f x) c && depends_strictly G order c (f y)) (firsts G order) ≡ list_any (λ z. depends_strictly K xs x z && depends_strictly K xs z y) (firsts K xs)
  between_alike x y h k =
      let between : A → Bool = λ c. depends_strictly G order (f x) c && depends_strictly G order c (f y) in
      let between' : X → Bool = λ z. depends_strictly K xs x z && depends_strictly K xs z y in
      let each : (z : X) → Has (firsts K xs) z → between (f z) ≡ between' z =
      (λ z m. let down = strictly_alike x z h (first_in_list z m) in let up = strictly_alike z y (first_in_list z m) k in ap (λ b. b && depends_strictly G order (f z) (f y)) down ∙ ap (λ b. depends_strictly K xs x z && b) up) in
      ap (list_any between) firsts_alike ∙ any_mapped f between between' (firsts K xs) each

  covers_alike : (x y : X) → Has xs x → Has xs y → covers G order (f x) (f y) ≡ covers K xs x y
  covers_alike x y h k =
      ap (λ b. b && not (list_any (λ c. depends_strictly G order (f x) c && depends_strictly G order c (f y)) (firsts G order))) (strictly_alike x y h k)
      ∙ ap (λ b. depends_strictly K xs x y && not b) (between_alike x y h k)

  covered_alike : (x : X) → Has xs x → covered_by G order (f x) ≡ covered_by K xs x
  covered_alike x h =
      ap (places_where (covers G order (f x)) 0) firsts_alike
      ∙ places_mapped f (covers G order (f x)) (covers K xs x) (firsts K xs) 0 (λ y k. covers_alike x y h (first_in_list y k))

  sizes_alike : map (size_of G order) (firsts G order) ≡ map (size_of K xs) (firsts K xs)
  sizes_alike = ap (map (size_of G order)) firsts_alike ∙ map_mapped f (size_of G order) (size_of K xs) (firsts K xs) (λ x h. size_alike x (first_in_list x h))

  all_covered_alike : map (covered_by G order) (firsts G order) ≡ map (covered_by K xs) (firsts K xs)
  all_covered_alike = ap (map (covered_by G order)) firsts_alike ∙ map_mapped f (covered_by G order) (covered_by K xs) (firsts K xs) (λ x h. covered_alike x (first_in_list x h))

  pub mapped_shape : shape_of G order ≡ shape_of K xs
  mapped_shape =
      ap (λ a. shape a (map (size_of G order) (firsts G order)) (map (covered_by G order) (firsts G order)) (tautologies G order)) all_atoms_alike
      ∙ ap (λ s. shape (map (atom_of K xs) xs) s (map (covered_by G order) (firsts G order)) (tautologies G order)) sizes_alike
      ∙ ap (λ c. shape (map (atom_of K xs) xs) (map (size_of K xs) (firsts K xs)) c (tautologies G order)) all_covered_alike
      ∙ ap (λ t. shape (map (atom_of K xs) xs) (map (size_of K xs) (firsts K xs)) (map (covered_by K xs) (firsts K xs)) t) tautologies_alike
    where
      shape : List (Option ℕ) → List ℕ → List (List ℕ) → ℕ → Shape
      shape atoms sizes covers tautologies = record { atoms = atoms; sizes = sizes; covers = covers; tautologies = tautologies }

-- two lists beside each other look like the list of their pairs
module _ {A B : Type 0} (G : A → A → Bool) (H : B → B → Bool) (pairs : List (A × B)) where
  pub same_shapes : ((p q : A × B) → Contains pairs p → Contains pairs q → G p.0 q.0 ≡ H p.1 q.1) → shape_of G (map (λ p. p.0) pairs) ≡ shape_of H (map (λ p. p.1) pairs)
  same_shapes agree =
      mapped_shape (λ p. p.0) G (λ p q. G p.0 q.0) pairs (λ p q _ _. refl)
      ∙ sym (mapped_shape (λ p. p.1) H (λ p q. G p.0 q.0) pairs (λ p q h k. sym (agree p q (contains_of_has pairs p h) (contains_of_has pairs q k))))
