-- How codes run over a stack: one after another, and operators over the operands that codes put there.
use Rattle.std.proofs.Common.{◌≡◌, ℕ, suc, ◌+◌, Bool, true, false, cond, ◌&&◌, ◌||◌, List, [], ◌∷◌, ◌++◌, length, map, nat_eq, sym, ◌∙◌, ap, refl, arith}
use Rattle.std.specs.List.{AllByRecursion, flat_map, list_any}
use Rattle.std.proofs.lemmas.List.{length-map}
use Rattle.ad_base.specs.declared.limits.Side.{Side}
use Rattle.ad_locality.specs.Locality.{intersection, union, all_empty, all_whole, one_is_nonempty, one_is_whole, are_equivalent, are_disjoint, both_or_neither}
use Rattle.ad_locality.specs.declared.surely.Surely.{Surely}
use Rattle.ad_cells.specs.declared.cell.Cell.{Cell}
use Rattle.ad_cells.specs.declared.cell.Cell.TheVariants as cells
use Rattle.ad_cells.specs.declared.cell.Test.TheVariants as tests
use Rattle.ad_cells.specs.declared.operands.Operands.{Operands}
use Rattle.ad_cells.specs.Codes.{blank, before, intersection_of, union_of, taken, joined, on_one, on_two, step, run, passes}

-- operands before others, and operands alone, together
abbrev pub together_before : List Surely → Operands → Operands
together_before [] t = t
together_before (c ∷ cs) t = before c (together_before cs t)

abbrev pub together : List Surely → Operands
together cs = together_before cs blank

-- operands on a stack, the last one on top
abbrev pub pushed : List Surely → List Surely → List Surely
pushed [] stack = stack
pushed (c ∷ cs) stack = pushed cs (c ∷ stack)

pub pushed-append : (cs ds stack : List Surely) → pushed (cs ++ ds) stack ≡ pushed ds (pushed cs stack)
pushed-append [] ds stack = refl
pushed-append (c ∷ cs) ds stack = pushed-append cs ds (c ∷ stack)

taken-more : (cs stack : List Surely) (n : ℕ) (t : Operands) → taken (length cs + n) t (pushed cs stack) ≡ taken n (together_before cs t) stack
unfolding taken
taken-more [] stack n t =
    let e : 0 + n ≡ n = omega arith in
    ap (λ k. taken k t stack) e
taken-more (c ∷ cs) stack n t =
    let e : length (c ∷ cs) + n ≡ length cs + suc n = omega arith in
    ap (λ k. taken k t (pushed cs (c ∷ stack))) e ∙ taken-more cs (c ∷ stack) (suc n) t

-- operands that were pushed are taken off together, and the stack below them is left
pub taken-pushed : (cs stack : List Surely) (n : ℕ) → length cs ≡ n → taken n blank (pushed cs stack) ≡ record { operands = together cs; left = stack }
unfolding taken
taken-pushed cs stack n e =
    let f : n ≡ length cs + 0 = omega (arith, e) in
    ap (λ k. taken k blank (pushed cs stack)) f ∙ taken-more cs stack 0 blank

-- what is sure of operands together, as the table says it of a list
pub all_empty-together : (cs : List Surely) → (together cs).all_empty ≡ all_empty cs
all_empty-together [] = refl
all_empty-together (c ∷ cs) = ap (λ z. c.empty && z) (all_empty-together cs)

pub all_whole-together : (cs : List Surely) → (together cs).all_whole ≡ all_whole cs
all_whole-together [] = refl
all_whole-together (c ∷ cs) = ap (λ z. c.whole && z) (all_whole-together cs)

pub any_empty-together : (cs : List Surely) → (together cs).any_empty ≡ list_any (λ c. c.empty) cs
any_empty-together [] = refl
any_empty-together (c ∷ cs) = ap (λ z. c.empty || z) (any_empty-together cs)

any_whole-together : (cs : List Surely) → (together cs).any_whole ≡ list_any (λ c. c.whole) cs
any_whole-together [] = refl
any_whole-together (c ∷ cs) = ap (λ z. c.whole || z) (any_whole-together cs)

any_nonempty-together : (cs : List Surely) → (together cs).any_nonempty ≡ list_any (λ c. c.nonempty) cs
any_nonempty-together [] = refl
any_nonempty-together (c ∷ cs) = ap (λ z. c.nonempty || z) (any_nonempty-together cs)

one_nonempty-together : (cs : List Surely) → (together cs).one_nonempty ≡ one_is_nonempty cs
one_nonempty-together [] = refl
one_nonempty-together (c ∷ cs) = ap (λ z. (c.nonempty && z) || (c.whole && (together cs).one_nonempty)) (all_whole-together cs) ∙ ap (λ z. (c.nonempty && all_whole cs) || (c.whole && z)) (one_nonempty-together cs)

pub one_whole-together : (cs : List Surely) → (together cs).one_whole ≡ one_is_whole cs
one_whole-together [] = refl
one_whole-together (c ∷ cs) = ap (λ z. (c.whole && z) || (c.empty && (together cs).one_whole)) (all_empty-together cs) ∙ ap (λ z. (c.whole && all_empty cs) || (c.empty && z)) (one_whole-together cs)

disjoint-together : (cs : List Surely) → (together cs).disjoint ≡ are_disjoint cs
disjoint-together [] = refl
disjoint-together (c ∷ cs) = ap (λ z. cond c.empty z (together cs).all_empty) (disjoint-together cs) ∙ ap (λ z. cond c.empty (are_disjoint cs) z) (all_empty-together cs)

surely_of : Bool → Bool → Bool → Surely
surely_of empty whole nonempty = record { empty = empty; whole = whole; nonempty = nonempty }

same_surely : {a b c x y z : Bool} → a ≡ x → b ≡ y → c ≡ z → surely_of a b c ≡ surely_of x y z
same_surely {a} {b} {c} {x} {y} {z} e f g = ap (λ w. surely_of w b c) e ∙ ap (λ w. surely_of x w c) f ∙ ap (surely_of x y) g

intersection-together : (cs : List Surely) → intersection_of (together cs) ≡ intersection cs
unfolding surely_of
intersection-together cs = same_surely (any_empty-together cs) (all_whole-together cs) (one_nonempty-together cs)

union-together : (cs : List Surely) → union_of (together cs) ≡ union cs
unfolding surely_of
union-together cs = same_surely (all_empty-together cs) (any_whole-together cs) (any_nonempty-together cs)

joined-pushed : (whole : Operands → Surely) (cs stack : List Surely) (n : ℕ) → length cs ≡ n → joined whole n (pushed cs stack) ≡ whole (together cs) ∷ stack
joined-pushed whole cs stack n e = ap (λ off. whole off.operands ∷ off.left) (taken-pushed cs stack n e)

pub joined-intersection : (cs stack : List Surely) (n : ℕ) → length cs ≡ n → joined intersection_of n (pushed cs stack) ≡ intersection cs ∷ stack
joined-intersection cs stack n e = joined-pushed intersection_of cs stack n e ∙ ap (λ z. z ∷ stack) (intersection-together cs)

pub joined-union : (cs stack : List Surely) (n : ℕ) → length cs ≡ n → joined union_of n (pushed cs stack) ≡ union cs ∷ stack
joined-union cs stack n e = joined-pushed union_of cs stack n e ∙ ap (λ z. z ∷ stack) (union-together cs)

-- the tests of several operands
pub passes-equivalent : (cs stack : List Surely) (n : ℕ) → length cs ≡ n → passes (tests.Equivalent n) (pushed cs stack) ≡ are_equivalent cs
passes-equivalent cs stack n e =
    ap (λ off. (off.operands.all_empty || off.operands.all_whole) || nat_eq n 1) (taken-pushed cs stack n e)
    ∙ ap (λ z. (z || (together cs).all_whole) || nat_eq n 1) (all_empty-together cs)
    ∙ ap (λ z. (all_empty cs || z) || nat_eq n 1) (all_whole-together cs)
    ∙ ap (λ z. (all_empty cs || all_whole cs) || nat_eq z 1) (sym e)

pub passes-disjoint : (cs stack : List Surely) (n : ℕ) → length cs ≡ n → passes (tests.Disjoint n) (pushed cs stack) ≡ are_disjoint cs
passes-disjoint cs stack n e = ap (λ off. off.operands.disjoint) (taken-pushed cs stack n e) ∙ disjoint-together cs

pub passes-any_empty : (cs stack : List Surely) (n : ℕ) → length cs ≡ n → passes (tests.AnyEmpty n) (pushed cs stack) ≡ list_any (λ c. c.empty) cs
passes-any_empty cs stack n e = ap (λ off. off.operands.any_empty) (taken-pushed cs stack n e) ∙ any_empty-together cs

pub passes-chain : (super : Surely) (cs stack : List Surely) (n : ℕ) → length cs ≡ n → passes (tests.ChainBelow n) (pushed cs (super ∷ stack)) ≡ list_any (λ c. c.empty) cs || super.whole
passes-chain super cs stack n e = passes-chain-taken ∙ ap (λ z. z || super.whole) (any_empty-together cs)
  where
    passes-chain-taken : passes (tests.ChainBelow n) (pushed cs (super ∷ stack)) ≡ (together cs).any_empty || super.whole
    passes-chain-taken = rw (taken-pushed cs (super ∷ stack) n e) refl

pub passes-disjoint_union : (whole : Surely) (cs stack : List Surely) (n : ℕ) → length cs ≡ n → passes (tests.DisjointUnion n) (pushed cs (whole ∷ stack)) ≡ (whole.empty && all_empty cs) || (whole.whole && one_is_whole cs)
passes-disjoint_union whole cs stack n e =
    taken_off
    ∙ ap (λ z. (whole.empty && z) || (whole.whole && (together cs).one_whole)) (all_empty-together cs)
    ∙ ap (λ z. (whole.empty && all_empty cs) || (whole.whole && z)) (one_whole-together cs)
  where
    taken_off : passes (tests.DisjointUnion n) (pushed cs (whole ∷ stack)) ≡ (whole.empty && (together cs).all_empty) || (whole.whole && (together cs).one_whole)
    taken_off = rw (taken-pushed cs (whole ∷ stack) n e) refl

and_true : (a : Bool) → (a && true) ≡ a
and_true true = refl
and_true false = refl

or_false : (a : Bool) → (a || false) ≡ a
or_false true = refl
or_false false = refl

pub equivalent-two : (a b : Surely) → are_equivalent (a ∷ b ∷ []) ≡ both_or_neither a b
equivalent-two a b =
    or_false _
    ∙ ap (λ z. (a.empty && z) || (a.whole && (b.whole && true))) (and_true b.empty)
    ∙ ap (λ z. (a.empty && b.empty) || (a.whole && z)) (and_true b.whole)

module _ (side : Side) (seen : ℕ → Bool) where
  pub run-append : (stack : List Surely) (xs ys : List Cell) → run side seen stack (xs ++ ys) ≡ run side seen (run side seen stack xs) ys
  unfolding run
  run-append stack [] ys = refl
  run-append stack (x ∷ xs) ys = run-append (step side seen x stack) xs ys

  -- a cell, and a code, that puts this operand on the stack
  abbrev pub PutsOne : Cell → Surely → Type 0
  PutsOne cell c = (stack : List Surely) → step side seen cell stack ≡ c ∷ stack

  abbrev pub Puts : List Cell → Surely → Type 0
  Puts code c = (stack : List Surely) → run side seen stack code ≡ c ∷ stack

  pub puts-cell : (cell : Cell) (c : Surely) → PutsOne cell c → Puts (cell ∷ []) c
  unfolding run
  puts-cell cell c h stack = h stack

  pub puts-first : (cell : Cell) (c : Surely) (code : List Cell) (stack : List Surely) → PutsOne cell c → run side seen stack (cell ∷ code) ≡ run side seen (c ∷ stack) code
  unfolding run
  puts-first cell c code stack h = ap (λ z. run side seen z code) (h stack)

  -- a code whose last cell is an operator
  pub run-last : (code : List Cell) (operator : Cell) (stack : List Surely) → run side seen stack (code ++ operator ∷ []) ≡ step side seen operator (run side seen stack code)
  unfolding run
  run-last code operator stack = run-append stack code (operator ∷ [])

  pub puts-on_one : (operator : Cell) (f : Surely → Surely) (code : List Cell) (c : Surely) → ((stack : List Surely) → step side seen operator stack ≡ on_one f stack) → Puts code c → Puts (code ++ operator ∷ []) (f c)
  puts-on_one operator f code c is h stack = run-last code operator stack ∙ is (run side seen stack code) ∙ ap (on_one f) (h stack)

  pub puts-on_two : (operator property : Cell) (f : Surely → Surely → Surely) (code : List Cell) (p c : Surely) → ((stack : List Surely) → step side seen operator stack ≡ on_two f stack) → PutsOne property p → Puts code c → Puts (property ∷ code ++ operator ∷ []) (f p c)
  puts-on_two operator property f code p c is g h stack =
      puts-first property p (code ++ operator ∷ []) stack g
      ∙ run-last code operator (p ∷ stack)
      ∙ is (run side seen (p ∷ stack) code)
      ∙ ap (on_two f) (h (p ∷ stack))

  -- codes and cells that each put an operand on the stack
  pub run-each : {X : Type 0} (f : X → List Cell) (g : X → Surely) (xs : List X) → AllByRecursion (λ x. Puts (f x) (g x)) xs → (stack : List Surely) → run side seen stack (flat_map f xs) ≡ pushed (map g xs) stack
  unfolding run
  run-each f g [] h stack = refl
  run-each f g (x ∷ xs) h stack =
      run-append stack (f x) (flat_map f xs)
      ∙ ap (λ z. run side seen z (flat_map f xs)) (h.0 stack)
      ∙ run-each f g xs h.1 (g x ∷ stack)

  pub run-cells : {X : Type 0} (f : X → Cell) (g : X → Surely) → ((x : X) → PutsOne (f x) (g x)) → (xs : List X) (stack : List Surely) → run side seen stack (map f xs) ≡ pushed (map g xs) stack
  unfolding run
  run-cells f g h [] stack = refl
  run-cells f g h (x ∷ xs) stack = puts-first (f x) (g x) (map f xs) stack (h x) ∙ run-cells f g h xs (g x ∷ stack)

  pub puts-intersection : {X : Type 0} (f : X → List Cell) (g : X → Surely) (xs : List X) → AllByRecursion (λ x. Puts (f x) (g x)) xs → Puts (flat_map f xs ++ cells.And (length xs) ∷ []) (intersection (map g xs))
  puts-intersection f g xs h stack =
      run-last (flat_map f xs) (cells.And (length xs)) stack
      ∙ ap (joined intersection_of (length xs)) (run-each f g xs h stack)
      ∙ joined-intersection (map g xs) stack (length xs) (length-map xs g)

  pub puts-union : {X : Type 0} (f : X → List Cell) (g : X → Surely) (xs : List X) → AllByRecursion (λ x. Puts (f x) (g x)) xs → Puts (flat_map f xs ++ cells.Or (length xs) ∷ []) (union (map g xs))
  puts-union f g xs h stack =
      run-last (flat_map f xs) (cells.Or (length xs)) stack
      ∙ ap (joined union_of (length xs)) (run-each f g xs h stack)
      ∙ joined-union (map g xs) stack (length xs) (length-map xs g)
