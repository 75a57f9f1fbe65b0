-- Where more is sure of the operands on a stack, no less is sure after each cell, and no fewer tests are passed. So an axiom
-- stays local where fewer of its own numbers are seen.
use Rattle.std.proofs.Common.{◌≡◌, ◌==◌, ℕ, zero, suc, Bool, true, false, cond, ◌&&◌, List, [], ◌∷◌, ◌++◌, IsTrue, nat_eq, inl, inr, refl, eq-eqb}
use Rattle.ad_base.specs.declared.limits.Side.{Side}
use Rattle.ad_theory.proofs.Members.{or_left, or_right, or_cases}
use Rattle.ad_theory.specs.Numbers.{among}
use Rattle.ad_locality.specs.Columns.{neither}
use Rattle.ad_locality.specs.Locality.{outside}
use Rattle.ad_locality.specs.declared.surely.Surely.{Surely}
use Rattle.ad_syntax_laws.proofs.SurelyLemmas.{IsLess, IsBelow, less_refl, less_or, less_and, below_refl, complement_below, some_of_below, all_of_below, at_least_below, at_most_below, exactly_below}
use Rattle.ad_cells.specs.declared.cell.Cell.{Cell}
use Rattle.ad_cells.specs.declared.cell.Cell.TheVariants as cells
use Rattle.ad_cells.specs.declared.cell.Test.{Test}
use Rattle.ad_cells.specs.declared.cell.Test.TheVariants as tests
use Rattle.ad_cells.specs.declared.operands.Operands.{Operands}
use Rattle.ad_cells.specs.Codes.{blank, before, intersection_of, union_of, restricted, top, under, Taken, taken, joined, step, run, passes, symbol_in, symbols_of, CodesShrink}

-- what is sure of the operands by a is sure by b; and by b, operands that are all empty are disjoint
pub record AreBelow (a b : Operands) : Type 0 where
  pub all_empty : IsLess a.all_empty b.all_empty
  pub all_whole : IsLess a.all_whole b.all_whole
  pub any_empty : IsLess a.any_empty b.any_empty
  pub any_whole : IsLess a.any_whole b.any_whole
  pub any_nonempty : IsLess a.any_nonempty b.any_nonempty
  pub one_nonempty : IsLess a.one_nonempty b.one_nonempty
  pub one_whole : IsLess a.one_whole b.one_whole
  pub disjoint : IsLess a.disjoint b.disjoint
  pub empty_disjoint : IsLess b.all_empty b.disjoint

blank_below : AreBelow blank blank
blank_below = record {
  all_empty = less_refl true;
  all_whole = less_refl true;
  any_empty = less_refl false;
  any_whole = less_refl false;
  any_nonempty = less_refl false;
  one_nonempty = less_refl false;
  one_whole = less_refl false;
  disjoint = less_refl true;
  empty_disjoint = less_refl true;
}

-- an operand that is empty by x leaves those after it to be disjoint, and any other leaves them to be empty
disjoint_less : {e f d g : Bool} (x y : Bool) → IsLess x y → IsLess e f → IsLess d g → IsLess f g → IsLess (cond x d e) (cond y g f)
disjoint_less true true h k m n = m
disjoint_less true false h k m n = absurd (let e : false ≡ true = h.holds refl in cc)
disjoint_less false true h k m n = record { holds = λ t. n.holds (k.holds t) }
disjoint_less false false h k m n = k

empty_disjoint_less : {f g : Bool} (y : Bool) → IsLess f g → IsLess (y && f) (cond y g f)
empty_disjoint_less true n = n
empty_disjoint_less false n = record { holds = λ t. absurd (let e : false ≡ true = t in cc) }

before_below : {c d : Surely} {t u : Operands} → IsBelow c d → AreBelow t u → AreBelow (before c t) (before d u)
before_below {c} {d} {t} {u} h k = record {
  all_empty = less_and h.empty k.all_empty;
  all_whole = less_and h.whole k.all_whole;
  any_empty = less_or h.empty k.any_empty;
  any_whole = less_or h.whole k.any_whole;
  any_nonempty = less_or h.nonempty k.any_nonempty;
  one_nonempty = less_or (less_and h.nonempty k.all_whole) (less_and h.whole k.one_nonempty);
  one_whole = less_or (less_and h.whole k.all_empty) (less_and h.empty k.one_whole);
  disjoint = disjoint_less c.empty d.empty h.empty k.all_empty k.disjoint k.empty_disjoint;
  empty_disjoint = empty_disjoint_less d.empty k.empty_disjoint;
}

intersection_below : (t u : Operands) → AreBelow t u → IsBelow (intersection_of t) (intersection_of u)
intersection_below t u k = record { empty = k.any_empty; whole = k.all_whole; nonempty = k.one_nonempty }

union_below : (t u : Operands) → AreBelow t u → IsBelow (union_of t) (union_of u)
union_below t u k = record { empty = k.all_empty; whole = k.any_whole; nonempty = k.any_nonempty }

restricted_below : {c d : Surely} → IsBelow c d → IsBelow (restricted c) (restricted d)
restricted_below h = record { empty = h.empty; whole = less_refl false; nonempty = less_refl false }

-- the stacks are as high, and what is sure of each operand of the first is sure of that of the second
abbrev pub IsStackBelow : List Surely → List Surely → Type 0
IsStackBelow [] [] = Unit {0}
IsStackBelow [] (d ∷ t) = ⊥
IsStackBelow (c ∷ s) [] = ⊥
IsStackBelow (c ∷ s) (d ∷ t) = IsBelow c d × IsStackBelow s t

top_below : (s t : List Surely) → IsStackBelow s t → IsBelow (top s) (top t)
top_below [] [] h = below_refl neither
top_below [] (d ∷ t) h = absurd h
top_below (c ∷ s) [] h = absurd h
top_below (c ∷ s) (d ∷ t) h = h.0

under_below : (s t : List Surely) → IsStackBelow s t → IsStackBelow (under s) (under t)
under_below [] [] h = tt
under_below [] (d ∷ t) h = absurd h
under_below (c ∷ s) [] h = absurd h
under_below (c ∷ s) (d ∷ t) h = h.1

record IsTakenBelow (a b : Taken) : Type 0 where
  operands : AreBelow a.operands b.operands
  left : IsStackBelow a.left b.left

taken_below : (n : ℕ) (t u : Operands) (r s : List Surely) → AreBelow t u → IsStackBelow r s → IsTakenBelow (taken n t r) (taken n u s)
unfolding taken
taken_below zero t u r s k h = record { operands = k; left = h }
taken_below (suc n) t u r s k h = taken_below n (before (top r) t) (before (top s) u) (under r) (under s) (before_below (top_below r s h) k) (under_below r s h)

taken_blank : (n : ℕ) (r s : List Surely) → IsStackBelow r s → IsTakenBelow (taken n blank r) (taken n blank s)
taken_blank n r s h = taken_below n blank blank r s blank_below h

joined_below : (whole : Operands → Surely) → ((t u : Operands) → AreBelow t u → IsBelow (whole t) (whole u)) → (n : ℕ) (r s : List Surely) → IsStackBelow r s → IsStackBelow (joined whole n r) (joined whole n s)
joined_below whole f n r s h = let off = taken_blank n r s h in (f (taken n blank r).operands (taken n blank s).operands off.operands, off.left)

less_false : (b : Bool) → IsLess false b
less_false b = record { holds = λ h. absurd (let k : false ≡ true = h in cc) }

-- a name that is seen for S is seen for T too
symbol_below : (side : Side) (s t : Bool) → (IsTrue s → IsTrue t) → IsBelow (cond t neither (outside side)) (cond s neither (outside side))
symbol_below side true true f = below_refl neither
symbol_below side true false f = absurd (let h : false ≡ true = f refl in cc)
symbol_below side false true f = record { empty = less_false _; whole = less_false _; nonempty = less_false _ }
symbol_below side false false f = below_refl (outside side)

-- of the listed numbers, those that are seen for S are seen for T
pub record AreSeen (S T : ℕ → Bool) (numbers : List ℕ) : Type 0 where
  pub seen : (n : ℕ) → IsTrue (among numbers n) → IsTrue (S n) → IsTrue (T n)

among_left : (xs ys : List ℕ) (n : ℕ) → IsTrue (among xs n) → IsTrue (among (xs ++ ys) n)
among_left [] ys n h = absurd (let k : false ≡ true = h in cc)
among_left (x ∷ xs) ys n h = elim (or_cases (x == n) (among xs n) h) [ inl e ↦ or_left (x == n) (among (xs ++ ys) n) e | inr m ↦ or_right (x == n) (among (xs ++ ys) n) (among_left xs ys n m) ]

among_right : (xs ys : List ℕ) (n : ℕ) → IsTrue (among ys n) → IsTrue (among (xs ++ ys) n)
among_right [] ys n h = h
among_right (x ∷ xs) ys n h = or_right (x == n) (among (xs ++ ys) n) (among_right xs ys n h)

among_first : (n : ℕ) → IsTrue (among (n ∷ []) n)
among_first n = or_left (n == n) false (eq-eqb n n refl)

module _ (side : Side) (S T : ℕ → Bool) where
  step_below : (cell : Cell) (r s : List Surely) → AreSeen S T (symbol_in cell) → IsStackBelow r s → IsStackBelow (step side T cell r) (step side S cell s)
  step_below (cells.Known surely) r s k h = (below_refl surely, h)
  step_below cells.Outside r s k h = (below_refl (outside side), h)
  step_below (cells.Symbol n) r s k h = (symbol_below side (S n) (T n) (k.seen n (among_first n)), h)
  step_below (cells.And n) r s k h = joined_below intersection_of intersection_below n r s h
  step_below (cells.Or n) r s k h = joined_below union_of union_below n r s h
  step_below cells.Not r s k h = (complement_below (top_below r s h), under_below r s h)
  step_below cells.Restricted r s k h = (restricted_below (top_below r s h), under_below r s h)
  step_below cells.Some r s k h = let u = under_below r s h in (some_of_below (top_below (under r) (under s) u) (top_below r s h), under_below (under r) (under s) u)
  step_below cells.All r s k h = let u = under_below r s h in (all_of_below (top_below (under r) (under s) u) (top_below r s h), under_below (under r) (under s) u)
  step_below (cells.AtLeast n) r s k h = let u = under_below r s h in (at_least_below n (top_below (under r) (under s) u) (top_below r s h), under_below (under r) (under s) u)
  step_below (cells.AtMost n) r s k h = let u = under_below r s h in (at_most_below n (top_below (under r) (under s) u) (top_below r s h), under_below (under r) (under s) u)
  step_below (cells.Exactly n) r s k h = let u = under_below r s h in (exactly_below n (top_below (under r) (under s) u) (top_below r s h), under_below (under r) (under s) u)

  run_below : (code : List Cell) (r s : List Surely) → AreSeen S T (symbols_of code) → IsStackBelow r s → IsStackBelow (run side T r code) (run side S s code)
  unfolding run
  run_below [] r s k h = h
  run_below (cell ∷ code) r s k h =
      let here : AreSeen S T (symbol_in cell) = record { seen = λ n m. k.seen n (among_left (symbol_in cell) (symbols_of code) n m) } in
      let rest : AreSeen S T (symbols_of code) = record { seen = λ n m. k.seen n (among_right (symbol_in cell) (symbols_of code) n m) } in
      run_below code (step side T cell r) (step side S cell s) rest (step_below cell r s here h)

passes_less : (test : Test) (r s : List Surely) → IsStackBelow r s → IsLess (passes test r) (passes test s)
passes_less tests.Below r s h = less_or (top_below r s h).empty (top_below (under r) (under s) (under_below r s h)).whole
passes_less (tests.ChainBelow n) r s h = let off = taken_blank n r s h in less_or off.operands.any_empty (top_below (taken n blank r).left (taken n blank s).left off.left).whole
passes_less (tests.Equivalent n) r s h = let off = taken_blank n r s h in less_or (less_or off.operands.all_empty off.operands.all_whole) (less_refl (nat_eq n 1))
passes_less (tests.Disjoint n) r s h = (taken_blank n r s h).operands.disjoint
passes_less (tests.DisjointUnion n) r s h =
    let off = taken_blank n r s h in
    let whole = top_below (taken n blank r).left (taken n blank s).left off.left in
    less_or (less_and whole.empty off.operands.all_empty) (less_and whole.whole off.operands.one_whole)
passes_less tests.Empty r s h = (top_below r s h).empty
passes_less tests.Whole r s h = (top_below r s h).whole
passes_less tests.EmptyOrWhole r s h = less_or (top_below r s h).empty (top_below r s h).whole
passes_less (tests.AnyEmpty n) r s h = (taken_blank n r s h).operands.any_empty
passes_less (tests.Fixed answer) r s h = less_refl answer

pub codes_shrink : CodesShrink
codes_shrink side S T test code k h =
    (passes_less test (run side T [] code) (run side S [] code) (run_below side S T code [] [] (record { seen = k }) tt)).holds h
