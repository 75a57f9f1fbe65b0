-- What a code means: it is read from left to right over a stack of what is sure of operands. An empty stack has operands of
-- which nothing is sure, so every list of cells means something.
use Rattle.std.specs.Prelude.{ℕ, zero, suc, IsTrue, Bool, true, false, cond, ◌&&◌, ◌||◌, List, [], ◌∷◌, nat_eq}
use Rattle.std.specs.List.{flat_map}
use Rattle.ad_base.specs.declared.limits.Side.{Side}
use Rattle.ad_theory.specs.Numbers.{among}
use Rattle.ad_locality.specs.Columns.{neither}
use Rattle.ad_locality.specs.Locality.{outside, complement, some_of, all_of, at_least, at_most, exactly}
use Rattle.ad_locality.specs.declared.surely.Surely.{Surely}
use Rattle.ad_cells.specs.declared.cell.Cell.{Cell}
use Rattle.ad_cells.specs.declared.cell.Cell.TheVariants as cells
use Rattle.ad_cells.specs.declared.cell.Test.{Test}
use Rattle.ad_cells.specs.declared.cell.Test.TheVariants as tests
use Rattle.ad_cells.specs.declared.operands.Operands.{Operands}

-- of no operands
abbrev pub blank : Operands
blank = record { all_empty = true; all_whole = true; any_empty = false; any_whole = false; any_nonempty = false; one_nonempty = false; one_whole = false; disjoint = true }

-- of an operand before others
abbrev pub before : Surely → Operands → Operands
before c t = record {
  all_empty = c.empty && t.all_empty;
  all_whole = c.whole && t.all_whole;
  any_empty = c.empty || t.any_empty;
  any_whole = c.whole || t.any_whole;
  any_nonempty = c.nonempty || t.any_nonempty;
  one_nonempty = (c.nonempty && t.all_whole) || (c.whole && t.one_nonempty);
  one_whole = (c.whole && t.all_empty) || (c.empty && t.one_whole);
  disjoint = cond c.empty t.disjoint t.all_empty;
}

abbrev pub intersection_of : Operands → Surely
intersection_of t = record { empty = t.any_empty; whole = t.all_whole; nonempty = t.one_nonempty }

abbrev pub union_of : Operands → Surely
union_of t = record { empty = t.all_empty; whole = t.any_whole; nonempty = t.any_nonempty }

abbrev pub restricted : Surely → Surely
restricted c = record { empty = c.empty; whole = false; nonempty = false }

-- the operand on top of the stack, and the stack under it
abbrev pub top : List Surely → Surely
top [] = neither
top (c ∷ stack) = c

abbrev pub under : List Surely → List Surely
under [] = []
under (c ∷ stack) = stack

-- operands that were taken off, and the stack that is left
pub record Taken : Type 0 where
  pub operands : Operands
  pub left : List Surely

-- so many operands off the stack, before those that were taken already
unfoldable pub taken : ℕ → Operands → List Surely → Taken
taken zero t stack = record { operands = t; left = stack }
taken (suc n) t stack = taken n (before (top stack) t) (under stack)

-- an operator with so many operands
abbrev pub joined : (Operands → Surely) → ℕ → List Surely → List Surely
joined whole n stack = let off = taken n blank stack in whole off.operands ∷ off.left

-- an operator with one operand, and with two, of which the second is on top
abbrev pub on_one : (Surely → Surely) → List Surely → List Surely
on_one f stack = f (top stack) ∷ under stack

abbrev pub on_two : (Surely → Surely → Surely) → List Surely → List Surely
on_two f stack = f (top (under stack)) (top stack) ∷ under (under stack)

-- one cell, where this says which numbers are seen
abbrev pub step : Side → (ℕ → Bool) → Cell → List Surely → List Surely
step side seen (cells.Known surely) stack = surely ∷ stack
step side seen cells.Outside stack = outside side ∷ stack
step side seen (cells.Symbol n) stack = cond (seen n) neither (outside side) ∷ stack
step side seen (cells.And n) stack = joined intersection_of n stack
step side seen (cells.Or n) stack = joined union_of n stack
step side seen cells.Not stack = on_one complement stack
step side seen cells.Restricted stack = on_one restricted stack
step side seen cells.Some stack = on_two some_of stack
step side seen cells.All stack = on_two all_of stack
step side seen (cells.AtLeast n) stack = on_two (at_least n) stack
step side seen (cells.AtMost n) stack = on_two (at_most n) stack
step side seen (cells.Exactly n) stack = on_two (exactly n) stack

-- the stack after a code
unfoldable pub run : Side → (ℕ → Bool) → List Surely → List Cell → List Surely
run side seen stack [] = stack
run side seen stack (cell ∷ code) = run side seen (step side seen cell stack) code

-- what is asked of the operands on a stack
abbrev pub passes : Test → List Surely → Bool
passes tests.Below stack = (top stack).empty || (top (under stack)).whole
passes (tests.ChainBelow n) stack = let off = taken n blank stack in off.operands.any_empty || (top off.left).whole
passes (tests.Equivalent n) stack = let off = taken n blank stack in (off.operands.all_empty || off.operands.all_whole) || nat_eq n 1
passes (tests.Disjoint n) stack = (taken n blank stack).operands.disjoint
passes (tests.DisjointUnion n) stack = let off = taken n blank stack in ((top off.left).empty && off.operands.all_empty) || ((top off.left).whole && off.operands.one_whole)
passes tests.Empty stack = (top stack).empty
passes tests.Whole stack = (top stack).whole
passes tests.EmptyOrWhole stack = (top stack).empty || (top stack).whole
passes (tests.AnyEmpty n) stack = (taken n blank stack).operands.any_empty
passes (tests.Fixed answer) stack = answer

-- whether the axiom with this test and this code is local, where this says which numbers are seen
abbrev pub is_local_code : Side → (ℕ → Bool) → Test → List Cell → Bool
is_local_code side seen test code = passes test (run side seen [] code)

-- the numbers of a code, in order and with repeats
abbrev pub symbol_in : Cell → List ℕ
symbol_in (cells.Known surely) = []
symbol_in cells.Outside = []
symbol_in (cells.Symbol n) = n ∷ []
symbol_in (cells.And n) = []
symbol_in (cells.Or n) = []
symbol_in cells.Not = []
symbol_in cells.Restricted = []
symbol_in cells.Some = []
symbol_in cells.All = []
symbol_in (cells.AtLeast n) = []
symbol_in (cells.AtMost n) = []
symbol_in (cells.Exactly n) = []

abbrev pub symbols_of : List Cell → List ℕ
symbols_of code = flat_map symbol_in code

-- An axiom that is local where T says what is seen is local where fewer of its own numbers are. So locality shrinks as more
-- is seen, and reads no other numbers.
abbrev pub CodesShrink : Type 0
CodesShrink = (side : Side) (S T : ℕ → Bool) (test : Test) (code : List Cell) → ((n : ℕ) → IsTrue (among (symbols_of code) n) → IsTrue (S n) → IsTrue (T n)) → IsTrue (is_local_code side T test code) → IsTrue (is_local_code side S test code)
