-- A change of slots as the code has it: two universes, and rows of the removed and the added slots.
use Rattle.std.specs.Prelude.{ℕ, Bool, ◌&&◌, not, List}
use Rattle.ad_base.specs.declared.limits.Kind.{Kind}
use Rattle.ad_base.specs.declared.limits.Kind.TheVariants as kinds
use Rattle.ad_base.specs.declared.limits.Side.{Side}
use Rattle.ad_base.specs.declared.limits.Side.TheVariants.{Bottom, Top}
use Rattle.ad_bits.specs.Rows.{has}
use Rattle.ad_theory.specs.Numbers.{among}
use Rattle.ad_decomposition.specs.Affected.{Theory, Change}

abbrev pub theory_of : (ℕ → List ℕ) → (Side → (ℕ → Bool) → ℕ → Bool) → (ℕ → Bool) → Theory
theory_of symbols local live = record { symbols = symbols; local = local; live = live }

-- from the axioms before to those after, over so many slots
abbrev pub change_of : Theory → Theory → List Bool → List Bool → ℕ → Change
change_of before after removed added slots = record { before = before; after = after; removed = has removed; added = has added; slots = slots }

-- the slot held an axiom before, which stays
abbrev pub stays : Change → ℕ → Bool
stays change i = change.before.live i && not (change.removed i)

-- the slot's axiom stays, and the symbol stands in its signature
abbrev pub stands_in : Change → ℕ → ℕ → Bool
stands_in change s i = stays change i && among (change.before.symbols i) s

-- the kind of module of a side
abbrev pub kind_of_side : Side → Kind
kind_of_side Bottom = kinds.Bottom
kind_of_side Top = kinds.Top
