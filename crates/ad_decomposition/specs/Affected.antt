-- A change of numbered axioms, and which genuine modules are found anew after it.
use Rattle.std.specs.Prelude.{◌≡◌, ℕ, Bool, ◌&&◌, ◌||◌, not, List, IsTrue, IsFalse}
use Rattle.std.specs.List.{list_any, range_with_len}
use Rattle.ad_base.specs.declared.limits.Kind.{Kind}
use Rattle.ad_base.specs.declared.limits.Kind.TheVariants.{Bottom, Top, Star}
use Rattle.ad_base.specs.declared.limits.Side.{Side}
use Rattle.ad_base.specs.declared.limits.Side.TheVariants as sides
use Rattle.ad_theory.specs.Numbers.{among}
use Rattle.ad_tables.specs.Rows.{Tables}
use Rattle.ad_decomposition.specs.Tables.{is_in_row_of}

-- axioms that are slots: their symbols, for which symbols they are local, and which slots hold one
pub record Theory : Type 0 where
  pub symbols : ℕ → List ℕ
  pub local : Side → (ℕ → Bool) → ℕ → Bool
  pub live : ℕ → Bool

-- what was before and what is after, over so many slots; from which slots an axiom was removed, and to which one was added
pub record Change : Type 0 where
  pub before : Theory
  pub after : Theory
  pub removed : ℕ → Bool
  pub added : ℕ → Bool
  pub slots : ℕ

-- The slots that are live after are those before without the removed, and the added. A slot may be both: then its
-- axiom is another, or was removed and added again. An axiom that stays has its symbols and its locality.
pub record IsChangeOfSlots (change : Change) : Type 0 where
  pub removed_was_live : (i : ℕ) → IsTrue (change.removed i) → IsTrue (change.before.live i)
  pub added_is_live : (i : ℕ) → IsTrue (change.added i) → IsTrue (change.after.live i)
  pub gone : (i : ℕ) → IsTrue (change.removed i) → IsFalse (change.added i) → IsFalse (change.after.live i)
  pub was_free : (i : ℕ) → IsTrue (change.added i) → IsFalse (change.removed i) → IsFalse (change.before.live i)
  pub others : (i : ℕ) → IsFalse (change.removed i) → IsFalse (change.added i) → change.before.live i ≡ change.after.live i
  pub signatures : (i s : ℕ) → IsTrue (change.before.live i) → IsFalse (change.removed i) → among (change.before.symbols i) s ≡ among (change.after.symbols i) s
  pub localities : (side : Side) (seen : ℕ → Bool) (i : ℕ) → IsTrue (change.before.live i) → IsFalse (change.removed i) → change.before.local side seen i ≡ change.after.local side seen i

-- whether some slot passes the test
abbrev pub some_slot : Change → (ℕ → Bool) → Bool
some_slot change test = list_any test (range_with_len 0 change.slots)

-- whether an axiom of the module M was removed
abbrev pub meets_removed : Change → (ℕ → Bool) → Bool
meets_removed change M = some_slot change (λ k. M k && change.removed k)

-- the symbols of the axiom i, and of those axioms of M that stay
abbrev pub rest_symbols : Change → ℕ → (ℕ → Bool) → ℕ → Bool
rest_symbols change i M s = among (change.before.symbols i) s || some_slot change (λ k. (M k && not (change.removed k)) && among (change.before.symbols k) s)

-- whether an added axiom is foreign to what stays of M: not local, on this side, for the symbols of i and of that rest
abbrev pub has_foreign : Change → Side → ℕ → (ℕ → Bool) → Bool
has_foreign change side i M = some_slot change (λ k. change.added k && not (change.after.local side (rest_symbols change i M) k))

-- The same of the row of i. A star module has changed only where both sides have an axiom that is foreign to them.
abbrev pub has_foreign_of : Change → Tables → Kind → ℕ → Bool
has_foreign_of change rows Bottom i = has_foreign change sides.Bottom i (is_in_row_of rows Bottom i)
has_foreign_of change rows Top i = has_foreign change sides.Top i (is_in_row_of rows Top i)
has_foreign_of change rows Star i = has_foreign change sides.Bottom i (is_in_row_of rows Bottom i) && has_foreign change sides.Top i (is_in_row_of rows Top i)

-- whether the change may have given the axiom i another genuine module of this kind than its row before: it was added
-- itself, or its row has a removed axiom, or an added axiom is foreign to it
abbrev pub affected : Change → Tables → Kind → ℕ → Bool
affected change rows kind i = change.added i || (meets_removed change (is_in_row_of rows kind i) || has_foreign_of change rows kind i)

-- whether the genuine module of this kind of the axiom i is to be found after the change
abbrev pub to_find : Change → Tables → Kind → ℕ → Bool
to_find change rows kind i = change.after.live i && affected change rows kind i
