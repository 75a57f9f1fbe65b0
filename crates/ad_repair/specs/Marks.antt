-- The slots whose rows a change affects.
use Rattle.std.specs.Prelude.{◌≡◌, ℕ, Bool, ◌&&◌, List, length, IsTrue, IsFalse}
use Rattle.ad_base.specs.declared.limits.Kind.{Kind}
use Rattle.ad_base.specs.declared.limits.Kind.TheVariants.{Bottom, Top, Star}
use Rattle.ad_base.specs.declared.limits.Side.TheVariants as sides
use Rattle.ad_bits.specs.Rows.{has}
use Rattle.ad_tables.specs.Rows.{Tables}
use Rattle.ad_decomposition.specs.Affected.{Change, has_foreign}
use Rattle.ad_decomposition.specs.Tables.{is_in_row_of}
use Rattle.ad_repair.specs.declared.marks.Foreign.{Foreign}
use Rattle.ad_repair.specs.declared.marks.Marks.{Marks}
use Rattle.ad_repair.specs.Changes.{stays}

-- both rows are over so many slots
pub record AreForeignOver (slots : ℕ) (foreign : Foreign) : Type 0 where
  pub bottom : length foreign.bottom ≡ slots
  pub top : length foreign.top ≡ slots

-- of the slots that stay, those are marked to whose rows of the side something that was added is foreign
pub record AreForeign (change : Change) (rows : Tables) (foreign : Foreign) : Type 0 where
  pub bottom : (i : ℕ) → IsTrue (stays change i) → has foreign.bottom i ≡ has_foreign change sides.Bottom i (is_in_row_of rows Bottom i)
  pub top : (i : ℕ) → IsTrue (stays change i) → has foreign.top i ≡ has_foreign change sides.Top i (is_in_row_of rows Top i)

-- whether the slot is marked, for a kind: for star modules on both sides
abbrev pub foreign_of : Foreign → Kind → ℕ → Bool
foreign_of foreign Bottom i = has foreign.bottom i
foreign_of foreign Top i = has foreign.top i
foreign_of foreign Star i = has foreign.bottom i && has foreign.top i

-- each live slot without an added axiom held its axiom before
abbrev pub AllStay : Change → Type 0
AllStay change = (i : ℕ) → IsTrue (change.after.live i) → IsFalse (change.added i) → IsTrue (stays change i)

-- the marked slots of a kind
abbrev pub marked_of : Marks → Kind → List Bool
marked_of marks Bottom = marks.bottom
marked_of marks Top = marks.top
marked_of marks Star = marks.star
