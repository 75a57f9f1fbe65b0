-- Tables of genuine modules.
use Rattle.std.specs.Prelude.{◌≡◌, ℕ, ◌<◌, Bool, false, List, Option, Some, None, length, IsTrue, IsFalse}
use Rattle.std.specs.List.{Contains}
use Rattle.ad_base.specs.declared.limits.Kind.{Kind}
use Rattle.ad_base.specs.declared.limits.Side.{Side}
use Rattle.ad_bits.specs.Rows.{has}
use Rattle.ad_theory.specs.Genuine.{IsGenuine}
use Rattle.ad_tables.specs.Rows.{Tables, of_kind, row_of}

-- the tables hold, for each kind, the genuine module of each live axiom as a row over so many slots, and nothing else
pub record AreGenuine (symbols : ℕ → List ℕ) (local : Side → (ℕ → Bool) → ℕ → Bool) (live : ℕ → Bool) (slots : ℕ) (tables : Tables) : Type 0 where
  pub rows : (kind : Kind) (i : ℕ) → IsTrue (live i) → (row : List Bool) × (row_of tables kind i ≡ Some row) × (length row ≡ slots) × IsGenuine kind symbols local live i (has row)
  pub long : (kind : Kind) → length (of_kind tables kind) ≡ slots
  pub no_others : (kind : Kind) (i : ℕ) → IsFalse (live i) → row_of tables kind i ≡ None

-- whether the axiom k is in the row of the axiom i
abbrev pub is_in : Option (List Bool) → ℕ → Bool
is_in None k = false
is_in (Some row) k = has row k

abbrev pub is_in_row_of : Tables → Kind → ℕ → ℕ → Bool
is_in_row_of tables kind i k = is_in (row_of tables kind i) k

-- order lists axioms that are slots, each with a row over all of them
pub record HaveRows (tables : Tables) (kind : Kind) (slots : ℕ) (order : List ℕ) : Type 0 where
  pub below : (i : ℕ) → Contains order i → i < slots
  pub rows : (i : ℕ) → Contains order i → (row : List Bool) × (row_of tables kind i ≡ Some row) × (length row ≡ slots)

-- G says which axioms are in the genuine module of an axiom (G a b: b is in that of a): those listed alone, and with each
-- of them all that are in its own genuine module
pub record AreNested {A : Type 0} (G : A → A → Bool) (order : List A) : Type 0 where
  pub within : (a b : A) → Contains order a → IsTrue (G a b) → Contains order b
  pub nested : (a b c : A) → Contains order a → IsTrue (G a b) → IsTrue (G b c) → IsTrue (G a c)
