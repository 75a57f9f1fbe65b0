-- Slots that are grouped by their signatures.
use Rattle.std.specs.Prelude.{◌≡◌, ℕ, ◌<◌, ◌≤◌, Bool, List, Option, Some, None, length, slice_index, slice_index_or, IsTrue, IsFalse}
use Rattle.ad_groups.specs.Signatures.{same_members, first_slots}
use Rattle.ad_groups.specs.Keys.{IsKeyOf}

-- of the slots below n, each that is wanted has a group, with the same signature as the group's first slot, and the others
-- have none; no two groups have the same signature
pub record AreGroups (symbols : ℕ → List ℕ) (wanted : ℕ → Bool) (n : ℕ) (groups : List (Option ℕ)) (firsts : List ℕ) : Type 0 where
  pub long : length groups ≡ n
  pub firsts_are : firsts ≡ first_slots symbols wanted n
  pub few : length firsts ≤ n
  pub wanted_firsts : (g : ℕ) → g < length firsts → IsTrue (wanted (slice_index firsts g))
  pub distinct : (g h : ℕ) → g < length firsts → h < length firsts → IsTrue (same_members (symbols (slice_index firsts g)) (symbols (slice_index firsts h))) → g ≡ h
  pub of_wanted : (i : ℕ) → i < n → IsTrue (wanted i) → (g : ℕ) × (slice_index_or groups i None ≡ Some g) × (g < length firsts)
      × IsTrue (same_members (symbols (slice_index firsts g)) (symbols i))
  pub of_others : (i : ℕ) → IsFalse (wanted i) → slice_index_or groups i None ≡ None

-- the keys of the groups' signatures are known, and no others
pub record AreKnown (symbols : ℕ → List ℕ) (known : List ℕ → Option ℕ) (firsts : List ℕ) : Type 0 where
  pub all : (g : ℕ) → g < length firsts → (key : List ℕ) × IsKeyOf (symbols (slice_index firsts g)) key × (known key ≡ Some g)
  pub only : (key : List ℕ) (g : ℕ) → known key ≡ Some g → (g < length firsts) × IsKeyOf (symbols (slice_index firsts g)) key
