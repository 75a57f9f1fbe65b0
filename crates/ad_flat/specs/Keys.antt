-- Values under keys of a slab, by slots.
use Rattle.std.specs.Prelude.{◌≡◌, ◌≢◌, ℕ, List, map, Option, None, Some, slice_index_or}
use Rattle.slab.specs.Slab.{Slab, get, ContainsKey}

-- the key of a slot; a free one has none, and slots past the end are free
abbrev pub key_at : List (Option ℕ) → ℕ → Option ℕ
key_at keys i = slice_index_or keys i None

-- this slot has this key now, and all others have what they had
pub record IsReplacedKey (i : ℕ) (key : Option ℕ) (before after : List (Option ℕ)) : Type 0 where
  pub here : key_at after i ≡ key
  pub others : (j : ℕ) → j ≢ i → key_at after j ≡ key_at before j

module _ {T : Type 0} where
  -- the value under a key
  abbrev pub value_under : Slab T → Option ℕ → Option T
  value_under values None = None
  value_under values (Some key) = get values key

  -- what each slot holds
  abbrev pub values_by : Slab T → List (Option ℕ) → List (Option T)
  values_by values keys = map (value_under values) keys

  -- Each key of the table has a value, no two slots have the same key, and the slab has no other values.
  pub record AreKeys (values : Slab T) (keys : List (Option ℕ)) : Type 0 where
    pub stored : (i key : ℕ) → key_at keys i ≡ Some key → ContainsKey values key
    pub distinct : (i j key : ℕ) → key_at keys i ≡ Some key → key_at keys j ≡ Some key → i ≡ j
    pub no_others : (key : ℕ) → ContainsKey values key → (i : ℕ) × (key_at keys i ≡ Some key)
