-- Values under keys of a slab, where one comes or leaves.
use Rattle.std.proofs.Common.{◌≡◌, ◌≢◌, ◌<◌, ℕ, zero, suc, List, [], ◌∷◌, map, set, length, get_or, Option, None, Some, is_some, IsTrue, IsFalse, refl, sym, ap, ◌∙◌, subst, inl, inr, arith}
use Rattle.std.specs.List.{AllZip}
use Rattle.std.specs.Prelude.{IsSome}
use Rattle.std.proofs.Math.ListN.{get_or-map}
use Rattle.std.proofs.lemmas.Bool.{cases_eq}
use Rattle.std.proofs.lemmas.List.{get_or-set_same, get_or-set_other, get_or_past, length-map}
use Rattle.ad_theory.proofs.Members.{not_both}
use Rattle.slab.specs.Slab.{Slab, get, ContainsKey, Updates, IsSlotClone}
use Rattle.ad_flat.specs.Keys.{key_at, IsReplacedKey, value_under, values_by, AreKeys}

some_not_none : {A : Type 0} (o : Option A) (x : A) → o ≡ Some x → o ≡ None → ⊥
some_not_none o x s n = cc

same_some : {A : Type 0} (o : Option A) (x y : A) → o ≡ Some x → o ≡ Some y → x ≡ y
same_some o x y e f = cc

none_has_none : {A : Type 0} (o : Option A) → IsSome o → o ≡ None → ⊥
none_has_none None s n = cc
none_has_none (Some x) s n = cc

pub key_within : (keys : List (Option ℕ)) (i key : ℕ) → key_at keys i ≡ Some key → i < length keys
key_within keys i key e = grind (arith, get_or_past)

-- a place of the table is written
pub written_key : (keys : List (Option ℕ)) (i : ℕ) (key : Option ℕ) → i < length keys → IsReplacedKey i key keys (set keys i key)
written_key keys i key within = record {
  here = get_or-set_same keys i key None within;
  others = λ j other. get_or-set_other keys i j key None other;
}

module _ {T : Type 0} where
  -- a slot holds what is under its key
  pub held_at : (values : Slab T) (keys : List (Option ℕ)) (i : ℕ) → get_or (values_by values keys) i None ≡ value_under values (key_at keys i)
  held_at values keys i = get_or-map (value_under values) keys i None

  no_key : (values : Slab T) (keys : List (Option ℕ)) (i : ℕ) (key : Option ℕ) → AreKeys values keys → key_at keys i ≡ key → IsFalse (is_some (value_under values key)) → key ≡ None
  no_key values keys i None are e free = refl
  no_key values keys i (Some key) are e free = absurd (let t = are.stored i key e in cc)

  -- a free slot has no key
  pub vacant_key : (values : Slab T) (keys : List (Option ℕ)) (i : ℕ) → AreKeys values keys → IsFalse (is_some (get_or (values_by values keys) i None)) → key_at keys i ≡ None
  vacant_key values keys i are free = no_key values keys i (key_at keys i) are refl (sym (ap is_some (held_at values keys i)) ∙ free)

  -- the key that was found at a slot that isn't free
  pub found_key : (values : Slab T) (keys : List (Option ℕ)) (i : ℕ) (found : Option ℕ) → IsTrue (is_some (get_or (values_by values keys) i None)) → found ≡ get_or keys i found → key_at keys i ≡ found
  found_key values [] i found held at = absurd (not_both held refl)
  found_key values (key ∷ keys) zero found held at = sym at
  found_key values (key ∷ keys) (suc i) found held at = found_key values keys i found held at

  -- copies of values that are the same
  pub same_slots : (slots copies : List (Option T)) → AllZip (IsSlotClone (λ value copy. copy ≡ value)) slots copies → copies ≡ slots
  same_slots [] [] all = refl
  same_slots [] (c ∷ copies) all = absurd all
  same_slots (s ∷ slots) [] all = absurd all
  same_slots (None ∷ slots) (c ∷ copies) all = let rest = same_slots slots copies all.1 in let first = all.0 in cc
  same_slots (Some value ∷ slots) (None ∷ copies) all = absurd all.0
  same_slots (Some value ∷ slots) (Some copy ∷ copies) all = let rest = same_slots slots copies all.1 in let first : copy ≡ value = all.0 in cc

  same_under : (old new : Slab T) → new.slots ≡ old.slots → (key : Option ℕ) → value_under new key ≡ value_under old key
  same_under old new same None = refl
  same_under old new same (Some key) = ap (λ slots. get_or slots key None) same

  pub length_by : (values : Slab T) (keys : List (Option ℕ)) → length (values_by values keys) ≡ length keys
  length_by values keys = length-map keys (value_under values)

  -- what is kept where the values under all keys are the same
  pub same_values : (old new : Slab T) (keys after : List (Option ℕ)) → new.slots ≡ old.slots → after ≡ keys → values_by new after ≡ values_by old keys
  same_values old new [] after same too = ap (λ ks. values_by new ks) too
  same_values old new (key ∷ keys) after same too = ap (λ ks. values_by new ks) too ∙ (let rest : map (value_under new) keys ≡ map (value_under old) keys = same_values old new keys keys same refl in let first = same_under old new same key in cc)

  pub same_keys : (old new : Slab T) (keys after : List (Option ℕ)) → new.slots ≡ old.slots → after ≡ keys → AreKeys old keys → AreKeys new after
  same_keys old new keys after same too are = subst (λ ks. AreKeys new ks) (sym too) (record {
    stored = λ i key e. ap is_some (same_under old new same (Some key)) ∙ are.stored i key e;
    distinct = are.distinct;
    no_others = λ key there. are.no_others key (sym (ap is_some (same_under old new same (Some key))) ∙ there);
  })

-- a value comes to a free slot
module _ {T : Type 0} (old new : Slab T) (keys after : List (Option ℕ)) (i key : ℕ) (value : T)
    (was : get old key ≡ None) (updates : Updates old new key (Some value)) (replaced : IsReplacedKey i (Some key) keys after) (free : key_at keys i ≡ None) (are : AreKeys old keys) where
  other_key : (j k : ℕ) → key_at keys j ≡ Some k → k ≢ key
  other_key j k e same = none_has_none (get old key) (subst (λ n. ContainsKey old n) same (are.stored j k e)) was

  same_value : (j : ℕ) (k : Option ℕ) → key_at keys j ≡ k → value_under new k ≡ value_under old k
  same_value j None e = refl
  same_value j (Some k) e = updates.others k (other_key j k e)

  pub put_here : get_or (values_by new after) i None ≡ Some value
  put_here = held_at new after i ∙ ap (value_under new) replaced.here ∙ updates.changed

  pub put_others : (j : ℕ) → j ≢ i → get_or (values_by new after) j None ≡ get_or (values_by old keys) j None
  put_others j other = held_at new after j ∙ ap (value_under new) (replaced.others j other) ∙ same_value j (key_at keys j) refl ∙ sym (held_at old keys j)

  new_key : (k : ℕ) → key_at after i ≡ Some k → k ≡ key
  new_key k e = same_some (key_at after i) k key e replaced.here

  put_stored : (j k : ℕ) → key_at after j ≡ Some k → ContainsKey new k
  put_stored j k e = elim (cases_eq j i) [
    | inl same ↦ subst (λ n. ContainsKey new n) (sym (new_key k (sym (ap (key_at after) same) ∙ e))) (ap is_some updates.changed)
    | inr other ↦ (let before : key_at keys j ≡ Some k = sym (replaced.others j other) ∙ e in
        ap is_some (updates.others k (other_key j k before)) ∙ are.stored j k before)
  ]

  put_distinct : (j l k : ℕ) → key_at after j ≡ Some k → key_at after l ≡ Some k → j ≡ l
  put_distinct j l k e f = elim (cases_eq j i) [
    | inl same ↦ elim (cases_eq l i) [
      | inl too ↦ same ∙ sym too
      | inr other ↦ absurd (other_key l k (sym (replaced.others l other) ∙ f) (new_key k (sym (ap (key_at after) same) ∙ e)))
    ]
    | inr other ↦ elim (cases_eq l i) [
      | inl same ↦ absurd (other_key j k (sym (replaced.others j other) ∙ e) (new_key k (sym (ap (key_at after) same) ∙ f)))
      | inr too ↦ are.distinct j l k (sym (replaced.others j other) ∙ e) (sym (replaced.others l too) ∙ f)
    ]
  ]

  put_no_others : (k : ℕ) → ContainsKey new k → (j : ℕ) × (key_at after j ≡ Some k)
  put_no_others k has = elim (cases_eq k key) [
    | inl same ↦ (i, replaced.here ∙ ap Some (sym same))
    | inr other ↦ (
        let before = are.no_others k (sym (ap is_some (updates.others k other)) ∙ has) in
        let apart : before.0 ≢ i = λ e. some_not_none (key_at keys i) k (sym (ap (key_at keys) e) ∙ before.1) free in
        (before.0, replaced.others before.0 apart ∙ before.1))
  ]

  pub put_keys : AreKeys new after
  put_keys = record { stored = put_stored; distinct = put_distinct; no_others = put_no_others }

-- a slot is freed
module _ {T : Type 0} (old new : Slab T) (keys after : List (Option ℕ)) (i key : ℕ)
    (has : key_at keys i ≡ Some key) (updates : Updates old new key None) (replaced : IsReplacedKey i None keys after) (are : AreKeys old keys) where
  kept_key : (j k : ℕ) → j ≢ i → key_at keys j ≡ Some k → k ≢ key
  kept_key j k other e same = other (are.distinct j i key (e ∙ ap Some same) has)

  kept_value : (j : ℕ) (k : Option ℕ) → j ≢ i → key_at keys j ≡ k → value_under new k ≡ value_under old k
  kept_value j None other e = refl
  kept_value j (Some k) other e = updates.others k (kept_key j k other e)

  pub freed_here : get_or (values_by new after) i None ≡ None
  freed_here = held_at new after i ∙ ap (value_under new) replaced.here

  pub freed_others : (j : ℕ) → j ≢ i → get_or (values_by new after) j None ≡ get_or (values_by old keys) j None
  freed_others j other = held_at new after j ∙ ap (value_under new) (replaced.others j other) ∙ kept_value j (key_at keys j) other refl ∙ sym (held_at old keys j)

  still_there : (j k : ℕ) → key_at after j ≡ Some k → j ≢ i
  still_there j k e same = some_not_none (key_at after i) k (sym (ap (key_at after) same) ∙ e) replaced.here

  was_there : (j k : ℕ) → key_at after j ≡ Some k → key_at keys j ≡ Some k
  was_there j k e = sym (replaced.others j (still_there j k e)) ∙ e

  freed_no_others : (k : ℕ) → ContainsKey new k → (j : ℕ) × (key_at after j ≡ Some k)
  freed_no_others k there =
      let other : k ≢ key = λ same. none_has_none (get new key) (subst (λ n. ContainsKey new n) same there) updates.changed in
      let before = are.no_others k (sym (ap is_some (updates.others k other)) ∙ there) in
      let apart : before.0 ≢ i = λ e. other (same_some (key_at keys i) k key (sym (ap (key_at keys) e) ∙ before.1) has) in
      (before.0, replaced.others before.0 apart ∙ before.1)

  pub freed_keys : AreKeys new after
  freed_keys = record {
    stored = λ j k e. ap is_some (updates.others k (kept_key j k (still_there j k e) (was_there j k e))) ∙ are.stored j k (was_there j k e);
    distinct = λ j l k e f. are.distinct j l k (was_there j k e) (was_there l k f);
    no_others = freed_no_others;
  }
