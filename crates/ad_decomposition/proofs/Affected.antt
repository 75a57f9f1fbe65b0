-- What a change leaves unaffected: its genuine modules stay as their rows were.
use Rattle.std.proofs.Common.{◌≡◌, ℕ, ◌<◌, Bool, ◌&&◌, ◌||◌, ◌⊎◌, not, length, IsTrue, IsFalse, inl, inr, sym, ◌∙◌, ap, subst, arith}
use Rattle.std.specs.List.{range_with_len}
use Rattle.std.proofs.lemmas.List.Folds.{list_any_at}
use Rattle.std.proofs.lemmas.List.FromFn.{length-range_with_len, get_or-range_with_len}
use Rattle.ad_base.specs.declared.limits.Kind.{Kind}
use Rattle.ad_base.specs.declared.limits.Kind.TheVariants.{Bottom, Top, Star}
use Rattle.ad_base.specs.declared.limits.Side.{Side}
use Rattle.ad_base.specs.declared.limits.Side.TheVariants as sides
use Rattle.ad_bits.proofs.Rows.{within_size}
use Rattle.ad_tables.specs.Rows.{Tables}
use Rattle.ad_theory.specs.Change.{IsChange, IsNewLocal, IsNewLocalForRest}
use Rattle.ad_theory.specs.Genuine.{IsGenuine}
use Rattle.ad_theory.specs.Module.{Logic, IsAntitone, IsModule, IsClosure, IsStar}
use Rattle.ad_theory.specs.Numbers.{among, logic_of}
use Rattle.ad_theory.proofs.ChangeLemmas.{side_kept, star_kept}
use Rattle.ad_theory.proofs.Members.{either, not_both, or_left, or_right, or_cases, and_intro, and_left, and_right, false_not, has_of_any}
use Rattle.ad_decomposition.specs.Affected.{Change, IsChangeOfSlots, some_slot, meets_removed, rest_symbols, has_foreign, has_foreign_of, affected}
use Rattle.ad_decomposition.specs.Tables.{AreGenuine, is_in, is_in_row_of}

-- where a disjunction is false, both parts are
or_false_left : (a b : Bool) → IsFalse (a || b) → IsFalse a
or_false_left a b f = elim (either a) [ inl t ↦ absurd (not_both (or_left a b t) f) | inr n ↦ n ]

or_false_right : (a b : Bool) → IsFalse (a || b) → IsFalse b
or_false_right a b f = elim (either b) [ inl t ↦ absurd (not_both (or_right a b t) f) | inr n ↦ n ]

-- where a conjunction is false, and its first part is not, the second is
and_false_right : (a b : Bool) → IsTrue a → IsFalse (a && b) → IsFalse b
and_false_right a b t f = elim (either b) [ inl h ↦ absurd (not_both (and_intro a b t h) f) | inr n ↦ n ]

-- where a conjunction is false, one of its parts is
and_false_cases : (a b : Bool) → IsFalse (a && b) → IsFalse a ⊎ IsFalse b
and_false_cases a b f = elim (either a) [ inl t ↦ inr (and_false_right a b t f) | inr n ↦ inl n ]

-- what is not false is true
not_false_true : (b : Bool) → IsFalse (not b) → IsTrue b
not_false_true b f = elim (either b) [ inl t ↦ t | inr n ↦ absurd (not_both (false_not b n) f) ]

module _ (change : Change) where
  -- a slot below the number of slots that passes a test
  slot_passes : (test : ℕ → Bool) (k : ℕ) → k < change.slots → IsTrue (test k) → IsTrue (some_slot change test)
  slot_passes test k l t =
      let long : length (range_with_len 0 change.slots) ≡ change.slots = length-range_with_len 0 change.slots in
      list_any_at test (range_with_len 0 change.slots) k k (subst (λ n. k < n) (sym long) l) (ap test (get_or-range_with_len 0 change.slots k k l ∙ omega arith) ∙ t)

  -- where none passes, that one does not
  slot_fails : (test : ℕ → Bool) (k : ℕ) → k < change.slots → IsFalse (some_slot change test) → IsFalse (test k)
  slot_fails test k l f = elim (either (test k)) [ inl t ↦ absurd (not_both (slot_passes test k l t) f) | inr n ↦ n ]

  -- none of M was removed
  none_removed : (M : ℕ → Bool) (k : ℕ) → k < change.slots → IsFalse (meets_removed change M) → IsTrue (M k) → IsFalse (change.removed k)
  none_removed M k l f t = and_false_right (M k) (change.removed k) t (slot_fails (λ j. M j && change.removed j) k l f)

  module _ (is : IsChangeOfSlots change) where
    -- an axiom after that was not added stayed
    stayed : (k : ℕ) → IsTrue (change.after.live k) → IsFalse (change.added k) → IsTrue (change.before.live k) × IsFalse (change.removed k)
    stayed k t f = elim (either (change.removed k)) [
      | inl r ↦ absurd (not_both t (is.gone k r f))
      | inr n ↦ (is.others k n f ∙ t, n)
    ]

    -- an axiom before that was not removed stays
    stays : (k : ℕ) → IsTrue (change.before.live k) → IsFalse (change.removed k) → IsTrue (change.after.live k)
    stays k t n = elim (either (change.added k)) [
      | inl a ↦ is.added_is_live k a
      | inr f ↦ sym (is.others k n f) ∙ t
    ]

    -- the change on one side
    abbrev old : Side → Logic ℕ ℕ
    old side = logic_of change.before.symbols (change.before.local side)

    abbrev new : Side → Logic ℕ ℕ
    new side = logic_of change.after.symbols (change.after.local side)

    change_of : (side : Side) → IsChange (old side) (new side) (λ k. IsTrue (change.before.live k)) (λ k. IsTrue (change.after.live k)) change.removed change.added
    change_of side = record {
      stays = stays;
      stayed = stayed;
      sigs = λ k s t f. is.signatures k s t f;
      locals = λ k seen t f. is.localities side seen k t f;
    }

    -- the symbols of what stays of M are its closure
    abbrev in_rest : (ℕ → Bool) → ℕ → Bool
    in_rest M k = M k && not (change.removed k)

    abbrev seed : ℕ → ℕ → Bool
    seed i = among (change.before.symbols i)

    abbrev stands_in_rest : (ℕ → Bool) → ℕ → ℕ → Bool
    stands_in_rest M s k = in_rest M k && among (change.before.symbols k) s

    rest_closure : (side : Side) (i : ℕ) (M : ℕ → Bool) → ((k : ℕ) → IsTrue (M k) → k < change.slots) → IsClosure (old side) (seed i) (in_rest M) (rest_symbols change i M)
    rest_closure side i M small s = (
      λ h. elim (or_cases (seed i s) (some_slot change (stands_in_rest M s)) h) [
        | inl t ↦ inl t
        | inr t ↦ (let r = has_of_any (stands_in_rest M s) (range_with_len 0 change.slots) t in
            inr (r.0, and_left (in_rest M r.0) (among (change.before.symbols r.0) s) r.2, and_right (in_rest M r.0) (among (change.before.symbols r.0) s) r.2))
      ],
      λ h. elim h [
        | inl t ↦ or_left (seed i s) (some_slot change (stands_in_rest M s)) t
        | inr r ↦ or_right (seed i s) (some_slot change (stands_in_rest M s))
            (slot_passes (stands_in_rest M s) r.0 (small r.0 (and_left (M r.0) (not (change.removed r.0)) r.1)) (and_intro (in_rest M r.0) (among (change.before.symbols r.0) s) r.1 r.2))
      ],
    )

    -- an axiom that stays has the same symbols after
    same_symbols : (k : ℕ) → IsTrue (change.before.live k) → IsFalse (change.removed k) → seed k ≡ among (change.after.symbols k)
    same_symbols k t f = λ j s. is.signatures k s t f j

    module _ (before : (side : Side) → IsAntitone (old side)) (after : (side : Side) → IsAntitone (new side)) (below : (k : ℕ) → IsTrue (change.after.live k) → k < change.slots) where
      -- where none is foreign, each added axiom is local for the symbols of the rest
      none_foreign : (side : Side) (i : ℕ) (M : ℕ → Bool) → IsFalse (has_foreign change side i M) → IsNewLocal (new side) (λ k. IsTrue (change.after.live k)) change.added (rest_symbols change i M)
      none_foreign side i M f k o a =
          let is_local : Bool = change.after.local side (rest_symbols change i M) k in
          not_false_true is_local (and_false_right (change.added k) (not is_local) a (slot_fails (λ j. change.added j && not (change.after.local side (rest_symbols change i M) j)) k (below k o) f))

      -- the module of one side
      side_stays : (side : Side) (i : ℕ) (M S : ℕ → Bool) → ((k : ℕ) → IsTrue (M k) → k < change.slots) → IsTrue (change.before.live i) → IsFalse (change.removed i)
          → IsModule (old side) (seed i) (λ k. IsTrue (change.before.live k)) M S → IsFalse (meets_removed change M) → IsFalse (has_foreign change side i M)
          → IsModule (new side) (among (change.after.symbols i)) (λ k. IsTrue (change.after.live k)) M S
      side_stays side i M S small t n m met foreign =
          let none_left : (k : ℕ) → IsTrue (M k) → IsFalse (change.removed k) = (λ k h. none_removed M k (small k h) met h) in
          let stands : (s : ℕ) → IsTrue (S s) → IsTrue (rest_symbols change i M s) = (λ s h. (rest_closure side i M small s).1 (elim (m.only s h) [
            | inl p ↦ inl p
            | inr r ↦ inr (r.0, and_intro (M r.0) (not (change.removed r.0)) r.1 (false_not (change.removed r.0) (none_left r.0 r.1)), r.2)
          ])) in
          subst (λ f. IsModule (new side) f (λ k. IsTrue (change.after.live k)) M S) (same_symbols i t n) (side_kept {L = old side} {L' = new side} (before side) (change_of side) m (record {
            none_left = none_left;
            new_local = λ k o a. (after side).shrinks S (rest_symbols change i M) k (λ s _ h. stands s h) (none_foreign side i M foreign k o a);
          }))

      -- on one side nothing is foreign to what stays of its module
      rest_local : (side : Side) (i : ℕ) (M : ℕ → Bool) → ((k : ℕ) → IsTrue (M k) → k < change.slots) → IsFalse (has_foreign change side i M)
          → IsNewLocalForRest (old side) (new side) (λ k. IsTrue (change.after.live k)) change.removed change.added (seed i) M
      rest_local side i M small foreign = (rest_symbols change i M, rest_closure side i M small, none_foreign side i M foreign)

      -- the closure of the star module
      closure_stays : (i : ℕ) (M S : ℕ → Bool) → IsTrue (change.before.live i) → IsFalse (change.removed i) → ((k : ℕ) → IsTrue (M k) → IsTrue (change.before.live k)) → ((k : ℕ) → IsTrue (M k) → IsFalse (change.removed k))
          → IsClosure (old sides.Bottom) (seed i) M S → IsClosure (new sides.Bottom) (among (change.after.symbols i)) M S
      closure_stays i M S t n within none_left c s =
          let same : (k : ℕ) → IsTrue (change.before.live k) → IsFalse (change.removed k) → seed k s ≡ among (change.after.symbols k) s = (λ k t f. is.signatures k s t f) in (
            λ h. elim ((c s).0 h) [ inl p ↦ inl (sym (same i t n) ∙ p) | inr r ↦ inr (r.0, r.1, sym (same r.0 (within r.0 r.1) (none_left r.0 r.1)) ∙ r.2) ],
            λ h. (c s).1 (elim h [ inl p ↦ inl (same i t n ∙ p) | inr r ↦ inr (r.0, r.1, same r.0 (within r.0 r.1) (none_left r.0 r.1) ∙ r.2) ]),
          )

      module _ (tables : Tables) (genuine : AreGenuine change.before.symbols change.before.local change.before.live change.slots tables) where
        abbrev row : Kind → ℕ → ℕ → Bool
        row = is_in_row_of tables

        row_genuine : (kind : Kind) (i : ℕ) → IsTrue (change.before.live i) → IsGenuine kind change.before.symbols change.before.local change.before.live i (row kind i)
        row_genuine kind i t =
            let r = genuine.rows kind i t in
            subst (λ o. IsGenuine kind change.before.symbols change.before.local change.before.live i (is_in o)) (sym r.1) r.3

        row_below : (kind : Kind) (i : ℕ) → IsTrue (change.before.live i) → (k : ℕ) → IsTrue (row kind i k) → k < change.slots
        row_below kind i t k h =
            let r = genuine.rows kind i t in
            subst (λ n. k < n) r.2 (within_size r.0 k (ap (λ o. is_in o k) (sym r.1) ∙ h))

        -- the row of an axiom that stayed and has neither a removed axiom nor a foreign one
        stays_genuine : (kind : Kind) (i : ℕ) → IsTrue (change.before.live i) → IsFalse (change.removed i) → IsFalse (meets_removed change (row kind i)) → IsFalse (has_foreign_of change tables kind i)
            → IsGenuine kind change.after.symbols change.after.local change.after.live i (row kind i)
        stays_genuine Bottom i t n met foreign =
            let m = row_genuine Bottom i t in
            (m.0, side_stays sides.Bottom i (row Bottom i) m.0 (row_below Bottom i t) t n m.1 met foreign)
        stays_genuine Top i t n met foreign =
            let m = row_genuine Top i t in
            (m.0, side_stays sides.Top i (row Top i) m.0 (row_below Top i t) t n m.1 met foreign)
        stays_genuine Star i t n met foreign =
            let m = row_genuine Star i t in
            let x = row_genuine Bottom i t in
            let y = row_genuine Top i t in
            let none_left : (k : ℕ) → IsTrue (row Star i k) → IsFalse (change.removed k) = (λ k h. none_removed (row Star i) k (row_below Star i t k h) met h) in
            let star : IsStar (new sides.Bottom) (new sides.Top) (seed i) (λ k. IsTrue (change.after.live k)) (row Star i) =
            star_kept {B = old sides.Bottom} {B' = new sides.Bottom} {T = old sides.Top} {T' = new sides.Top} (seed i) (before sides.Bottom) (before sides.Top) (after sides.Bottom) (after sides.Top)
            (change_of sides.Bottom) (change_of sides.Top) m.1.0 x.1 y.1 (record {
              none_left = none_left;
              side = elim (and_false_cases (has_foreign change sides.Bottom i (row Bottom i)) (has_foreign change sides.Top i (row Top i)) foreign) [
                | inl f ↦ inl (rest_local sides.Bottom i (row Bottom i) (row_below Bottom i t) f)
                | inr f ↦ inr (rest_local sides.Top i (row Top i) (row_below Top i t) f)
              ];
            }) in
            (m.0, (subst (λ f. IsStar (new sides.Bottom) (new sides.Top) f (λ k. IsTrue (change.after.live k)) (row Star i)) (same_symbols i t n) star, closure_stays i (row Star i) m.0 t n m.1.0.within none_left m.1.1))

        pub unaffected : (kind : Kind) (i : ℕ) → IsTrue (change.after.live i) → IsFalse (affected change tables kind i)
            → IsGenuine kind change.after.symbols change.after.local change.after.live i (row kind i)
        unaffected kind i live f =
            let met : Bool = meets_removed change (row kind i) in
            let foreign : Bool = has_foreign_of change tables kind i in
            let was = stayed i live (or_false_left (change.added i) (met || foreign) f) in
            let rest : IsFalse (met || foreign) = or_false_right (change.added i) (met || foreign) f in
            stays_genuine kind i was.0 was.1 (or_false_left met foreign rest) (or_false_right met foreign rest)
