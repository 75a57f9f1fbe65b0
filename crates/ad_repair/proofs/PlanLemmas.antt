-- What comes of a plan: the genuine modules of all axioms.
use Rattle.std.proofs.Common.{◌≡◌, ℕ, zero, suc, ◌<◌, ◌≤◌, ◌∷◌, Bool, not, ◌&&◌, List, [], Option, Some, None, length, get_or, IsTrue, IsFalse, inl, inr, refl, sym, ◌∙◌, ap, subst}
use Rattle.std.specs.Prelude.{slice_get}
use Rattle.std.specs.Option.{option_map}
use Rattle.std.specs.List.{AllZip}
use Rattle.std.proofs.lemmas.Bool.{cases_lt}
use Rattle.ad_base.specs.declared.limits.Kind.{Kind}
use Rattle.ad_base.specs.declared.limits.Kind.TheVariants.{Bottom, Top, Star}
use Rattle.ad_base.specs.declared.limits.Side.{Side}
use Rattle.ad_bits.specs.Rows.{has}
use Rattle.ad_theory.specs.declared.task.Task.{Task}
use Rattle.ad_theory.specs.Genuine.{IsGenuine}
use Rattle.ad_theory.specs.Module.{IsAntitone}
use Rattle.ad_theory.specs.Numbers.{among, logic_of, IsNumberedModule}
use Rattle.ad_theory.proofs.Members.{either, not_both, and_left, and_intro, false_not}
use Rattle.ad_tables.specs.Rows.{Tables, of_kind, row_of}
use Rattle.ad_groups.specs.GenuineRows.{IsGenuineRow}
use Rattle.ad_groups.specs.Signatures.{same_members}
use Rattle.ad_groups.proofs.KeyLemmas.{same_among}
use Rattle.ad_decomposition.specs.Affected.{Theory, Change, IsChangeOfSlots, affected, to_find}
use Rattle.ad_decomposition.specs.Tables.{AreGenuine, is_in}
use Rattle.ad_decomposition.proofs.Affected.{unaffected}
use Rattle.ad_repair.specs.Changes.{stays}
use Rattle.ad_repair.specs.Plans.{AreResults, IsFilled, IsPlanFor, IsPlanOf, Planned, first_of, row_where, task_of}
use Rattle.ad_repair.proofs.FillLemmas.{filled_rows, filled_long}
use Rattle.ad_repair.proofs.MarkLemmas.{all_stay}
use Rattle.std.proofs.lemmas.List.{get_or_past}

-- a conjunction whose first part is true and whose second is false
second_false : (a b : Bool) → IsTrue a → IsFalse (a && b) → IsFalse b
second_false a b t f = elim (either b) [ inl h ↦ absurd (not_both (and_intro a b t h) f) | inr n ↦ n ]

-- ---- the plan for a change

module _ (change : Change) (is : IsChangeOfSlots change)
    (before : (side : Side) → IsAntitone (logic_of change.before.symbols (change.before.local side)))
    (after : (side : Side) → IsAntitone (logic_of change.after.symbols (change.after.local side)))
    (below : (k : ℕ) → IsTrue (change.after.live k) → k < change.slots)
    (tables : Tables) (genuine : AreGenuine change.before.symbols change.before.local change.before.live change.slots tables) where
  -- the row of a slot that isn't affected is its genuine module
  kept_row : (kind : Kind) (i : ℕ) → IsTrue (change.after.live i) → IsFalse (affected change tables kind i)
      → (row : List Bool) × (row_of tables kind i ≡ Some row) × IsGenuineRow change.after.symbols change.after.local change.after.live change.slots kind i row
  kept_row kind i live f =
      let added : IsFalse (change.added i) = elim (either (change.added i)) [ inl t ↦ absurd (not_both (rw t refl) f) | inr n ↦ n ] in
      let stay : IsTrue (stays change i) = all_stay change is i live added in
      let r = genuine.rows kind i (and_left (change.before.live i) (not (change.removed i)) stay) in (
        r.0,
        r.1,
        record {
          size = r.2;
          genuine = subst (λ o. IsGenuine kind change.after.symbols change.after.local change.after.live i (is_in o)) r.1 (unaffected change is before after below tables genuine kind i live f);
        },
      )

  pub plan_is : (slots : ℕ) (plan : Planned) → slots ≡ change.slots → ((kind : Kind) → length (of_kind plan.kept kind) ≡ slots)
      → ((kind : Kind) (i : ℕ) → i < slots → row_of plan.kept kind i ≡ row_where (change.after.live i && not (to_find change tables kind i)) (row_of tables kind i))
      → IsPlanOf change.after.symbols (to_find change tables) plan → IsPlanFor change.after slots plan
  plan_is slots plan size long kept of = record {
    long = long;
    below = λ i live. subst (λ n. i < n) (sym size) (below i live);
    sources = λ kind i live. elim (either (to_find change tables kind i)) [
      | inl t ↦ inl (of.of_wanted kind i t)
      | inr f ↦ (
          let r = kept_row kind i live (second_false (change.after.live i) (affected change tables kind i) live f) in
          let here : IsTrue (change.after.live i && not (to_find change tables kind i)) = and_intro (change.after.live i) (not (to_find change tables kind i)) live (false_not (to_find change tables kind i) f) in
          inr (record {
            row = r.0;
            none = of.of_others kind i f;
            kept = kept kind i (subst (λ n. i < n) (sym size) (below i live)) ∙ ap (λ b. row_where b (row_of tables kind i)) here ∙ r.1;
            genuine = subst (λ n. IsGenuineRow change.after.symbols change.after.local change.after.live n kind i r.0) (sym size) r.2;
          }))
    ];
    no_task = λ kind i dead. of.of_others kind i (ap (λ b. b && affected change tables kind i) dead);
    no_row = λ kind i dead. elim (cases_lt i slots) [
      | inl l ↦ kept kind i l ∙ ap (λ b. row_where (b && not (to_find change tables kind i)) (row_of tables kind i)) dead
      | inr g ↦ get_or_past (of_kind plan.kept kind) i None (subst (λ n. n ≤ i) (sym (long kind)) g)
    ];
  }

-- ---- results that are put to the rows that stay

zip_get : {X Y : Type 0} (R : X → Y → Type 0) (xs : List X) (ys : List Y) (i : ℕ) (x : X) (d : Y) → AllZip R xs ys → slice_get xs i ≡ Some x → R x (get_or ys i d)
zip_get R [] ys i x d h e = absurd (let clash : None ≡ Some x = e in cc)
zip_get R (a ∷ xs) [] i x d h e = absurd h
zip_get R (a ∷ xs) (y ∷ ys) zero x d h e = let same : a ≡ x = cc in subst (λ z. R z y) same h.0
zip_get R (a ∷ xs) (y ∷ ys) (suc i) x d h e = zip_get R xs ys i x d h.1 e

module _ (theory : Theory) (slots : ℕ) (plan : Planned) (is : IsPlanFor theory slots plan) (results : List (List Bool)) (are : AreResults theory slots plan.tasks results) where
  -- a genuine row is that of each axiom with the same signature
  same_row : (kind : Kind) (i k : ℕ) (row : List Bool) → IsTrue (same_members (theory.symbols i) (theory.symbols k))
      → IsGenuineRow theory.symbols theory.local theory.live slots kind i row → IsGenuineRow theory.symbols theory.local theory.live slots kind k row
  same_row kind i k row like g =
      let m = g.genuine in
      let seeds : among (theory.symbols i) ≡ among (theory.symbols k) = λ t s. same_among (theory.symbols i) (theory.symbols k) like s t in
      record {
        size = g.size;
        genuine = (m.0, subst (λ seed. IsNumberedModule kind theory.symbols theory.local seed (λ j. IsTrue (theory.live j)) (has row) m.0) seeds m.1);
      }

  abbrev result : ℕ → List Bool
  result t = get_or results t []

  abbrev found : Kind → ℕ → Option (List Bool)
  found kind i = option_map result (task_of plan kind i)

  pub joined : (tables : Tables) → ((kind : Kind) → length (of_kind tables kind) ≡ slots)
      → ((kind : Kind) (i : ℕ) → i < slots → row_of tables kind i ≡ first_of (found kind i) (row_of plan.kept kind i))
      → AreGenuine theory.symbols theory.local theory.live slots tables
  joined tables long rows = record {
    long = long;
    rows = λ kind i live.
        let at = rows kind i (is.below i live) in
        elim (is.sources kind i live) [
          | inl h ↦ (
              let row = result h.number in
              let here : row_of tables kind i ≡ Some row = at ∙ ap (λ o. first_of (option_map result o) (row_of plan.kept kind i)) h.of_slot in
              let g = zip_get (λ (task : Task) r. IsGenuineRow theory.symbols theory.local theory.live slots task.kind task.slot r) plan.tasks results h.number h.task [] are h.there in
              let mine = same_row kind h.task.slot i row h.signature (subst (λ k. IsGenuineRow theory.symbols theory.local theory.live slots k h.task.slot row) h.kind_is g) in
              (row, here, mine.size, mine.genuine))
          | inr h ↦ (
              let here : row_of tables kind i ≡ Some h.row = at ∙ ap (λ o. first_of (option_map result o) (row_of plan.kept kind i)) h.none ∙ h.kept in
              (h.row, here, h.genuine.size, h.genuine.genuine))
        ];
    no_others = λ kind i dead. elim (cases_lt i slots) [
      | inl l ↦ rows kind i l ∙ ap (λ o. first_of (option_map result o) (row_of plan.kept kind i)) (is.no_task kind i dead) ∙ is.no_row kind i dead
      | inr g ↦ get_or_past (of_kind tables kind) i None (subst (λ n. n ≤ i) (sym (long kind)) g)
    ];
  }

  -- what was filled in, kind by kind
  pub joined_filled : (one two end : Tables) (b t s : ℕ → Option (List Bool)) (m n k : ℕ) → IsFilled Bottom b plan.kept one m → IsFilled Top t one two n → IsFilled Star s two end k
      → m ≡ slots → n ≡ slots → k ≡ slots → ((i : ℕ) → b i ≡ found Bottom i) → ((i : ℕ) → t i ≡ found Top i) → ((i : ℕ) → s i ≡ found Star i)
      → AreGenuine theory.symbols theory.local theory.live slots end
  joined_filled one two end b t s m n k bottom top star all_b all_t all_s same_b same_t same_s =
      let filled : (kind : Kind) (f : ℕ → Option (List Bool)) (from to : Tables) (z : ℕ) → IsFilled kind f from to z → z ≡ slots → ((i : ℕ) → f i ≡ found kind i) → IsFilled kind (found kind) from to slots =
      (λ kind f from to z h e same. subst (λ g. IsFilled kind g from to slots) (λ j i. same i j) (subst (IsFilled kind f from to) e h)) in
      let b' = filled Bottom b plan.kept one m bottom all_b same_b in
      let t' = filled Top t one two n top all_t same_t in
      let s' = filled Star s two end k star all_s same_s in
      joined end (λ kind. filled_long found plan.kept one two end slots b' t' s' kind ∙ is.long kind) (filled_rows found plan.kept one two end slots b' t' s')
