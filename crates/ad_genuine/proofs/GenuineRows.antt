-- Slots with the rows of their groups have their genuine modules.
use Rattle.std.proofs.Common.{◌≡◌, ℕ, ◌<◌, Bool, List, [], Option, Some, None, length, get_or, IsTrue, inl, inr, sym, subst, ap, ◌∙◌, arith}
use Rattle.std.specs.Option.{option_map}
use Rattle.ad_base.specs.declared.limits.Kind.{Kind}
use Rattle.ad_base.specs.declared.limits.Side.{Side}
use Rattle.ad_bits.specs.Rows.{has}
use Rattle.ad_theory.specs.Genuine.{IsGenuine}
use Rattle.ad_theory.specs.Numbers.{among, IsNumberedModule}
use Rattle.ad_tables.specs.Rows.{Tables, of_kind, row_of}
use Rattle.ad_theory.proofs.Members.{either}
use Rattle.ad_decomposition.specs.Tables.{AreGenuine}
use Rattle.ad_genuine.specs.declared.found.Found.{Found}
use Rattle.ad_genuine.specs.Found.{AreFound, rows_of_kind}
use Rattle.ad_groups.specs.GenuineRows.{IsGenuineRow}
use Rattle.ad_groups.specs.Groups.{AreGroups}
use Rattle.ad_groups.specs.Signatures.{same_members}
use Rattle.ad_joined.proofs.CommonLemmas.{zip_at, zip_long}
use Rattle.ad_groups.proofs.KeyLemmas.{same_among}

-- the groups of the slots in a row whose members are the live slots
pub live_groups : {symbols : ℕ → List ℕ} {row live : ℕ → Bool} {n : ℕ} {groups : List (Option ℕ)} {firsts : List ℕ} → ((i : ℕ) → row i ≡ live i)
    → AreGroups symbols row n groups firsts → AreGroups symbols live n groups firsts
live_groups {symbols} {n = n} {groups = groups} {firsts = firsts} same are = subst (λ wanted. AreGroups symbols wanted n groups firsts) (λ j i. same i j) are

module _ (symbols : ℕ → List ℕ) (local : Side → (ℕ → Bool) → ℕ → Bool) (live : ℕ → Bool) (slots : ℕ) where
  -- a genuine module is that of each axiom with the same signature
  genuine_same : (kind : Kind) (i k : ℕ) (M : ℕ → Bool) → IsTrue (same_members (symbols i) (symbols k)) → IsGenuine kind symbols local live i M → IsGenuine kind symbols local live k M
  genuine_same kind i k M like m =
      let seeds : among (symbols i) ≡ among (symbols k) = λ t s. same_among (symbols i) (symbols k) like s t in
      (m.0, subst (λ seed. IsNumberedModule kind symbols local seed (λ j. IsTrue (live j)) M m.0) seeds m.1)

  module _ (groups : List (Option ℕ)) (firsts : List ℕ) (found : Found) (are : AreGroups symbols live slots groups firsts) (rows : AreFound symbols local live slots firsts found)
      (below : (i : ℕ) → IsTrue (live i) → i < slots) where
    -- each group has a row
    pub group_below : (kind : Kind) (i g : ℕ) → get_or groups i None ≡ Some g → g < length (rows_of_kind found kind)
    group_below kind i g e = elim (either (live i)) [
      | inl t ↦ (
          let r = are.of_wanted i (below i t) t in
          let both : Some r.0 ≡ Some g = sym r.1 ∙ e in
          let same : r.0 ≡ g = cc in
          omega (arith, r.2, same, zip_long (IsGenuineRow symbols local live slots kind) firsts (rows_of_kind found kind) (rows.rows kind)))
      | inr f ↦ (let clash : None ≡ Some g = sym (are.of_others i f) ∙ e in cc)
    ]

    pub tables_genuine : (tables : Tables) → ((kind : Kind) → length (of_kind tables kind) ≡ slots) → ((kind : Kind) (i : ℕ) → row_of tables kind i ≡ option_map (λ g. get_or (rows_of_kind found kind) g []) (get_or groups i None)) → AreGenuine symbols local live slots tables
    tables_genuine tables long are_rows = record {
      long = long;
      rows = λ kind i t.
          let r = are.of_wanted i (below i t) t in
          let row = get_or (rows_of_kind found kind) r.0 [] in
          let at = zip_at (IsGenuineRow symbols local live slots kind) firsts (rows_of_kind found kind) r.0 0 [] (rows.rows kind) r.2 in
          (row, are_rows kind i ∙ ap (option_map (λ g. get_or (rows_of_kind found kind) g [])) r.1, at.size, genuine_same kind (get_or firsts r.0 0) i (has row) r.3 at.genuine);
      no_others = λ kind i f. are_rows kind i ∙ ap (option_map (λ g. get_or (rows_of_kind found kind) g [])) (are.of_others i f);
    }
