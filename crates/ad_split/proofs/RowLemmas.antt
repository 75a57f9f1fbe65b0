-- The rows of a part: how many members it has, and the numbers of its entities.
use Rattle.std.proofs.Common.{◌≡◌, ◌≢◌, ◌==◌, ℕ, ◌≤◌, Bool, false, ◌&&◌, List, [], ◌∷◌, None, Some, length, set, IsTrue, IsFalse, nat_eq, inl, inr, sym, ◌∙◌, ap, subst, arith, eqb-true, eq-eqb}
use Rattle.std.specs.Cmp.{both_ways}
use Rattle.std.specs.List.{IsDistinct, filter}
use Rattle.std.proofs.lemmas.Bool.{cases_eq}
use Rattle.std.proofs.lemmas.List.{get_or-set_other, get_or-set_same}
use Rattle.std.proofs.lemmas.Map.Keys.{IsDistinct-head, IsDistinct-tail}
use Rattle.ad_base.specs.declared.limits.Kind.{Kind}
use Rattle.ad_base.specs.declared.limits.Kind.TheVariants.{Bottom, Top, Star}
use Rattle.ad_base.specs.declared.limits.Side.{Side}
use Rattle.ad_bits.specs.Rows.{has, member_count}
use Rattle.ad_bits.proofs.Rows.{member_count-subset, member_count-unset, within_size}
use Rattle.ad_decomposition.specs.Tables.{is_in, is_in_row_of}
use Rattle.ad_edition.specs.Edition.{Whole, IsEdition}
use Rattle.ad_numbered.specs.Numbered.{InSlots, IsNumbered, order_of}
use Rattle.ad_slots.specs.Places.{is_held, held_symbols, is_held_local}
use Rattle.ad_tables.specs.Rows.{Tables, row_of}
use Rattle.ad_theory.specs.Genuine.{IsGenuine}
use Rattle.ad_theory.specs.Numbers.{among}
use Rattle.ad_theory.proofs.Members.{Has, and_intro, and_left, and_right, any_of_has, either, filter_same, has_of_any, not_both}
use Rattle.ad_split.specs.Closure.{IsClosureOf}
use Rattle.ad_split.specs.Parts.{part_with}
use Rattle.ad_split.specs.Slots.{closure_of, document_by, slot_text}
use Rattle.ad_split.proofs.CoverLemmas.{none_same}

-- the members of a row are counted along a list of distinct numbers that has them all
pub counted : (order : List ℕ) (row : List Bool) → IsDistinct nat_eq order → ((i : ℕ) → IsTrue (has row i) → Has order i) → length (filter (has row) order) ≡ member_count row
counted [] row distinct all = let none : member_count row ≤ member_count [] = member_count-subset row [] (λ i t. absurd (all i t)) in omega arith
counted (s ∷ order) row distinct all = elim (either (has row s)) [
  | inl t ↦ (
      let after : List Bool = set row s false in
      let gone : IsFalse (has after s) = get_or-set_same row s false false (within_size row s t) in
      let others : (i : ℕ) → i ≢ s → has after i ≡ has row i = λ i other. get_or-set_other row s i false false other in
      let apart : (i : ℕ) → Has order i → i ≢ s =
      λ i h same. none_same nat_eq s order i (IsDistinct-head nat_eq s order distinct) h (eq-eqb s i (sym same)) in
      let rest : length (filter (has after) order) ≡ member_count after =
      counted order after (IsDistinct-tail nat_eq s order distinct)
      (λ i u. elim (cases_eq i s) [
        | inl e ↦ absurd (not_both u (subst (λ k. IsFalse (has after k)) (sym e) gone))
        | inr other ↦ elim (all i (sym (others i other) ∙ u)) [ inl e ↦ absurd (other e) | inr h ↦ h ]
      ]) in
      let same : filter (has row) order ≡ filter (has after) order =
      filter_same (has row) (has after) order (λ i h u. others i (apart i h) ∙ u) (λ i h u. sym (others i (apart i h)) ∙ u) in
      let fewer = member_count-unset row s t in
      rw t (omega (arith, ap length same, rest, fewer)))
  | inr f ↦ (
      rw f (counted order row (IsDistinct-tail nat_eq s order distinct)
      (λ i u. elim (all i u) [ inl e ↦ absurd (not_both u (subst (λ k. IsFalse (has row k)) (sym e) f)) | inr h ↦ h ])))
]

-- the genuine module of a slot has live slots
row_live : (kind : Kind) (symbols : ℕ → List ℕ) (local : Side → (ℕ → Bool) → ℕ → Bool) (live : ℕ → Bool) (i : ℕ) (M : ℕ → Bool) → IsGenuine kind symbols local live i M
    → (k : ℕ) → IsTrue (M k) → IsTrue (live k)
row_live Bottom symbols local live i M g k t = g.1.within k t
row_live Top symbols local live i M g k t = g.1.within k t
row_live Star symbols local live i M g k t = g.1.0.within k t

among_has : (numbers : List ℕ) (n : ℕ) → IsTrue (among numbers n) → Has numbers n
among_has numbers n t = let r = has_of_any (λ x. x == n) numbers t in subst (λ k. Has numbers k) (eqb-true r.0 n r.2) r.1

closure_is : (symbols : ℕ → List ℕ) (order : List ℕ) (row closure : List Bool) → IsClosureOf symbols (has row) (has closure) → ((i : ℕ) → IsTrue (has row i) → Has order i)
    → (n : ℕ) → has closure n ≡ closure_of symbols order (has row) n
closure_is symbols order row closure is all n = both_ways (has closure n) (closure_of symbols order (has row) n)
    (λ t. let r = (is n).0 t in any_of_has (λ i. has row i && among (symbols i) n) order r.0 (all r.0 r.1) (and_intro (has row r.0) (among (symbols r.0) n) r.1 r.2))
    (λ t. let r = has_of_any (λ i. has row i && among (symbols i) n) order t in
    (is n).1 (r.0, and_left (has row r.0) (among (symbols r.0) n) r.2, and_right (has row r.0) (among (symbols r.0) n) r.2))

-- the text of a part by its rows
pub text_of_row : (ontology : InSlots) (tables : Tables) (kind : Kind) (number slot : ℕ) (row closure : List Bool) → IsNumbered ontology → row_of tables kind slot ≡ Some row
    → ((i : ℕ) → IsTrue (has row i) → IsTrue (is_held ontology.held i)) → IsClosureOf (held_symbols ontology.held) (has row) (has closure)
    → slot_text ontology (is_in_row_of tables kind) (number, slot) ≡ part_with number (member_count row) (document_by ontology (has row) (has closure))
text_of_row ontology tables kind number slot row closure is at live closed =
    let order = order_of ontology in
    let symbols = held_symbols ontology.held in
    let all : (i : ℕ) → IsTrue (has row i) → Has order i = λ i t. among_has order i (is.placed.live i (live i t)) in
    let row_is : is_in_row_of tables kind slot ≡ has row = ap is_in at in
    let closure_same : has closure ≡ closure_of symbols order (has row) = λ i. λ n. closure_is symbols order row closure closed all n i in
    ap (λ members. part_with number (length (filter members order)) (document_by ontology members (closure_of symbols order members))) row_is
    ∙ ap (λ count. part_with number count (document_by ontology (has row) (closure_of symbols order (has row)))) (counted order row is.apart all)
    ∙ ap (λ numbers. part_with number (member_count row) (document_by ontology (has row) numbers)) (sym closure_same)

module _ (edition : Whole) (is : IsEdition edition) (kind : Kind) (slot : ℕ) (live : IsTrue (is_held edition.numbered.held slot)) where
  -- a live slot has a row
  pub has_row : row_of edition.found.tables kind slot ≡ None → ⊥
  has_row none = let r = is.decomposed.genuine.rows kind slot live in let e : None ≡ Some r.0 = sym none ∙ r.1 in cc

  module _ (row : List Bool) (at : row_of edition.found.tables kind slot ≡ Some row) where
    -- the row is over all slots
    pub row_long : length row ≡ edition.numbered.most
    row_long =
        let r = is.decomposed.genuine.rows kind slot live in
        let same : r.0 ≡ row = (let e : Some r.0 ≡ Some row = sym r.1 ∙ at in cc) in
        subst (λ l. length l ≡ edition.numbered.most) same r.2

    -- it has live slots
    pub row_of_live : (i : ℕ) → IsTrue (has row i) → IsTrue (is_held edition.numbered.held i)
    row_of_live i t =
        let r = is.decomposed.genuine.rows kind slot live in
        let same : r.0 ≡ row = (let e : Some r.0 ≡ Some row = sym r.1 ∙ at in cc) in
        row_live kind (held_symbols edition.numbered.held) (is_held_local edition.numbered.held) (is_held edition.numbered.held) slot (has r.0) r.3 i (subst (λ l. IsTrue (has l i)) (sym same) t)
