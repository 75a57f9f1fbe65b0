-- Tables of genuine modules: each live axiom has its row, and no other table has them.
use Rattle.std.proofs.Common.{◌≡◌, ◌↔◌, ℕ, ◌<◌, Bool, List, Option, Some, None, length, IsTrue, inl, inr, sym, ◌∙◌, ap, arith}
use Rattle.std.specs.Cmp.{both_ways}
use Rattle.std.specs.List.{Contains}
use Rattle.std.proofs.lemmas.Bool.{cases_lt}
use Rattle.std.proofs.lemmas.List.{same_lists, get_or_default, get_or_past}
use Rattle.ad_base.specs.declared.limits.Kind.{Kind}
use Rattle.ad_base.specs.declared.limits.Kind.TheVariants.{Bottom, Top, Star}
use Rattle.ad_base.specs.declared.limits.Side.{Side}
use Rattle.ad_base.specs.declared.limits.Side.TheVariants as sides
use Rattle.ad_bits.specs.Rows.{has}
use Rattle.ad_bits.proofs.Rows.{same_rows}
use Rattle.ad_tables.specs.Rows.{Tables, of_kind, row_of}
use Rattle.ad_theory.specs.Numbers.{among, logic_of, IsNumberedModule}
use Rattle.ad_theory.proofs.KindLemmas.{kind_one}
use Rattle.ad_theory.proofs.Members.{either}
use Rattle.ad_decomposition.specs.Tables.{AreGenuine, HaveRows}

abbrev table : List (Option (List Bool)) → List (Option (List Bool)) → List (Option (List Bool)) → Tables
table bottom top star = record { bottom = bottom; top = top; star = star }

module _ (symbols : ℕ → List ℕ) (local : Side → (ℕ → Bool) → ℕ → Bool) (live : ℕ → Bool) (slots : ℕ) (one : Tables) (genuine : AreGenuine symbols local live slots one) where
  -- a slot with a row is one of the table's
  with_row : (kind : Kind) (i : ℕ) (row : List Bool) → row_of one kind i ≡ Some row → i < length (of_kind one kind)
  with_row kind i row is = elim (cases_lt i (length (of_kind one kind))) [
    | inl l ↦ l
    | inr n ↦ (let clash : Some row ≡ None = sym is ∙ get_or_past (of_kind one kind) i None n in cc)
  ]

  pub have_rows : (kind : Kind) (order : List ℕ) → ((i : ℕ) → Contains order i ↔ IsTrue (live i)) → HaveRows one kind (length (of_kind one kind)) order
  have_rows kind order all = record {
    below = λ i o. let r = genuine.rows kind i ((all i).0 o) in with_row kind i r.0 r.1;
    rows = λ i o. let r = genuine.rows kind i ((all i).0 o) in (r.0, r.1, r.2 ∙ sym (genuine.long kind));
  }

  module _ (other : Tables) (genuine' : AreGenuine symbols local live slots other) where
    one_kind : (kind : Kind) (i : ℕ) (M N S R : ℕ → Bool) → IsNumberedModule kind symbols local (among (symbols i)) (λ k. IsTrue (live k)) M S → IsNumberedModule kind symbols local (among (symbols i)) (λ k. IsTrue (live k)) N R → (k : ℕ) → IsTrue (M k) → IsTrue (N k)
    one_kind kind i = kind_one (logic_of symbols (local sides.Bottom)) (logic_of symbols (local sides.Top)) (among (symbols i)) (λ k. IsTrue (live k)) kind

    same_row : (kind : Kind) (i : ℕ) → row_of one kind i ≡ row_of other kind i
    same_row kind i = elim (either (live i)) [
      | inl t ↦ (
          let r = genuine.rows kind i t in
          let q = genuine'.rows kind i t in
          let same : r.0 ≡ q.0 = same_rows r.0 q.0 (r.2 ∙ sym q.2) (λ k. both_ways (has r.0 k) (has q.0 k)
          (one_kind kind i (has r.0) (has q.0) r.3.0 q.3.0 r.3.1 q.3.1 k)
          (one_kind kind i (has q.0) (has r.0) q.3.0 r.3.0 q.3.1 r.3.1 k)) in
          r.1 ∙ ap Some same ∙ sym q.1
          )
      | inr f ↦ genuine.no_others kind i f ∙ sym (genuine'.no_others kind i f)
    ]

    same_kind : (kind : Kind) → of_kind one kind ≡ of_kind other kind
    same_kind kind =
        let long : length (of_kind one kind) ≡ length (of_kind other kind) = genuine.long kind ∙ sym (genuine'.long kind) in
        same_lists (of_kind one kind) (of_kind other kind) long (λ k d l.
        get_or_default (of_kind one kind) k d None l ∙ same_row kind k ∙ get_or_default (of_kind other kind) k None d (omega arith))

    pub one_table : one ≡ other
    one_table =
        ap (λ b. table b one.top one.star) (same_kind Bottom)
        ∙ ap (λ t. table other.bottom t one.star) (same_kind Top)
        ∙ ap (λ s. table other.bottom other.top s) (same_kind Star)
