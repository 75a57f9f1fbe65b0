-- Tables in which slots got rows of a kind.
use Rattle.std.proofs.Common.{◌≡◌, ◌≢◌, ℕ, ◌+◌, ◌<◌, ◌≤◌, Bool, List, Option, Some, None, length, get_or, replicate, refl, inl, inr, sym, ◌∙◌, ap, subst, arith}
use Rattle.std.proofs.lemmas.Bool.{cases_lt}
use Rattle.std.proofs.lemmas.List.{get_or-set_same, get_or-set_other, length-set, length-replicate, get_or-replicate, get_or_past}
use Rattle.ad_base.specs.declared.limits.Kind.{Kind}
use Rattle.ad_base.specs.declared.limits.Kind.TheVariants.{Bottom, Top, Star}
use Rattle.ad_tables.specs.Rows.{Tables, of_kind, row_of, with_row, without_rows}
use Rattle.ad_repair.specs.Plans.{IsFilled, first_of}
use Rattle.ad_repair.proofs.ListLemmas.{below_or_last}

pub with_row_here : (tables : Tables) (kind : Kind) (slot : ℕ) (row : List Bool) → slot < length (of_kind tables kind) → row_of (with_row tables kind slot row) kind slot ≡ Some row
with_row_here tables Bottom slot row l = get_or-set_same tables.bottom slot (Some row) None l
with_row_here tables Top slot row l = get_or-set_same tables.top slot (Some row) None l
with_row_here tables Star slot row l = get_or-set_same tables.star slot (Some row) None l

pub with_row_others : (tables : Tables) (kind : Kind) (slot : ℕ) (row : List Bool) (i : ℕ) → i ≢ slot → row_of (with_row tables kind slot row) kind i ≡ row_of tables kind i
with_row_others tables Bottom slot row i d = get_or-set_other tables.bottom slot i (Some row) None d
with_row_others tables Top slot row i d = get_or-set_other tables.top slot i (Some row) None d
with_row_others tables Star slot row i d = get_or-set_other tables.star slot i (Some row) None d

pub with_row_kinds : (tables : Tables) (kind : Kind) (slot : ℕ) (row : List Bool) (other : Kind) → other ≢ kind → of_kind (with_row tables kind slot row) other ≡ of_kind tables other
with_row_kinds tables Bottom slot row Bottom d = absurd (d refl)
with_row_kinds tables Bottom slot row Top d = refl
with_row_kinds tables Bottom slot row Star d = refl
with_row_kinds tables Top slot row Bottom d = refl
with_row_kinds tables Top slot row Top d = absurd (d refl)
with_row_kinds tables Top slot row Star d = refl
with_row_kinds tables Star slot row Bottom d = refl
with_row_kinds tables Star slot row Top d = refl
with_row_kinds tables Star slot row Star d = absurd (d refl)

pub with_row_long : (tables : Tables) (kind : Kind) (slot : ℕ) (row : List Bool) (any : Kind) → length (of_kind (with_row tables kind slot row) any) ≡ length (of_kind tables any)
with_row_long tables Bottom slot row Bottom = length-set tables.bottom slot (Some row)
with_row_long tables Bottom slot row Top = refl
with_row_long tables Bottom slot row Star = refl
with_row_long tables Top slot row Bottom = refl
with_row_long tables Top slot row Top = length-set tables.top slot (Some row)
with_row_long tables Top slot row Star = refl
with_row_long tables Star slot row Bottom = refl
with_row_long tables Star slot row Top = refl
with_row_long tables Star slot row Star = length-set tables.star slot (Some row)

-- at first no slot got one
pub filled_none : (kind : Kind) (f : ℕ → Option (List Bool)) (tables : Tables) → IsFilled kind f tables tables 0
filled_none kind f tables = record {
  here = λ i l. absurd (omega (arith, l));
  rest = λ i l. refl;
  others = λ other d. refl;
  long = λ any. refl;
}

-- one slot more
pub filled_more : (kind : Kind) (f : ℕ → Option (List Bool)) (before now next : Tables) (n : ℕ) (row : Option (List Bool)) → IsFilled kind f before now n → row ≡ f n
    → row_of next kind n ≡ first_of row (row_of now kind n) → ((i : ℕ) → i ≢ n → row_of next kind i ≡ row_of now kind i)
    → ((other : Kind) → other ≢ kind → of_kind next other ≡ of_kind now other) → ((any : Kind) → length (of_kind next any) ≡ length (of_kind now any))
    → IsFilled kind f before next (n + 1)
filled_more kind f before now next n row is same at others kinds long = record {
  here = λ i l. elim (below_or_last i n l) [
    | inl s ↦ others i (λ e. absurd (omega (arith, e, s))) ∙ is.here i s
    | inr e ↦ (
        let last : row_of next kind n ≡ first_of (f n) (row_of before kind n) = at ∙ ap (λ o. first_of o (row_of now kind n)) same ∙ ap (first_of (f n)) (is.rest n (omega arith)) in
        subst (λ k. row_of next kind k ≡ first_of (f k) (row_of before kind k)) (sym e) last)
  ];
  rest = λ i l. others i (λ e. absurd (omega (arith, e, l))) ∙ is.rest i (omega (arith, l));
  others = λ other d. kinds other d ∙ is.others other d;
  long = λ any. long any ∙ is.long any;
}

bottom_top : Bottom ≢ Top
bottom_top e = cc

bottom_star : Bottom ≢ Star
bottom_star e = cc

top_bottom : Top ≢ Bottom
top_bottom e = cc

top_star : Top ≢ Star
top_star e = cc

star_bottom : Star ≢ Bottom
star_bottom e = cc

star_top : Star ≢ Top
star_top e = cc

-- kind by kind, all slots got rows
module _ (f : Kind → ℕ → Option (List Bool)) (start one two end : Tables) (n : ℕ) (bottom : IsFilled Bottom (f Bottom) start one n) (top : IsFilled Top (f Top) one two n) (star : IsFilled Star (f Star) two end n) where
  at_slot : {rows other : List (Option (List Bool))} → (i : ℕ) → rows ≡ other → get_or rows i None ≡ get_or other i None
  at_slot i e = ap (λ l. get_or l i None) e

  pub filled_rows : (kind : Kind) (i : ℕ) → i < n → row_of end kind i ≡ first_of (f kind i) (row_of start kind i)
  filled_rows Bottom i l = at_slot i (star.others Bottom bottom_star ∙ top.others Bottom bottom_top) ∙ bottom.here i l
  filled_rows Top i l = at_slot i (star.others Top top_star) ∙ top.here i l ∙ ap (first_of (f Top i)) (at_slot i (bottom.others Top top_bottom))
  filled_rows Star i l = star.here i l ∙ ap (first_of (f Star i)) (at_slot i (top.others Star star_top ∙ bottom.others Star star_bottom))

  pub filled_long : (kind : Kind) → length (of_kind end kind) ≡ length (of_kind start kind)
  filled_long kind = star.long kind ∙ top.long kind ∙ bottom.long kind

-- nothing there before
pub first_of-none : {A : Type 0} (a : Option A) → first_of a None ≡ a
first_of-none (Some a) = refl
first_of-none None = refl

abbrev no_list : Option (List Bool)
no_list = None

none_there : (n i : ℕ) → get_or (replicate n no_list) i None ≡ None
none_there n i = elim (cases_lt i n) [
  | inl l ↦ get_or-replicate n i no_list None l
  | inr g ↦ get_or_past (replicate n no_list) i None (subst (λ m. m ≤ i) (sym (length-replicate n no_list)) g)
]

pub no_row : (n : ℕ) (kind : Kind) (i : ℕ) → row_of (without_rows n) kind i ≡ None
no_row n Bottom i = none_there n i
no_row n Top i = none_there n i
no_row n Star i = none_there n i

pub no_row_long : (n : ℕ) (kind : Kind) → length (of_kind (without_rows n) kind) ≡ n
no_row_long n Bottom = length-replicate n None
no_row_long n Top = length-replicate n None
no_row_long n Star = length-replicate n None
