-- A universe without axioms has no genuine modules.
use Rattle.std.proofs.Common.{◌≡◌, ℕ, zero, suc, Bool, List, [], Option, None, length, nat_eq, get_or, replicate, refl, sym, subst}
use Rattle.std.specs.Prelude.{Result, Ok, Err, IfOk, IsTrue, IsFalse}
use Rattle.std.specs.List.{IsDistinct}
use Rattle.std.proofs.lemmas.List.{length-replicate}
use Rattle.ad_base.specs.declared.limits.Kind.{Kind}
use Rattle.ad_base.specs.declared.limits.Kind.TheVariants.{Bottom, Top, Star}
use Rattle.ad_base.specs.declared.limits.Side.{Side}
use Rattle.ad_tables.specs.Rows.{Tables, without_rows, row_of, of_kind}
use Rattle.ad_decomposition.specs.Tables.{AreGenuine}
use Rattle.ad_decompose.specs.Decomposed.{Decomposed, AreAtomic, IsDecomposition, atomic_of, genuine_of}

pub none_listed : IsDistinct nat_eq []
unfolding IsDistinct
none_listed = tt

nowhere : (slots i : ℕ) → get_or (replicate {A = Option (List Bool)} slots None) i None ≡ None
nowhere zero i = refl
nowhere (suc slots) zero = refl
nowhere (suc slots) (suc i) = nowhere slots i

as_long : (slots : ℕ) (kind : Kind) → length (of_kind (without_rows slots) kind) ≡ slots
as_long slots Bottom = length-replicate slots None
as_long slots Top = length-replicate slots None
as_long slots Star = length-replicate slots None

empty_at : (slots : ℕ) (kind : Kind) (i : ℕ) → row_of (without_rows slots) kind i ≡ None
empty_at slots Bottom i = nowhere slots i
empty_at slots Top i = nowhere slots i
empty_at slots Star i = nowhere slots i

true_false : (b : Bool) → IsTrue b → IsFalse b → ⊥
true_false b t f = cc

pub no_rows : (symbols : ℕ → List ℕ) (local : Side → (ℕ → Bool) → ℕ → Bool) (live : ℕ → Bool) (slots : ℕ) → ((i : ℕ) → IsFalse (live i)) → AreGenuine symbols local live slots (without_rows slots)
no_rows symbols local live slots none = record {
  rows = λ kind i is. absurd (true_false (live i) is (none i));
  long = λ kind. as_long slots kind;
  no_others = λ kind i is. empty_at slots kind i;
}

-- tables with the atoms and covers that they define are a decomposition
pub decomposed : {E : Type 0} (symbols : ℕ → List ℕ) (local : Side → (ℕ → Bool) → ℕ → Bool) (live : ℕ → Bool) (slots : ℕ) (order : List ℕ) (rows : Tables) (result : Result Decomposed E) → AreGenuine symbols local live slots rows
    → IfOk result (λ found. found.tables ≡ rows) → IfOk result (λ found. (kind : Kind) → AreAtomic (genuine_of found kind) order (atomic_of found kind)) → IfOk result (IsDecomposition symbols local live slots order)
decomposed symbols local live slots order rows (Ok found) genuine tables atomic = record { genuine = subst (AreGenuine symbols local live slots) (sym tables) genuine; atomic = atomic }
decomposed symbols local live slots order rows (Err e) genuine tables atomic = tt
