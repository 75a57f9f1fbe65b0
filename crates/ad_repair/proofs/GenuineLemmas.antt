-- Rows of genuine modules are over all slots, and of live ones.
use Rattle.std.proofs.Common.{◌≡◌, ℕ, Bool, List, Some, None, length, IsTrue, inl, inr, sym, ◌∙◌, ap}
use Rattle.ad_base.specs.declared.limits.Kind.{Kind}
use Rattle.ad_base.specs.declared.limits.Kind.TheVariants.{Bottom, Top, Star}
use Rattle.ad_base.specs.declared.limits.Side.{Side}
use Rattle.ad_bits.specs.Rows.{has}
use Rattle.ad_theory.specs.Genuine.{IsGenuine}
use Rattle.ad_theory.proofs.Members.{either}
use Rattle.ad_tables.specs.Rows.{Tables}
use Rattle.ad_decomposition.specs.Tables.{AreGenuine}
use Rattle.ad_repair.specs.Touches.{AreOver, HaveLiveRows}
use Rattle.ad_repair.proofs.ListLemmas.{some_same}

module _ (symbols : ℕ → List ℕ) (local : Side → (ℕ → Bool) → ℕ → Bool) (live : ℕ → Bool) where
  genuine_within : (kind : Kind) (i : ℕ) (M : ℕ → Bool) → IsGenuine kind symbols local live i M → (k : ℕ) → IsTrue (M k) → IsTrue (live k)
  genuine_within Bottom i M g k t = g.1.within k t
  genuine_within Top i M g k t = g.1.within k t
  genuine_within Star i M g k t = g.1.0.within k t

  pub genuine_over : (slots n : ℕ) (tables : Tables) → AreGenuine symbols local live slots tables → slots ≡ n → AreOver n tables
  genuine_over slots n tables genuine same = record {
    long = λ kind. genuine.long kind ∙ same;
    sizes = λ kind i row e. elim (either (live i)) [
      | inl t ↦ (let r = genuine.rows kind i t in ap length (some_same {a = row} {b = r.0} (sym e ∙ r.1)) ∙ r.2 ∙ same)
      | inr f ↦ absurd (let clash : None ≡ Some row = sym (genuine.no_others kind i f) ∙ e in cc)
    ];
  }

  pub genuine_live : (slots : ℕ) (tables : Tables) → AreGenuine symbols local live slots tables → HaveLiveRows live tables
  genuine_live slots tables genuine kind i t =
      let r = genuine.rows kind i t in
      (r.0, r.1, genuine_within kind i (has r.0) r.3)
