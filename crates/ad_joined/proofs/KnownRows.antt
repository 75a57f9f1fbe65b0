-- What is known of a star module grows, or begins anew.
use Rattle.std.proofs.Common.{◌≡◌, ℕ, Bool, List, length, ◌⊎◌, IsTrue, inl, inr, subst, sym, ◌∙◌}
use Rattle.ad_base.specs.declared.limits.Side.{Side}
use Rattle.ad_base.specs.declared.limits.Side.TheVariants.{Bottom, Top}
use Rattle.ad_bits.specs.Rows.{has}
use Rattle.ad_theory.specs.Module.{IsStar, IsClosure}
use Rattle.ad_theory.specs.Numbers.{among, logic_of}
use Rattle.ad_joined.specs.Known.{IsKnown}

module _ (symbols : ℕ → List ℕ) (local : Side → (ℕ → Bool) → ℕ → Bool) (live : ℕ → Bool) (slots symbol_count slot : ℕ) where
  pub known_more : (row closure same more : List Bool) → IsKnown symbols local live slots symbol_count row closure same
      → IsTrue (has row slot) → IsStar (logic_of symbols (local Bottom)) (logic_of symbols (local Top)) (among (symbols slot)) (λ i. IsTrue (live i)) (has row)
      → length more ≡ length same → ((i : ℕ) → IsTrue (has more i) → IsTrue (has same i) ⊎ (i ≡ slot)) → IsKnown symbols local live slots symbol_count row closure more
  known_more row closure same more k here star size members = record {
    row_size = k.row_size;
    closure_size = k.closure_size;
    same_size = size ∙ k.same_size;
    has_symbols = k.has_symbols;
    only = k.only;
    each = λ i t. elim (members i t) [
      | inl s ↦ k.each i s
      | inr e ↦ (
        subst (λ j. IsTrue (has row j)) (sym e) here,
        subst (λ j. IsStar (logic_of symbols (local Bottom)) (logic_of symbols (local Top)) (among (symbols j)) (λ i. IsTrue (live i)) (has row)) (sym e) star,
      )
    ];
  }

  pub known_anew : (row closure same : List Bool) → length row ≡ slots → length closure ≡ symbol_count → length same ≡ slots
      → IsTrue (has row slot) → IsStar (logic_of symbols (local Bottom)) (logic_of symbols (local Top)) (among (symbols slot)) (λ i. IsTrue (live i)) (has row)
      → IsClosure (logic_of symbols (local Bottom)) (among (symbols slot)) (has row) (has closure)
      → ((i : ℕ) → IsTrue (has same i) → i ≡ slot) → IsKnown symbols local live slots symbol_count row closure same
  known_anew row closure same row_size closure_size same_size here star closed members = record {
    row_size = row_size;
    closure_size = closure_size;
    same_size = same_size;
    has_symbols = λ a e h sig. (closed e).1 (inr (a, h, sig));
    only = λ e h. elim ((closed e).0 h) [ inl s ↦ (slot, here, s) | inr r ↦ r ];
    each = λ i t. let e = members i t in (
      subst (λ j. IsTrue (has row j)) (sym e) here,
      subst (λ j. IsStar (logic_of symbols (local Bottom)) (logic_of symbols (local Top)) (among (symbols j)) (λ i. IsTrue (live i)) (has row)) (sym e) star,
    );
  }
