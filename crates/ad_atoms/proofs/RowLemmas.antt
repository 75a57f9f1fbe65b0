-- What is read: the row of a slot, and its entry.
use Rattle.std.proofs.Common.{◌≡◌, ℕ, ◌<◌, Bool, true, false, not, List, Option, Some, None, is_none, is_some, length, get_or, sym, ◌∙◌, ap, refl}
use Rattle.std.proofs.lemmas.List.{get_or_default}
use Rattle.ad_base.specs.declared.limits.Kind.{Kind}
use Rattle.ad_bits.specs.Rows.{has}
use Rattle.ad_tables.specs.Rows.{Tables, row_of}
use Rattle.ad_decomposition.specs.Tables.{is_in, is_in_row_of}

module _ (tables : Tables) (kind : Kind) (slot : ℕ) (row : List Bool) (is : row_of tables kind slot ≡ Some row) where
  pub row_size : (size : ℕ) → ((other : List Bool) × (row_of tables kind slot ≡ Some other) × (length other ≡ size)) → length row ≡ size
  row_size size (other, is', long) = let same : Some row ≡ Some other = sym is ∙ is' in let same' : row ≡ other = cc in ap length same' ∙ long

  pub is_in_has : (k : ℕ) → is_in_row_of tables kind slot k ≡ has row k
  is_in_has k = ap (λ r. is_in r k) is

none_or_some : (o : Option ℕ) (r : Bool) → is_some o ≡ not r → is_none o ≡ r
none_or_some None true e = refl
none_or_some None false e = sym e
none_or_some (Some x) true e = sym e
none_or_some (Some x) false e = refl

-- whether the entry that was read is none
pub entry_free : (entries : List (Option ℕ)) (b : ℕ) (entry : Option ℕ) (r : Bool) → entry ≡ get_or entries b entry → b < length entries → is_some entry ≡ not r → is_none (get_or entries b None) ≡ r
entry_free entries b entry r read small answer = none_or_some (get_or entries b None) r (ap is_some (get_or_default entries b None entry small ∙ sym read) ∙ answer)
