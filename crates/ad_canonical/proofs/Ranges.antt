-- Data ranges as they are written.
use Rattle.std.proofs.Common.{◌≡◌, ℕ, List, [], ◌∷◌, ◌++◌, map, Option, None, Some, IfSome, refl, sym, subst}
use Rattle.std.specs.Option.{option_map, option_to_list}
use Rattle.std.specs.List.{AllByRecursion}
use Rattle.ad_write.specs.Keywords as kw
use Rattle.ad_write.specs.Canonical.{canon_iri, canon_literal, canon_facet, canon_range}
use Rattle.ad_write.proofs.Equations.{canon_range-named, canon_range-intersection, canon_range-union, canon_range-complement, canon_range-one_of, canon_range-restriction}
use Rattle.ad_tree.specs.declared.ranges.Range.{Range}
use Rattle.ad_tree.proofs.Induction.{RangeCases, range_induction}
use Rattle.ad_grammar.specs.Shapes.{Text, Then, Many0, Many1, Optional}
use Rattle.ad_grammar.specs.Names.{Words, SpellsLiteral, SpellsFacet}
use Rattle.ad_grammar.specs.Phrases.{SpellsRange}
use Rattle.ad_grammar.proofs.Equations.{as_spelled, spells_range-named, spells_range-and, spells_range-or, spells_range-not, spells_range-one_of, spells_range-restriction}
use Rattle.ad_canonical.specs.Spellable.{EachOfSome, SpellableLiteral, SpellableFacet, SpellableRange}
use Rattle.ad_canonical.proofs.Equations.{spellable_range-named, spellable_range-and, spellable_range-or, spellable_range-not, spellable_range-one_of, spellable_range-restriction}
use Rattle.ad_canonical.proofs.Leaves.{name, literal, facet}
use Rattle.ad_canonical.proofs.Written.{Phrase, Written, Arguments, weaken, at_text, next, optional, many0, many1, many_then, phrase}

-- a fact, read as an equal one
pub read_as : {A B : Type 0} → A ≡ B → A → B
read_as e h = subst (λ (X : Type 0). X) e h

-- a text and a phrase, read as equal ones
pub tree : {x y : List ℕ} {P Q : Phrase} → y ≡ x → ((words : Words) → Q words ≡ P words) → Written x P → Written y Q
tree {x} {y} {P} {Q} e f t = at_text e (weaken (λ words ts h. as_spelled {Q = Q words} ts (sym (f words)) h) t)

-- what follows for each member
module _ {X : Type 0} (A B : X → Type 0) where
  pub for_each : (xs : List X) → AllByRecursion (λ x. A x → B x) xs → AllByRecursion A xs → AllByRecursion B xs
  for_each [] h a = tt
  for_each (x ∷ xs) h a = (h.0 a.0, for_each xs h.1 a.1)

  pub for_some : (xs : List X) → AllByRecursion (λ x. A x → B x) xs → EachOfSome A xs → EachOfSome B xs
  for_some [] h a = a
  for_some (x ∷ xs) h a = (h.0 a.0, for_each xs h.1 a.1)

  pub if_some : (o : Option X) → IfSome o (λ x. A x → B x) → IfSome o A → IfSome o B
  if_some None h a = tt
  if_some (Some x) h a = h a

-- arguments that are written where they are spellable
module _ {X : Type 0} (A : X → Type 0) (S : Words → X → Text → Type 0) (f : X → List ℕ) where
  abbrev pub Writes : X → Type 0
  Writes x = Written (f x) (λ words. S words x)

  pub some_of : (xs : List X) → AllByRecursion (λ x. A x → Writes x) xs → EachOfSome A xs → Arguments (map f xs) (λ words. Many1 (S words) xs)
  some_of xs h a = many1 S f xs (for_some A Writes xs h a)

  pub any_of : (xs : List X) → AllByRecursion (λ x. A x → Writes x) xs → AllByRecursion A xs → Arguments (map f xs) (λ words. Many0 (S words) xs)
  any_of xs h a = many0 S f xs (for_each A Writes xs h a)

  pub maybe : (o : Option X) → IfSome o (λ x. A x → Writes x) → IfSome o A → Arguments (option_to_list (option_map f o)) (λ words. Optional (S words) o)
  maybe o h a = optional S f o (if_some A Writes o h a)

  pub before : {Q : Phrase} (xs : List X) → AllByRecursion (λ x. A x → Writes x) xs → AllByRecursion A xs → (ys : List (List ℕ)) → Arguments ys Q → Arguments (map f xs ++ ys) (λ words. Then (Many0 (S words) xs) (Q words))
  before xs h a ys t = many_then S f xs (for_each A Writes xs h a) ys t

-- what follows for every member of the type
pub every : {X : Type 0} {A : X → Type 0} → ((x : X) → A x) → (xs : List X) → AllByRecursion A xs
every h [] = tt
every h (x ∷ xs) = (h x, every h xs)

abbrev IsWritten : Range → Type 0
IsWritten x = SpellableRange x → Written (canon_range x) (λ words. SpellsRange words x)

cases : RangeCases IsWritten
cases = record {
  named = λ datatype h. tree (canon_range-named datatype) (λ words. spells_range-named words datatype) (name datatype (read_as (spellable_range-named datatype) h));
  intersection = λ operands each h. tree (canon_range-intersection operands) (λ words. spells_range-and words operands)
      (phrase kw.DataIntersectionOf refl (map canon_range operands) (some_of SpellableRange SpellsRange canon_range operands each (read_as (spellable_range-and operands) h)));
  union = λ operands each h. tree (canon_range-union operands) (λ words. spells_range-or words operands)
      (phrase kw.DataUnionOf refl (map canon_range operands) (some_of SpellableRange SpellsRange canon_range operands each (read_as (spellable_range-or operands) h)));
  complement = λ operand is h. tree (canon_range-complement operand) (λ words. spells_range-not words operand)
      (phrase kw.DataComplementOf refl (canon_range operand ∷ []) (is (read_as (spellable_range-not operand) h)));
  one_of = λ values h. tree (canon_range-one_of values) (λ words. spells_range-one_of words values)
      (phrase kw.DataOneOf refl (map canon_literal values) (some_of SpellableLiteral SpellsLiteral canon_literal values (every literal values) (read_as (spellable_range-one_of values) h)));
  restriction = λ datatype facets h.
      let both = read_as (spellable_range-restriction datatype facets) h in
      tree (canon_range-restriction datatype facets) (λ words. spells_range-restriction words datatype facets)
      (phrase kw.DatatypeRestriction refl (canon_iri datatype ∷ map canon_facet facets) (next (canon_iri datatype) (name datatype both.0) (map canon_facet facets) (some_of SpellableFacet SpellsFacet canon_facet facets (every facet facets) both.1)));
}

pub range : (x : Range) → IsWritten x
range = range_induction IsWritten cases
