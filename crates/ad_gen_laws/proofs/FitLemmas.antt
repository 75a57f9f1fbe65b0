-- A generated ontology passes no limit.
use Rattle.std.proofs.Common.{◌≡◌, ℕ, zero, suc, ◌+◌, ◌*◌, ◌%◌, ◌≤◌, ◌==◌, Bool, true, false, cond, not, if◌then◌else◌, List, [], ◌∷◌, ◌++◌, None, length, map, refl, ap, ◌∙◌, arith, length-append}
use Rattle.std.specs.List.{AllByRecursion, flat_map, range_with_len}
use Rattle.std.proofs.lemmas.List.Elements.{filter-append}
use Rattle.std.proofs.lemmas.List.FromFn.{length-map-range_with_len}
use Rattle.ad_base.specs.Limits.{standard}
use Rattle.ad_decomposition.proofs.Firsts.{length-filter-le}
use Rattle.ad_entity.specs.Entities.{same_entity}
use Rattle.ad_entity.specs.declared.entities.Entity.{Entity}
use Rattle.ad_locality.specs.Signature.{occurrences}
use Rattle.ad_syntax_laws.specs.OntologyModule.{is_logical_axiom, logical}
use Rattle.ad_tree.specs.declared.axioms.Noted.{Noted}
use Rattle.ad_signature.specs.Firsts.{firsts, signature_of}
use Rattle.ad_write.specs.Canonical.{canon_line, document_foot, document_head}
use Rattle.ad_numbered.specs.Numbered.{entities_of, signatures}
use Rattle.ad_edition.specs.Limit.{document_count, passed}
use Rattle.ad_edition.proofs.LimitLemmas.{by_rest, within_size}
use Rattle.ad_gen.specs.Generated.{axioms_of_class, axioms_of_classes, below_everything, below_half, declaration, declarations, equal_to_twin, generated, where_divided}
use Rattle.ad_gen_laws.proofs.CountLemmas.{count_few, count_more, count_to, one_if}
use Rattle.ad_gen_laws.proofs.LineLemmas.{IsShort, IsSmall, short-declaration, short-everything, short-half, short-twin, small-everything, small-half, small-twin}

-- the axioms of classes are the logical ones

logical-declarations : (numbers : List ℕ) → logical (map declaration numbers) ≡ []
logical-declarations [] = refl
logical-declarations (number ∷ numbers) = logical-declarations numbers

logical-where : (b : Bool) (x : Noted) → is_logical_axiom x ≡ true → logical (if b then x ∷ [] else []) ≡ (if b then x ∷ [] else [])
logical-where true x is = ap (λ t. cond t (x ∷ []) []) is
logical-where false x is = refl

logical-class : (number : ℕ) → logical (axioms_of_class number) ≡ axioms_of_class number
logical-class number =
    let twins : List Noted = where_divided 10 number (equal_to_twin number) in
    let tops : List Noted = where_divided 100 number (below_everything number) in
    ap (λ l. below_half number ∷ l)
    (filter-append is_logical_axiom twins tops
    ∙ ap (λ l. l ++ logical tops) (logical-where (number % 10 == 0) (equal_to_twin number) refl)
    ∙ ap (λ l. twins ++ l) (logical-where (number % 100 == 0) (below_everything number) refl))

logical-classes : (numbers : List ℕ) → logical (flat_map axioms_of_class numbers) ≡ flat_map axioms_of_class numbers
logical-classes [] = refl
logical-classes (number ∷ numbers) =
    filter-append is_logical_axiom (axioms_of_class number) (flat_map axioms_of_class numbers)
    ∙ ap (λ l. l ++ logical (flat_map axioms_of_class numbers)) (logical-class number)
    ∙ ap (λ l. axioms_of_class number ++ l) (logical-classes numbers)

logical-generated : (size : ℕ) → logical (generated size) ≡ axioms_of_classes size
unfolding generated
logical-generated size =
    filter-append is_logical_axiom (declarations size) (axioms_of_classes size)
    ∙ ap (λ l. l ++ logical (axioms_of_classes size)) (logical-declarations (range_with_len 0 (size + 1)))
    ∙ logical-classes (range_with_len 1 size)

-- how many there are

where_counted : (b : Bool) (x : Noted) → length (if b then x ∷ [] else []) ≡ one_if b
where_counted true x = refl
where_counted false x = refl

class_counted : (number : ℕ) → length (axioms_of_class number) ≡ 1 + one_if (number % 10 == 0) + one_if (number % 100 == 0)
class_counted number = omega (
  arith,
  where_counted (number % 10 == 0) (equal_to_twin number),
  where_counted (number % 100 == 0) (below_everything number),
  length-append (where_divided 10 number (equal_to_twin number)) (where_divided 100 number (below_everything number)),
)

classes_counted : (before n : ℕ) → count_to before + length (flat_map axioms_of_class (range_with_len (before + 1) n)) ≡ count_to (before + n)
classes_counted before zero = let same : before ≡ before + 0 = omega arith in let counts : count_to before ≡ count_to (before + 0) = ap count_to same in omega (arith, counts)
classes_counted before (suc n) =
    let same : (before + 1) + n ≡ before + suc n = omega arith in
    let counts : count_to ((before + 1) + n) ≡ count_to (before + suc n) = ap count_to same in
    omega (
      arith,
      counts,
      classes_counted (before + 1) n,
      count_more before,
      class_counted (before + 1),
      length-append (axioms_of_class (before + 1)) (flat_map axioms_of_class (range_with_len (before + 1 + 1) n)),
    )

classes_few : (size : ℕ) → size ≤ 10000 → length (axioms_of_classes size) ≤ 11100
classes_few size few = omega (arith, classes_counted 0 size, count_few size few)

-- what holds of each axiom of the classes

module _ (P : Noted → Type 0) (of_half : (number : ℕ) → number ≤ 10000 → P (below_half number)) (of_twin : (number : ℕ) → number ≤ 10000 → P (equal_to_twin number))
    (of_everything : (number : ℕ) → number ≤ 10000 → P (below_everything number)) where
  all_both : (xs ys : List Noted) → AllByRecursion P xs → AllByRecursion P ys → AllByRecursion P (xs ++ ys)
  all_both [] ys first then_ = then_
  all_both (x ∷ xs) ys first then_ = (first.0, all_both xs ys first.1 then_)

  all_where : (b : Bool) (x : Noted) → P x → AllByRecursion P (if b then x ∷ [] else [])
  all_where true x holds = (holds, tt)
  all_where false x holds = tt

  all_class : (number : ℕ) → number ≤ 10000 → AllByRecursion P (axioms_of_class number)
  all_class number few = (
    of_half number few,
    all_both (where_divided 10 number (equal_to_twin number)) (where_divided 100 number (below_everything number))
        (all_where (number % 10 == 0) (equal_to_twin number) (of_twin number few))
        (all_where (number % 100 == 0) (below_everything number) (of_everything number few)),
  )

  all_classes : (number n : ℕ) → number + n ≤ 10001 → AllByRecursion P (flat_map axioms_of_class (range_with_len number n))
  all_classes number zero few = tt
  all_classes number (suc n) few = all_both (axioms_of_class number) (flat_map axioms_of_class (range_with_len (number + 1) n)) (all_class number (omega arith)) (all_classes (number + 1) n (omega arith))

all_declarations : (number n : ℕ) → number + n ≤ 10001 → AllByRecursion IsShort (map declaration (range_with_len number n))
all_declarations number zero few = tt
all_declarations number (suc n) few = (short-declaration number (omega arith), all_declarations (number + 1) n (omega arith))

-- the entities in their signatures are few

firsts_few : (entities : List Entity) → length (firsts entities) ≤ length entities
firsts_few [] = omega arith
firsts_few (e ∷ entities) = omega (arith, firsts_few entities, length-filter-le (λ x. not (same_entity e x)) (firsts entities))

signatures_few : (axioms : List Noted) → AllByRecursion IsSmall axioms → length (signatures axioms) ≤ 2 * length axioms
signatures_few [] all = omega arith
signatures_few (a ∷ axioms) all = omega (
  arith,
  all.0,
  firsts_few (occurrences a.axiom),
  signatures_few axioms all.1,
  length-append (signature_of a.axiom) (signatures axioms),
)

entities_few : (size : ℕ) → size ≤ 10000 → length (entities_of (axioms_of_classes size)) ≤ 22200
entities_few size few =
    let all : AllByRecursion IsSmall (axioms_of_classes size) =
    all_classes IsSmall (λ number l. small-half number) (λ number l. small-twin number) (λ number l. small-everything number) 1 size (omega arith) in
    omega (arith, firsts_few (signatures (axioms_of_classes size)), signatures_few (axioms_of_classes size) all, classes_few size few)

-- its document is short

lines_short : (axioms : List Noted) → AllByRecursion IsShort axioms → length (flat_map canon_line axioms) ≤ 200 * length axioms
lines_short [] all = omega arith
lines_short (a ∷ axioms) all = omega (arith, all.0, lines_short axioms all.1, length-append (canon_line a) (flat_map canon_line axioms))

generated_short : (size : ℕ) → size ≤ 10000 → length (flat_map canon_line (generated size)) ≤ 4220200
unfolding generated
generated_short size few =
    let classes : AllByRecursion IsShort (axioms_of_classes size) = all_classes IsShort short-half short-twin short-everything 1 size (omega arith) in
    let all : AllByRecursion IsShort (generated size) =
    all_both IsShort short-half short-twin short-everything (declarations size) (axioms_of_classes size) (all_declarations 0 (size + 1) (omega arith)) classes in
    omega (
      arith,
      lines_short (generated size) all,
      length-append (declarations size) (axioms_of_classes size),
      length-map-range_with_len declaration 0 (size + 1),
      classes_few size few,
    )

document_short : (size : ℕ) → size ≤ 10000 → document_count (generated size) ≤ 33554432
document_short size few =
    let lines : List ℕ = flat_map canon_line (generated size) in
    omega (arith, generated_short size few, length-append document_head (lines ++ document_foot), length-append lines document_foot)

-- a generated ontology passes no limit
pub generated_within : (size : ℕ) → size ≤ 10000 → passed standard 0 (generated size) ≡ None
generated_within size few =
    let axioms : length (logical (generated size)) ≤ 20480 = omega (arith, ap length (logical-generated size), classes_few size few) in
    let entities : length (entities_of (logical (generated size))) ≤ 65536 = omega (arith, ap (λ xs. length (entities_of xs)) (logical-generated size), entities_few size few) in
    by_rest standard 0 (generated size) axioms entities ∙ within_size standard 0 (document_count (generated size)) (document_short size few) (omega arith)
