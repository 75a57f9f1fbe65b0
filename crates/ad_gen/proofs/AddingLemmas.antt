-- The additions of a generated ontology, one class after the other.
use Rattle.std.proofs.Common.{◌≡◌, ℕ, zero, suc, ◌+◌, ◌*◌, ◌%◌, ◌≤◌, ◌==◌, Bool, true, false, if◌then◌else◌, List, [], ◌∷◌, ◌++◌, length, map, sym, ap, ◌∙◌, arith, append-nil, append_assoc, length-append, map-id}
use Rattle.std.specs.List.{flat_map, range_with_len}
use Rattle.std.proofs.lemmas.List.{length-map, map-append}
use Rattle.std.proofs.lemmas.List.Concat.{flat_map-append}
use Rattle.std.proofs.lemmas.List.FromFn.{length-map-range_with_len, map-range_with_len_more}
use Rattle.ad_tree.specs.declared.axioms.Noted.{Noted}
use Rattle.ad_tree.specs.declared.edits.Op.{Op}
use Rattle.ad_gen.specs.Generated.{added, axioms_of_class, axioms_of_classes, below_everything, declaration, declarations, equal_to_twin, generated, where_divided}

-- so many declarations
pub declared_long : (count : ℕ) (batch : List Op) → batch ≡ map added (map declaration (range_with_len 0 count)) → length batch ≡ count
declared_long count batch is = ap length is ∙ length-map (map declaration (range_with_len 0 count)) added ∙ length-map-range_with_len declaration 0 count

-- and one more
pub declared_more : (count : ℕ) (batch new : List Op) (noted : Noted) → batch ≡ map added (map declaration (range_with_len 0 count)) → noted ≡ declaration count
    → new ≡ batch ++ added noted ∷ [] → new ≡ map added (map declaration (range_with_len 0 (count + 1)))
declared_more count batch new noted is named more =
    more ∙ ap (λ ops. ops ++ added noted ∷ []) is ∙ ap (λ a. map added (map declaration (range_with_len 0 count)) ++ added a ∷ []) named
    ∙ sym (map-append added (map declaration (range_with_len 0 count)) (declaration count ∷ []))
    ∙ ap (map added) (sym (map-range_with_len_more declaration 0 count count (let same : 0 + count ≡ count = omega arith in same)))

range_more : (count : ℕ) → range_with_len 1 (count + 1) ≡ range_with_len 1 count ++ (count + 1) ∷ []
range_more count =
    sym (map-id (range_with_len 1 (count + 1)))
    ∙ map-range_with_len_more (λ n. n) 1 count (count + 1) (let same : 1 + count ≡ count + 1 = omega arith in same)
    ∙ ap (λ numbers. numbers ++ (count + 1) ∷ []) (map-id (range_with_len 1 count))

-- the axioms of the classes up to a number, and those of the next
classes_more : (count : ℕ) → axioms_of_classes (count + 1) ≡ axioms_of_classes count ++ axioms_of_class (count + 1)
classes_more count =
    ap (flat_map axioms_of_class) (range_more count)
    ∙ flat_map-append axioms_of_class (range_with_len 1 count) ((count + 1) ∷ [])
    ∙ ap (λ axioms. axioms_of_classes count ++ axioms) (append-nil (axioms_of_class (count + 1)))

pub added_more : (count : ℕ) (front batch new : List Op) → batch ≡ front ++ map added (axioms_of_classes count) → new ≡ batch ++ map added (axioms_of_class (count + 1))
    → new ≡ front ++ map added (axioms_of_classes (count + 1))
added_more count front batch new is more =
    more ∙ ap (λ ops. ops ++ map added (axioms_of_class (count + 1))) is
    ∙ append_assoc front (map added (axioms_of_classes count)) (map added (axioms_of_class (count + 1)))
    ∙ ap (λ ops. front ++ ops) (sym (map-append added (axioms_of_classes count) (axioms_of_class (count + 1))) ∙ ap (map added) (sym (classes_more count)))

where_few : (b : Bool) (x : Noted) → length (if b then x ∷ [] else []) ≤ 1
where_few true x = omega arith
where_few false x = omega arith

class_few : (number : ℕ) → length (axioms_of_class number) ≤ 3
class_few number = omega (
  arith,
  where_few (number % 10 == 0) (equal_to_twin number),
  where_few (number % 100 == 0) (below_everything number),
  length-append (where_divided 10 number (equal_to_twin number)) (where_divided 100 number (below_everything number)),
)

classes_few : (number count : ℕ) → length (flat_map axioms_of_class (range_with_len number count)) ≤ 3 * count
classes_few number zero = omega arith
classes_few number (suc count) = omega (
  arith,
  class_few number,
  classes_few (number + 1) count,
  length-append (axioms_of_class number) (flat_map axioms_of_class (range_with_len (number + 1) count)),
)

-- at most three axioms a class
pub added_few : (count : ℕ) (front batch : List Op) → batch ≡ front ++ map added (axioms_of_classes count) → length batch ≤ length front + 3 * count
added_few count front batch is = omega (
  arith,
  ap length is,
  classes_few 1 count,
  length-append front (map added (axioms_of_classes count)),
  length-map (axioms_of_classes count) added,
)

-- declarations, and the axioms of all classes behind them
pub generated_is : (size : ℕ) (batch new : List Op) → batch ≡ map added (declarations size) → new ≡ batch ++ map added (axioms_of_classes size) → new ≡ map added (generated size)
unfolding generated
generated_is size batch new is more =
    more ∙ ap (λ ops. ops ++ map added (axioms_of_classes size)) is ∙ sym (map-append added (declarations size) (axioms_of_classes size))
