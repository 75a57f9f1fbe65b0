-- The lines of the axioms of a generated ontology are short, and their signatures are small.
use Rattle.std.proofs.Common.{◌≡◌, ℕ, ◌+◌, ◌/◌, ◌≤◌, true, false, cond, List, [], ◌∷◌, ◌++◌, length, codes, ap, ◌∙◌, arith, length-append}
use Rattle.ad_entity.specs.Builtin.{is_builtin}
use Rattle.ad_entity.specs.Entities.{entity}
use Rattle.ad_entity.specs.declared.entities.EntityKind.TheVariants as kinds
use Rattle.ad_locality.specs.Signature.{named, of_class, occurrences}
use Rattle.ad_syntax_laws.proofs.Equations.{of_class-named}
use Rattle.ad_tree.specs.declared.axioms.Noted.{Noted}
use Rattle.ad_tree.specs.declared.classes.Class.TheVariants as c
use Rattle.ad_write.specs.Canonical.{canon, canon_class, canon_entity, canon_iri, canon_line, compound}
use Rattle.ad_write.specs.Keywords as kw
use Rattle.ad_write.proofs.Equations.{canon_class-named}
use Rattle.ad_gen.specs.Names.{class_name, thing, twin_name}
use Rattle.ad_gen.specs.Generated.{below_everything, below_half, declaration, equal_to_twin}
use Rattle.ad_gen_laws.proofs.NameLemmas.{class_name-short, twin_name-short}

iri_long : (name : List ℕ) → length (canon_iri name) ≡ length name + 2
iri_long name = omega (arith, length-append name (codes ">"))

class_long : (name : List ℕ) → length (canon_class (c.Named name)) ≡ length name + 2
class_long name = ap length (canon_class-named name) ∙ iri_long name

one_long : (word one : List ℕ) → length (compound word (one ∷ [])) ≡ length word + length one + 2
one_long word one = omega (arith, length-append word (codes "(" ++ (one ++ codes ")")), length-append one (codes ")"))

two_long : (word one two : List ℕ) → length (compound word (one ∷ two ∷ [])) ≡ length word + length one + length two + 3
two_long word one two = omega (
  arith,
  length-append word (codes "(" ++ ((one ++ (32 ∷ two)) ++ codes ")")),
  length-append (one ++ (32 ∷ two)) (codes ")"),
  length-append one (32 ∷ two),
)

-- an axiom whose line has at most 200 bytes
abbrev pub IsShort : Noted → Type 0
IsShort noted = length (canon_line noted) ≤ 200

pub short-declaration : (number : ℕ) → number ≤ 10000 → IsShort (declaration number)
unfolding canon
short-declaration number few =
    let name : List ℕ = class_name number in
    omega (
      arith,
      class_name-short number few,
      iri_long name,
      one_long kw.Class (canon_iri name),
      one_long kw.Declaration (canon_entity (entity kinds.Class name)),
      length-append (compound kw.Declaration (canon_entity (entity kinds.Class name) ∷ [])) (10 ∷ []),
    )

short-pair : (lower upper : List ℕ) → length lower ≤ 40 → length upper ≤ 40 → length (compound kw.SubClassOf (canon_class (c.Named lower) ∷ canon_class (c.Named upper) ∷ []) ++ 10 ∷ []) ≤ 200
short-pair lower upper l k = omega (
  arith,
  class_long lower,
  class_long upper,
  two_long kw.SubClassOf (canon_class (c.Named lower)) (canon_class (c.Named upper)),
  length-append (compound kw.SubClassOf (canon_class (c.Named lower) ∷ canon_class (c.Named upper) ∷ [])) (10 ∷ []),
)

pub short-half : (number : ℕ) → number ≤ 10000 → IsShort (below_half number)
unfolding canon
short-half number few =
    let half : number / 2 ≤ 10000 = omega arith in
    short-pair (class_name number) (class_name (number / 2)) (omega (arith, class_name-short number few)) (omega (arith, class_name-short (number / 2) half))

pub short-everything : (number : ℕ) → number ≤ 10000 → IsShort (below_everything number)
unfolding canon
short-everything number few = short-pair (class_name number) thing (omega (arith, class_name-short number few)) (omega arith)

pub short-twin : (number : ℕ) → number ≤ 10000 → IsShort (equal_to_twin number)
unfolding canon
short-twin number few =
    let class : List ℕ = class_name number in
    let twin : List ℕ = twin_name number in
    omega (
      arith,
      class_name-short number few,
      twin_name-short number few,
      class_long class,
      class_long twin,
      two_long kw.EquivalentClasses (canon_class (c.Named class)) (canon_class (c.Named twin)),
      length-append (compound kw.EquivalentClasses (canon_class (c.Named class) ∷ canon_class (c.Named twin) ∷ [])) (10 ∷ []),
    )

-- an axiom in which at most two entities occur
abbrev pub IsSmall : Noted → Type 0
IsSmall noted = length (occurrences noted.axiom) ≤ 2

named_few : (name : List ℕ) → length (named kinds.Class name) ≤ 1
named_few name = elim (is_builtin (entity kinds.Class name)) as (λ b. length (cond b [] (entity kinds.Class name ∷ [])) ≤ 1) [ true ↦ omega arith | false ↦ omega arith ]

class_few : (name : List ℕ) → length (of_class (c.Named name)) ≤ 1
class_few name = omega (arith, ap length (of_class-named name), named_few name)

pub small-pair : (lower upper : List ℕ) → length (of_class (c.Named lower) ++ of_class (c.Named upper)) ≤ 2
small-pair lower upper = omega (arith, class_few lower, class_few upper, length-append (of_class (c.Named lower)) (of_class (c.Named upper)))

pub small-half : (number : ℕ) → IsSmall (below_half number)
small-half number = small-pair (class_name number) (class_name (number / 2))

pub small-everything : (number : ℕ) → IsSmall (below_everything number)
small-everything number = small-pair (class_name number) thing

pub small-twin : (number : ℕ) → IsSmall (equal_to_twin number)
small-twin number = omega (
  arith,
  class_few (class_name number),
  class_few (twin_name number),
  length-append (of_class (c.Named (class_name number))) (of_class (c.Named (twin_name number)) ++ []),
  length-append (of_class (c.Named (twin_name number))) [],
)
