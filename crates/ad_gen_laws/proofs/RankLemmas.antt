-- A number for each axiom of a generated ontology. The numbers of its axioms rise.
use Rattle.std.proofs.Common.{◌≡◌, ℕ, ◌+◌, ◌*◌, ◌/◌, ◌≤◌, ◌==◌, if◌then◌else◌, List, [], ◌∷◌, get_or, sym, ap, ◌∙◌, arith}
use Rattle.ad_tree.specs.declared.axioms.Axiom.{Axiom}
use Rattle.ad_tree.specs.declared.axioms.Axiom.TheVariants as axioms
use Rattle.ad_tree.specs.declared.axioms.Noted.{Noted}
use Rattle.ad_tree.specs.declared.classes.Class.{Class}
use Rattle.ad_tree.specs.declared.classes.Class.TheVariants as c
use Rattle.ad_tree.specs.declared.classes.Class.TheOpen.{Class-F}
use Rattle.ad_tree.specs.declared.classes.Class.TheViews.{roll-Class}
use Rattle.ad_tree.specs.declared.classes.Class.TheFolds.{fold-Class, map-Class, fold-roll-Class}
use Rattle.ad_gen.specs.Names.{class_name, thing}
use Rattle.ad_gen.specs.Generated.{below_everything, below_half, declaration, equal_to_twin}
use Rattle.ad_gen_laws.proofs.NameLemmas.{number_in, number_in-class}

abbrev step : Class-F (List ℕ) → List ℕ
step (Class-F.Named class) = class
step _ = []

-- the name of a class that is a name
unfoldable pub name_of : Class → List ℕ
name_of = fold-Class (List ℕ) step

name_of-at : (x : Class) (y : Class-F Class) → roll-Class y ≡ x → name_of x ≡ step (map-Class Class (List ℕ) name_of y)
unfolding name_of
name_of-at x y e = ap (fold-Class (List ℕ) step) (sym e) ∙ fold-roll-Class (List ℕ) step y

name_of-named : (name : List ℕ) → name_of (c.Named name) ≡ name
name_of-named name = name_of-at _ _ (c.rolls-Named name)

-- the name of the first class
abbrev first_name : List Class → List ℕ
first_name [] = []
first_name (class ∷ classes) = name_of class

-- 2 for the class of everything, whose name begins with an h, and nothing for a class with a number
abbrev added_by : List ℕ → ℕ
added_by name = if get_or name 0 0 == 104 then 2 else 0

abbrev rank_of : Axiom → ℕ
rank_of (axioms.Declaration declared) = number_in declared.name
rank_of (axioms.SubClassOf lower upper) = 20000 + 3 * number_in (name_of lower) + added_by (name_of upper)
rank_of (axioms.EquivalentClasses classes) = 20001 + 3 * number_in (first_name classes)
rank_of _ = 0

abbrev pub rank : Noted → ℕ
rank noted = rank_of noted.axiom

pub rank-declaration : (number : ℕ) → number ≤ 10000 → rank (declaration number) ≡ number
rank-declaration number few = number_in-class number few

lower_number : (number : ℕ) → number ≤ 10000 → number_in (name_of (c.Named (class_name number))) ≡ number
lower_number number few = ap number_in (name_of-named (class_name number)) ∙ number_in-class number few

pub rank-half : (number : ℕ) → number ≤ 10000 → rank (below_half number) ≡ 20000 + 3 * number
rank-half number few =
    let upper : added_by (name_of (c.Named (class_name (number / 2)))) ≡ 0 = ap added_by (name_of-named (class_name (number / 2))) in
    omega (arith, lower_number number few, upper)

pub rank-twin : (number : ℕ) → number ≤ 10000 → rank (equal_to_twin number) ≡ 20001 + 3 * number
rank-twin number few = omega (arith, lower_number number few)

pub rank-everything : (number : ℕ) → number ≤ 10000 → rank (below_everything number) ≡ 20002 + 3 * number
rank-everything number few =
    let upper : added_by (name_of (c.Named thing)) ≡ 2 = ap added_by (name_of-named thing) in
    omega (arith, lower_number number few, upper)
