-- What holds of every generated ontology.
use Rattle.std.specs.Prelude.{◌≡◌, ℕ, ◌≤◌, [], None, map}
use Rattle.std.specs.List.{IsDistinct}
use Rattle.ad_base.specs.Limits.{standard}
use Rattle.ad_apply.specs.Apply.{applied}
use Rattle.ad_apply.specs.Same.{same_axiom}
use Rattle.ad_edition.specs.Limit.{passed}
use Rattle.ad_gen.specs.Generated.{added, generated}

-- no axiom is there twice
abbrev pub AreDistinct : Type 0
AreDistinct = (size : ℕ) → size ≤ 10000 → IsDistinct same_axiom (generated size)

-- its additions to no axioms give just these axioms
abbrev pub AreAdded : Type 0
AreAdded = (size : ℕ) → size ≤ 10000 → applied [] (map added (generated size)) ≡ generated size

-- as the first edition's successor it passes no limit of the program
abbrev pub AreWithinLimits : Type 0
AreWithinLimits = (size : ℕ) → size ≤ 10000 → passed standard 0 (generated size) ≡ None
