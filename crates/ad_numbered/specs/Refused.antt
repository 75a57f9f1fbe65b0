-- Why an ontology isn't numbered.
use Rattle.std.specs.Prelude.{◌≡◌, ◌<◌, List, length}
use Rattle.ad_base.specs.declared.limits.Limits.{Limits}
use Rattle.ad_tree.specs.declared.axioms.Noted.{Noted}
use Rattle.ad_syntax_laws.specs.OntologyModule.{logical}
use Rattle.ad_numbered.specs.Numbered.{entities_of}
use Rattle.ad_numbered.specs.declared.refused.NumberRefused.{NumberRefused}
use Rattle.ad_numbered.specs.declared.refused.NumberRefused.TheVariants.{Entities, Memory}

-- the signatures of the logical axioms have more entities than the limit, so many; want of memory comes at any time
abbrev pub IsUnnumbered : Limits → List Noted → NumberRefused → Type 0
IsUnnumbered limits axioms (Entities count) = (limits.entities < count) × (count ≡ length (entities_of (logical axioms)))
IsUnnumbered limits axioms Memory = Unit {0}
