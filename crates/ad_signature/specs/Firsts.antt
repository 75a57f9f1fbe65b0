-- The signature of an axiom as a list.
use Rattle.std.specs.Prelude.{not, List, [], ◌∷◌}
use Rattle.std.specs.List.{filter}
use Rattle.ad_entity.specs.Entities.{same_entity}
use Rattle.ad_locality.specs.Signature.{occurrences}
use Rattle.ad_tree.specs.declared.axioms.Axiom.{Axiom}
use Rattle.ad_entity.specs.declared.entities.Entity.{Entity}

-- each entity of the list once, where it first stands
abbrev pub firsts : List Entity → List Entity
firsts [] = []
firsts (e ∷ es) = e ∷ filter (λ x. not (same_entity e x)) (firsts es)

-- the entities in the signature of an axiom, each once, in the order in which they first occur in it
abbrev pub signature_of : Axiom → List Entity
signature_of a = firsts (occurrences a)
