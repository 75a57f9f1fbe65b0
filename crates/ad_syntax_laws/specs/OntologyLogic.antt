-- The two logics of axioms, one a side, for the generic definition of a module: an axiom's signature, and
-- whether it is local for the seen names.
use Rattle.std.specs.Prelude.{Bool, not, ◌&&◌, List}
use Rattle.ad_base.specs.declared.limits.Side.{Side}
use Rattle.ad_entity.specs.Entities.{has_entity}
use Rattle.ad_entity.specs.Builtin.{is_builtin}
use Rattle.ad_locality.specs.Signature.{in_signature}
use Rattle.ad_locality.specs.Locality.{local}
use Rattle.ad_tree.specs.declared.axioms.Noted.{Noted}
use Rattle.ad_entity.specs.declared.entities.Entity.{Entity}
use Rattle.ad_theory.specs.Module.{Logic}

-- annotations have no part in it
abbrev pub axiom_logic : Side → Logic Noted Entity
axiom_logic side = record { sig = λ a e. in_signature a.axiom e; local = λ S a. local side S a.axiom }

-- the entities of a seed as a test; a built-in one has no effect
abbrev pub seed_test : List Entity → Entity → Bool
seed_test entities e = has_entity entities e && not (is_builtin e)
