-- What a list of first occurrences has taken.
use Rattle.std.specs.Prelude.{cond, [], ◌∷◌, ◌++◌}
use Rattle.ad_entity.specs.declared.entities.Entity.{Entity}
use Rattle.ad_names.specs.Names.{is_member, with_entity}
use Rattle.ad_signature.specs.declared.listing.Listing.{Listing}

-- after one more entity, which is put at the end where it wasn't met before
abbrev pub with_first : Listing → Entity → Listing
with_first l e = cond (is_member l.met e) l (record l { met = with_entity l.met e; list = l.list ++ e ∷ [] })
