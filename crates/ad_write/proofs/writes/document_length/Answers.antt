-- The line of one axiom stands between those of the others.
use Rattle.std.proofs.Common.{◌≡◌, ◌+◌, ◌∷◌, [], List, ◌++◌, length, length-append, arith}
use Rattle.std.specs.List.{flat_map}
use Rattle.std.proofs.lemmas.Grind.{flat_map-append}
use Rattle.ad_tree.specs.declared.axioms.Noted.{Noted}
use Rattle.ad_write.specs.Canonical.{canon, canon_line, document_foot}
use Rattle.ad_write.proofs.writes.document_length.Goals as goal

lines_length : (before after : List Noted) → length (flat_map canon_line (before ++ after)) ≡ length (flat_map canon_line before) + length (flat_map canon_line after)
lines_length before after = rw flat_map-append (length-append (flat_map canon_line before) (flat_map canon_line after))

pub returns-clause-each : goal.returns-clause-each
returns-clause-each c = λ before after noted.
    omega (
      arith,
      length-append (flat_map canon_line (before ++ noted ∷ after)) document_foot,
      length-append (flat_map canon_line (before ++ after)) document_foot,
      lines_length before (noted ∷ after),
      lines_length before after,
      length-append (canon_line noted) (flat_map canon_line after),
      length-append (canon noted) (10 ∷ []),
    )
