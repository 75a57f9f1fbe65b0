-- The document of the ontology has as many bytes as a u64 counts, and that of the part no more.
use Rattle.std.proofs.Common.{◌-◌, ◌^◌, length, min, ap, ◌∙◌, arith}
use Rattle.ad_bits.specs.Rows.{has}
use Rattle.ad_write.specs.Canonical.{canon_document}
use Rattle.ad_split.specs.Slots.{document_by, is_in_part}
use Rattle.ad_split.proofs.SizeLemmas.{sized}
use Rattle.ad_split.proofs.texts.part_bytes.Goals as goal

pub returns : goal.returns
returns c =
    let edition = c.args.edition.now in
    let members = has c.args.part.now.members.now in
    let closure = has c.args.part.now.closure.now in
    sized edition (is_in_part edition.numbered members closure) c.size.result c.bytes-bytes.result c.laws.ensures c.bytes-bytes.ensures (omega (arith, c.bytes-bytes.type_inv))
    (c.size.ensures ∙ ap (λ o. min (length (canon_document (document_by o members closure))) (2 ^ 64 - 1)) c.requires)
