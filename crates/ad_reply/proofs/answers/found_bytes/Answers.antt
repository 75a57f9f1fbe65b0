-- The document of the ontology has as many bytes as a u64 counts, and that of the module no more.
use Rattle.std.proofs.Common.{◌-◌, ◌^◌, length, min, ap, ◌∙◌, arith}
use Rattle.ad_write.specs.Canonical.{canon_document}
use Rattle.ad_module_document.specs.Documents.{document_in, is_chosen}
use Rattle.ad_reply.proofs.FoundLemmas.{sized}
use Rattle.ad_reply.proofs.answers.found_bytes.Goals as goal

pub returns : goal.returns
returns c =
    let edition = c.args.edition.now in
    let seed = c.args.seed.now in
    let members = c.args.room.now.members in
    let closure = c.args.room.now.closure in
    sized edition (is_chosen edition.numbered seed members closure) c.document_size.result c.bytes-bytes.result c.laws.ensures c.bytes-bytes.ensures (omega (arith, c.bytes-bytes.type_inv))
    (c.document_size.ensures ∙ ap (λ o. min (length (canon_document (document_in o seed members closure))) (2 ^ 64 - 1)) c.ontology.ensures)
