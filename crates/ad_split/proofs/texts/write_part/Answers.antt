-- The line, and then the document.
use Rattle.std.proofs.Common.{subst}
use Rattle.ad_bits.specs.Rows.{has, member_count}
use Rattle.ad_io.specs.Sink.{Puts}
use Rattle.ad_write.specs.Canonical.{canon_document}
use Rattle.ad_split.specs.Slots.{document_by}
use Rattle.ad_split.proofs.PieceLemmas.{part_front, part_on}
use Rattle.ad_split.proofs.texts.write_part.Goals as goal

pub returns-in-All-clause-bytes : goal.returns-in-All-clause-bytes
returns-in-All-clause-bytes g c =
    let ontology = c.args.edition.now.numbered in
    let row = c.args.part.now.members.now in
    let members = has row in
    let closure = has c.args.part.now.closure.now in
    let mid = g.K.Sink.written c.put_part_line.new.sink in
    let new = g.K.Sink.written c.write.new.sink in
    part_on c.args.number (member_count row) c.count.result c.part_bytes-bytes.result (canon_document (document_by ontology members closure)) (g.K.Sink.written c.args.sink.now) mid new c.write.result
    c.count.ensures c.part_bytes-bytes.ensures c.in-All.ensures.bytes
    (subst (λ o. Puts mid new c.write.result (canon_document (document_by o members closure))) c.requires c.write.ensures.bytes)

pub returns-in-Failed-clause-bytes : goal.returns-in-Failed-clause-bytes
returns-in-Failed-clause-bytes g c =
    let ontology = c.args.edition.now.numbered in
    let row = c.args.part.now.members.now in
    part_front c.args.number (member_count row) c.count.result c.part_bytes-bytes.result (canon_document (document_by ontology (has row) (has c.args.part.now.closure.now)))
    (g.K.Sink.written c.args.sink.now) (g.K.Sink.written c.put_part_line.new.sink) c.count.ensures c.part_bytes-bytes.ensures c.in-Failed.ensures.bytes
