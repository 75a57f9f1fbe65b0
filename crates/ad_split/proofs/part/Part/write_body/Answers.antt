use Rattle.std.specs.List.{flat_map}
use Rattle.ad_bits.specs.Rows.{has}
use Rattle.ad_io.proofs.FlowLemmas.{stops_early}
use Rattle.ad_write.specs.Canonical.{canon_line, document_foot}
use Rattle.ad_module_document.proofs.LineLemmas.{joins}
use Rattle.ad_split.specs.Slots.{document_by}
use Rattle.ad_split.proofs.part.Part.write_body.Goals as goal

pub returns-in-All-clause-bytes : goal.returns-in-All-clause-bytes
returns-in-All-clause-bytes g c =
    let part = c.args.self.now in
    joins _ _ _ (flat_map canon_line (document_by part.ontology.now (has part.members.now) (has part.closure.now))) document_foot c.write_foot.result c.in-All.ensures.bytes c.write_foot.ensures.bytes

pub returns-in-Failed-clause-bytes : goal.returns-in-Failed-clause-bytes
returns-in-Failed-clause-bytes g c =
    let part = c.args.self.now in
    stops_early _ _ (flat_map canon_line (document_by part.ontology.now (has part.members.now) (has part.closure.now))) document_foot c.in-Failed.ensures.bytes
