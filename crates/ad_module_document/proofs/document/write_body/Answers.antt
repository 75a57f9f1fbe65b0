use Rattle.std.specs.List.{flat_map}
use Rattle.ad_write.specs.Canonical.{canon_line, document_foot}
use Rattle.ad_module_document.specs.Documents.{taken_of}
use Rattle.ad_module_document.proofs.LineLemmas.{joins}
use Rattle.ad_module_document.proofs.document.write_body.Goals as goal

pub returns-in-All-clause-bytes : goal.returns-in-All-clause-bytes
returns-in-All-clause-bytes g c = joins _ _ _ (flat_map canon_line (taken_of (g.C.Choice.takes c.args.choice.now) c.args.ontology.now)) document_foot c.write_foot.result c.in-All.ensures.bytes c.write_foot.ensures.bytes
