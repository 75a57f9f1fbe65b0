-- What was found and written is the document of the ontology's module.
use Rattle.ad_module_document.specs.Documents.{document_in}
use Rattle.ad_module_document.proofs.body.module_body.Goals as goal

pub returns-clause-document : goal.returns-clause-document
returns-clause-document g c =
    let ontology = c.args.ontology.now in
    let seed = c.args.seed.now in
    let members = c.find.new.self.members in
    let closure = c.find.new.self.closure in
    record {
      axioms = document_in ontology seed members closure;
      is = c.found_documents.ensures c.args.kind ontology seed members closure c.laws.ensures c.find.ensures.found;
      puts = c.write_document.ensures.bytes;
    }
