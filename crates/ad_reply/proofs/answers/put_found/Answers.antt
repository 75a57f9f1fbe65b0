-- The line, and then the document of the ontology's module.
use Rattle.std.proofs.Common.{subst}
use Rattle.ad_io.specs.Flow.{GainsFront}
use Rattle.ad_io.specs.Sink.{Puts}
use Rattle.ad_write.specs.Canonical.{canon_document}
use Rattle.ad_module_document.specs.Documents.{document_in}
use Rattle.ad_reply.specs.Replies.{answered, reply_bytes}
use Rattle.ad_reply.proofs.AnswerLemmas.{answers_on, answers_front}
use Rattle.ad_reply.proofs.FoundLemmas.{module_is}
use Rattle.ad_reply.proofs.answers.put_found.Goals as goal

pub returns-in-All-clause-reply : goal.returns-in-All-clause-reply
returns-in-All-clause-reply g c = λ kind holds.
    let edition = c.args.edition.now in
    let seed = c.args.seed.now in
    let members = c.args.room.now.members in
    let closure = c.args.room.now.closure in
    let body = canon_document (document_in edition.numbered seed members closure) in
    let old = g.K.Sink.written c.args.sink.now in
    let mid = g.K.Sink.written c.put_answer_line.new.sink in
    let new = g.K.Sink.written c.write_document.new.sink in
    let written = subst (λ o. Puts mid new c.write_document.result (canon_document (document_in o seed members closure))) c.ontology.ensures c.write_document.ensures.bytes in
    record {
      body = body;
      is = module_is kind edition seed members closure c.laws.ensures c.found_documents.ensures holds;
      puts = subst (λ n. Puts old new c.write_document.result (reply_bytes (answered n body))) c.number.ensures
          (answers_on c.number.result c.found_bytes-bytes.result body old mid new c.write_document.result c.found_bytes-bytes.ensures c.in-All.ensures.bytes written);
    }

pub returns-in-Failed-clause-reply : goal.returns-in-Failed-clause-reply
returns-in-Failed-clause-reply g c = λ kind holds.
    let edition = c.args.edition.now in
    let seed = c.args.seed.now in
    let members = c.args.room.now.members in
    let closure = c.args.room.now.closure in
    let body = canon_document (document_in edition.numbered seed members closure) in
    let old = g.K.Sink.written c.args.sink.now in
    let new = g.K.Sink.written c.put_answer_line.new.sink in
    record {
      body = body;
      is = module_is kind edition seed members closure c.laws.ensures c.found_documents.ensures holds;
      puts = subst (λ n. GainsFront old new (reply_bytes (answered n body))) c.number.ensures
          (answers_front c.number.result c.found_bytes-bytes.result body old new c.found_bytes-bytes.ensures c.in-Failed.ensures.bytes);
    }
