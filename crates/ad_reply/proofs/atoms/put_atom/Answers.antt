-- The line, and then the document of the atom's axioms.
use Rattle.std.proofs.Common.{subst}
use Rattle.ad_io.specs.Flow.{GainsFront}
use Rattle.ad_io.specs.Sink.{Puts}
use Rattle.ad_write.specs.Canonical.{canon_document}
use Rattle.ad_reply.specs.Atoms.{shape_in}
use Rattle.ad_reply.specs.Bodies.{axioms_of_atom}
use Rattle.ad_reply.specs.Replies.{answered, reply_bytes}
use Rattle.ad_reply.proofs.AnswerLemmas.{answers_on, answers_front}
use Rattle.ad_reply.proofs.AtomLemmas.{atom_body}
use Rattle.ad_reply.proofs.atoms.put_atom.Goals as goal

pub returns-in-All-clause-reply : goal.returns-in-All-clause-reply
returns-in-All-clause-reply g c =
    let edition = c.args.edition.now in
    let kind = c.args.kind in
    let atom = c.args.atom in
    let body = canon_document (axioms_of_atom (shape_in kind edition) atom edition.shown.axioms) in
    let old = g.K.Sink.written c.args.sink.now in
    let mid = g.K.Sink.written c.put_answer_line.new.sink in
    let new = g.K.Sink.written c.put_axioms.new.sink in
    record {
      body = body;
      is = atom_body kind edition atom c.laws.ensures c.shapes_of_slots.ensures c.requires;
      puts = subst (λ n. Puts old new c.put_axioms.result (reply_bytes (answered n body))) c.number.ensures
          (answers_on c.number.result c.atom_bytes-bytes.result body old mid new c.put_axioms.result c.atom_bytes-bytes.ensures c.in-All.ensures.bytes c.put_axioms.ensures.bytes);
    }

pub returns-in-Failed-clause-reply : goal.returns-in-Failed-clause-reply
returns-in-Failed-clause-reply g c =
    let edition = c.args.edition.now in
    let kind = c.args.kind in
    let atom = c.args.atom in
    let body = canon_document (axioms_of_atom (shape_in kind edition) atom edition.shown.axioms) in
    let old = g.K.Sink.written c.args.sink.now in
    let new = g.K.Sink.written c.put_answer_line.new.sink in
    record {
      body = body;
      is = atom_body kind edition atom c.laws.ensures c.shapes_of_slots.ensures c.requires;
      puts = subst (λ n. GainsFront old new (reply_bytes (answered n body))) c.number.ensures
          (answers_front c.number.result c.atom_bytes-bytes.result body old new c.atom_bytes-bytes.ensures c.in-Failed.ensures.bytes);
    }
