-- The line, and then the text.
use Rattle.std.proofs.Common.{refl, subst}
use Rattle.ad_io.specs.Flow.{GainsFront}
use Rattle.ad_io.specs.Sink.{Puts}
use Rattle.ad_atoms_text.specs.AtomsText.{atoms_text}
use Rattle.ad_reply.specs.Atoms.{shape_in}
use Rattle.ad_reply.specs.Replies.{answered, reply_bytes}
use Rattle.ad_reply.proofs.AnswerLemmas.{answers_on, answers_front}
use Rattle.ad_reply.proofs.AtomLemmas.{edition_shape}
use Rattle.ad_reply.proofs.atoms.atoms_reply.Goals as goal

pub returns-in-All-clause-reply : goal.returns-in-All-clause-reply
returns-in-All-clause-reply g c =
    let edition = c.args.edition.now in
    let kind = c.args.kind in
    let body = atoms_text (shape_in kind edition) in
    let old = g.K.Sink.written c.args.sink.now in
    let mid = g.K.Sink.written c.put_answer_line.new.sink in
    let new = g.K.Sink.written c.put_atoms.new.sink in
    record {
      body = body;
      is = record { shape = shape_in kind edition; is = edition_shape kind edition c.laws.ensures c.shapes_of_slots.ensures; text = refl };
      puts = subst (λ n. Puts old new c.put_atoms.result (reply_bytes (answered n body))) c.number.ensures
          (answers_on c.number.result c.atoms_bytes-bytes.result body old mid new c.put_atoms.result c.atoms_bytes-bytes.ensures c.in-All.ensures.bytes c.put_atoms.ensures.bytes);
    }

pub returns-in-Failed-clause-reply : goal.returns-in-Failed-clause-reply
returns-in-Failed-clause-reply g c =
    let edition = c.args.edition.now in
    let kind = c.args.kind in
    let body = atoms_text (shape_in kind edition) in
    let old = g.K.Sink.written c.args.sink.now in
    let new = g.K.Sink.written c.put_answer_line.new.sink in
    record {
      body = body;
      is = record { shape = shape_in kind edition; is = edition_shape kind edition c.laws.ensures c.shapes_of_slots.ensures; text = refl };
      puts = subst (λ n. GainsFront old new (reply_bytes (answered n body))) c.number.ensures
          (answers_front c.number.result c.atoms_bytes-bytes.result body old new c.atoms_bytes-bytes.ensures c.in-Failed.ensures.bytes);
    }
