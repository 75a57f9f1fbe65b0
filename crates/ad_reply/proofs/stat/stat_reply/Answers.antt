-- The line, and then the counts.
use Rattle.std.proofs.Common.{◌∙◌, length, ap, subst}
use Rattle.ad_io.specs.Flow.{GainsFront}
use Rattle.ad_io.specs.Sink.{Puts}
use Rattle.ad_reply.specs.Replies.{answered, reply_bytes}
use Rattle.ad_reply.specs.Stats.{stat_in, stat_lines}
use Rattle.ad_reply.specs.declared.stat.Stat.{Stat}
use Rattle.ad_reply.proofs.AnswerLemmas.{answers_on, answers_front}
use Rattle.ad_reply.proofs.StatLemmas.{stat_is}
use Rattle.ad_reply.proofs.stat.stat_reply.Goals as goal

pub returns-in-All-clause-reply : goal.returns-in-All-clause-reply
returns-in-All-clause-reply g c =
    let edition = c.args.edition.now in
    let body = stat_lines (stat_in edition) in
    let old = g.K.Sink.written c.args.sink.now in
    let mid = g.K.Sink.written c.put_answer_line.new.sink in
    let new = g.K.Sink.written c.put_stat.new.sink in
    let counted = c.stat_bytes.ensures ∙ ap (λ (s : Stat). length (stat_lines s)) c.stat_of-stat.ensures in
    record {
      body = body;
      is = stat_is edition c.laws.ensures c.shapes_of_slots.ensures;
      puts = subst (λ n. Puts old new c.put_stat.result (reply_bytes (answered n body))) c.number.ensures
          (answers_on c.number.result c.stat_bytes.result body old mid new c.put_stat.result counted c.in-All.ensures.bytes
          (subst (λ (s : Stat). Puts mid new c.put_stat.result (stat_lines s)) c.stat_of-stat.ensures c.put_stat.ensures.bytes));
    }

pub returns-in-Failed-clause-reply : goal.returns-in-Failed-clause-reply
returns-in-Failed-clause-reply g c =
    let edition = c.args.edition.now in
    let body = stat_lines (stat_in edition) in
    let old = g.K.Sink.written c.args.sink.now in
    let new = g.K.Sink.written c.put_answer_line.new.sink in
    let counted = c.stat_bytes.ensures ∙ ap (λ (s : Stat). length (stat_lines s)) c.stat_of-stat.ensures in
    record {
      body = body;
      is = stat_is edition c.laws.ensures c.shapes_of_slots.ensures;
      puts = subst (λ n. GainsFront old new (reply_bytes (answered n body))) c.number.ensures
          (answers_front c.number.result c.stat_bytes.result body old new counted c.in-Failed.ensures.bytes);
    }
