-- The first line, and then the parts.
use Rattle.std.proofs.Common.{length, sym, subst}
use Rattle.std.specs.List.{flat_map}
use Rattle.ad_decompose.specs.Decomposed.{genuine_of}
use Rattle.ad_io.specs.Flow.{Gains, GainsFront}
use Rattle.ad_io.proofs.FlowLemmas.{stops_early}
use Rattle.ad_module_document.proofs.LineLemmas.{joins}
use Rattle.ad_numbered.specs.Numbered.{order_of}
use Rattle.ad_split.specs.Parts.{head_line, numbered}
use Rattle.ad_split.specs.Slots.{slot_text, slots_text}
use Rattle.ad_split.specs.Tops.{tops}
use Rattle.ad_split.proofs.EditionLemmas.{as_many_tops, text_is}
use Rattle.ad_split.proofs.texts.write_parts.Goals as goal

pub returns-in-All-clause-text : goal.returns-in-All-clause-text
returns-in-All-clause-text g c =
    let edition = c.args.edition.now in
    let kind = c.args.kind in
    let K = genuine_of edition.found kind in
    let all = tops K (order_of edition.numbered) in
    let old = g.K.Sink.written c.args.sink.now in
    let mid = g.K.Sink.written c.put_head.new.sink in
    let new = g.K.Sink.written c.write_each.new.sink in
    record {
      text = slots_text edition.numbered K;
      is = text_is edition c.laws.ensures kind c.rows_are_genuine.ensures;
      puts = joins old mid new (head_line (length all)) (flat_map (slot_text edition.numbered K) (numbered all)) c.write_each.result
          (subst (λ n. Gains old mid (head_line n)) (sym (as_many_tops edition c.laws.ensures kind c.args.parts.now c.requires.parts)) c.in-All.ensures.bytes)
          c.write_each.ensures.bytes;
    }

pub returns-in-Failed-clause-text : goal.returns-in-Failed-clause-text
returns-in-Failed-clause-text g c =
    let edition = c.args.edition.now in
    let kind = c.args.kind in
    let K = genuine_of edition.found kind in
    let all = tops K (order_of edition.numbered) in
    let old = g.K.Sink.written c.args.sink.now in
    let new = g.K.Sink.written c.put_head.new.sink in
    record {
      text = slots_text edition.numbered K;
      is = text_is edition c.laws.ensures kind c.rows_are_genuine.ensures;
      puts = stops_early old new (head_line (length all)) (flat_map (slot_text edition.numbered K) (numbered all))
          (subst (λ n. GainsFront old new (head_line n)) (sym (as_many_tops edition c.laws.ensures kind c.args.parts.now c.requires.parts)) c.in-Failed.ensures.bytes);
    }
