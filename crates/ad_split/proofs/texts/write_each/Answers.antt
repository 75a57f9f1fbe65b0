-- One more part, or a front of it.
use Rattle.std.proofs.Common.{◌≡◌, ◌<◌, ◌≤◌, ℕ, IsTrue, length, get_or, take, sym, ap, ◌∙◌, subst, arith}
use Rattle.std.specs.List.{flat_map}
use Rattle.std.proofs.lemmas.List.{take_all}
use Rattle.ad_decompose.specs.Decomposed.{atomic_of, genuine_of}
use Rattle.ad_io.specs.Flow.{Gains, GainsFront}
use Rattle.ad_io.proofs.FlowLemmas.{goes_on}
use Rattle.ad_numbered.specs.Numbered.{order_of}
use Rattle.ad_slots.specs.Places.{is_held}
use Rattle.ad_tables.specs.Rows.{Numbered}
use Rattle.ad_split.specs.Parts.{numbered}
use Rattle.ad_split.specs.Slots.{slot_text}
use Rattle.ad_split.specs.Tops.{tops}
use Rattle.ad_split.proofs.EditionLemmas.{as_many_numbered, atom_below, begins_live, part_at}
use Rattle.ad_split.proofs.PieceLemmas.{pieces_more, pieces_stop}
use Rattle.ad_split.proofs.texts.write_each.Goals as goal

pub first-requires : goal.first-requires
first-requires g c =
    let parts = c.args.parts.now in
    subst (λ (atoms : Numbered). get_or parts c.loop-i.i 0 < length atoms.firsts) (sym c.atoms-atoms.ensures)
    (atom_below c.args.edition.now c.laws.ensures c.args.kind parts c.requires.parts c.loop-i.i c.loop-i-test.true)

pub write_one-requires-clause-live : goal.write_one-requires-clause-live
write_one-requires-clause-live g c =
    let edition = c.args.edition.now in
    let at = get_or c.args.parts.now c.loop-i.i 0 in
    let slot_is : c.first.result ≡ get_or (atomic_of edition.found c.args.kind).atoms.firsts at 0 =
    c.first.ensures ∙ ap (λ (atoms : Numbered). get_or atoms.firsts at 0) c.atoms-atoms.ensures in
    subst (λ slot. IsTrue (is_held edition.numbered.held slot)) (sym slot_is)
    (begins_live edition c.laws.ensures c.args.kind c.args.parts.now c.requires.parts c.loop-i.i c.loop-i-test.true)

pub returns-in-Failed-clause-bytes : goal.returns-in-Failed-clause-bytes
returns-in-Failed-clause-bytes g c =
    let edition = c.args.edition.now in
    let i = c.loop-i.i in
    let parts = c.args.parts.now in
    let at = get_or parts i 0 in
    let text = slot_text edition.numbered (genuine_of edition.found c.args.kind) in
    let all = numbered (tops (genuine_of edition.found c.args.kind) (order_of edition.numbered)) in
    let slot_is : c.first.result ≡ get_or (atomic_of edition.found c.args.kind).atoms.firsts at 0 =
    c.first.ensures ∙ ap (λ (atoms : Numbered). get_or atoms.firsts at 0) c.atoms-atoms.ensures in
    let here : (i, c.first.result) ≡ get_or all i (0, 0) =
    ap (λ (s : ℕ). (i, s)) slot_is ∙ sym (part_at edition c.laws.ensures c.args.kind parts c.requires.parts i c.loop-i-test.true) in
    let within : i < length all = omega (arith, c.loop-i-test.true, as_many_numbered edition c.laws.ensures c.args.kind parts c.requires.parts) in
    let mid = g.K.Sink.written c.loop-i.sink in
    let new = g.K.Sink.written c.write_one.new.sink in
    pieces_stop text all i (0, 0) within (g.K.Sink.written c.args.sink.now) mid new c.loop-i.invariant.gained
    (subst (λ p. GainsFront mid new (text p)) here c.in-Failed.ensures.bytes)

pub loop-i-preserved : goal.loop-i-preserved
loop-i-preserved g c =
    let edition = c.args.edition.now in
    let i = c.loop-i.i in
    let parts = c.args.parts.now in
    let at = get_or parts i 0 in
    let text = slot_text edition.numbered (genuine_of edition.found c.args.kind) in
    let all = numbered (tops (genuine_of edition.found c.args.kind) (order_of edition.numbered)) in
    let slot_is : c.first.result ≡ get_or (atomic_of edition.found c.args.kind).atoms.firsts at 0 =
    c.first.ensures ∙ ap (λ (atoms : Numbered). get_or atoms.firsts at 0) c.atoms-atoms.ensures in
    let here : (i, c.first.result) ≡ get_or all i (0, 0) =
    ap (λ (s : ℕ). (i, s)) slot_is ∙ sym (part_at edition c.laws.ensures c.args.kind parts c.requires.parts i c.loop-i-test.true) in
    let within : i < length all = omega (arith, c.loop-i-test.true, as_many_numbered edition c.laws.ensures c.args.kind parts c.requires.parts) in
    let old = g.K.Sink.written c.args.sink.now in
    let mid = g.K.Sink.written c.loop-i.sink in
    let new = g.K.Sink.written c.write_one.new.sink in
    record {
      gained = subst (λ l. Gains old new l) (sym (pieces_more text all i (0, 0) within))
          (goes_on old mid new (flat_map text (take i all)) (text (get_or all i (0, 0))) c.loop-i.invariant.gained
          (subst (λ p. Gains mid new (text p)) here c.in-All.ensures.bytes));
      later = let sooner : g.K.Sink.faults c.args.sink.now ≤ g.K.Sink.faults c.loop-i.sink = c.loop-i.invariant.later in
          let later : g.K.Sink.faults c.loop-i.sink ≤ g.K.Sink.faults c.write_one.new.sink = c.write_one.ensures.cause.later in
          omega arith;
      room = c.write_one.ensures.room;
    }

pub returns-clause-bytes : goal.returns-clause-bytes
returns-clause-bytes g c =
    let edition = c.args.edition.now in
    let i = c.loop-i.i in
    let text = slot_text edition.numbered (genuine_of edition.found c.args.kind) in
    let all = numbered (tops (genuine_of edition.found c.args.kind) (order_of edition.numbered)) in
    let last : length all ≤ i = omega (arith, c.loop-i-test.false, as_many_numbered edition c.laws.ensures c.args.kind c.args.parts.now c.requires.parts) in
    subst (λ ps. Gains (g.K.Sink.written c.args.sink.now) (g.K.Sink.written c.loop-i.sink) (flat_map text ps)) (take_all i all last) c.loop-i.invariant.gained
