-- The slot has a row, whose text is that of the part.
use Rattle.std.proofs.Common.{◌≡◌, Some, IsTrue, sym, ap, ◌∙◌, subst}
use Rattle.std.specs.Option.{option_map}
use Rattle.ad_bits.specs.Rows.{has}
use Rattle.ad_io.specs.Sink.{Puts}
use Rattle.ad_slots.specs.Places.{is_held, held_symbols}
use Rattle.ad_tables.specs.Rows.{Tables, row_of}
use Rattle.ad_split.specs.Closure.{IsClosureOf}
use Rattle.ad_split.specs.Going.{AreGoing}
use Rattle.ad_split.proofs.RowLemmas.{has_row, row_long, row_of_live, text_of_row}
use Rattle.ad_split.proofs.texts.write_one.Goals as goal

pub unreachable-requires : goal.unreachable-requires
unreachable-requires g c =
    let edition = c.args.edition.now in
    has_row edition c.laws.ensures c.args.kind c.args.slot c.requires.live
    (sym (ap (λ (tables : Tables). row_of tables c.args.kind c.args.slot) c.rows.ensures) ∙ sym c.row.ensures ∙ ap (option_map (λ row. row.now)) c.in_default.is)

pub gather-requires-clause-live : goal.gather-requires-clause-live
gather-requires-clause-live g c = λ i t.
    let edition = c.args.edition.now in
    let at : row_of edition.found.tables c.args.kind c.args.slot ≡ Some c.in-Some.members.now =
    sym (ap (λ (tables : Tables). row_of tables c.args.kind c.args.slot) c.rows.ensures) ∙ sym c.row.ensures ∙ ap (option_map (λ row. row.now)) c.in-Some.is in
    subst (λ slots. IsTrue (is_held slots i)) (sym c.universe.ensures.held)
    (row_of_live edition c.laws.ensures c.args.kind c.args.slot c.requires.live c.in-Some.members.now at i t)

pub invariant_of-part : goal.invariant_of-part
invariant_of-part g c =
    let edition = c.args.edition.now in
    let at : row_of edition.found.tables c.args.kind c.args.slot ≡ Some c.in-Some.members.now =
    sym (ap (λ (tables : Tables). row_of tables c.args.kind c.args.slot) c.rows.ensures) ∙ sym c.row.ensures ∙ ap (option_map (λ row. row.now)) c.in-Some.is in
    record {
      goes = subst (λ o. AreGoing o c.deref.result.now) (sym c.ontology.ensures) (subst (λ going. AreGoing edition.numbered going) (sym c.deref.ensures.value) c.requires.room.going);
      slots = row_long edition c.laws.ensures c.args.kind c.args.slot c.requires.live c.in-Some.members.now at ∙ sym (ap (λ o. o.most) c.ontology.ensures);
      numbers = c.gather.ensures.size ∙ c.requires.room.closure ∙ sym (ap (λ o. o.symbols) c.ontology.ensures);
    }

pub returns-clause-bytes : goal.returns-clause-bytes
returns-clause-bytes g c =
    let edition = c.args.edition.now in
    let row = c.in-Some.members.now in
    let closure = c.gather.new.closure in
    let at : row_of edition.found.tables c.args.kind c.args.slot ≡ Some row =
    sym (ap (λ (tables : Tables). row_of tables c.args.kind c.args.slot) c.rows.ensures) ∙ sym c.row.ensures ∙ ap (option_map (λ row. row.now)) c.in-Some.is in
    let closed : IsClosureOf (held_symbols edition.numbered.held) (has row) (has closure) =
    subst (λ slots. IsClosureOf (held_symbols slots) (has row) (has closure)) c.universe.ensures.held c.gather.ensures.closure in
    subst (λ text. Puts (g.K.Sink.written c.args.sink.now) (g.K.Sink.written c.write_part.new.sink) c.write_part.result text)
    (sym (text_of_row edition.numbered edition.found.tables c.args.kind c.args.number c.args.slot row closure c.laws.ensures.numbered at
    (row_of_live edition c.laws.ensures c.args.kind c.args.slot c.requires.live row at) closed))
    c.write_part.ensures.bytes
