use Rattle.std.proofs.Common.{false, replicate, length, ap, sym, ◌∙◌}
use Rattle.std.specs.Vec.{with_items}
use Rattle.std.proofs.lemmas.List.{with_items_is, length-replicate}
use Rattle.ad_bits.specs.Rows.{has}
use Rattle.ad_bits.proofs.Rows.{has-replicate}
use Rattle.ad_bits.proofs.Views.{shown, closed}
use Rattle.ad_bits.proofs.row.Row.clear.Goals as goal

pub returns-clause-row : goal.returns-clause-row
returns-clause-row c =
    let mine = shown c.self.inside.size c.self.inside.words.items c.deref_mut.result.now c.args.self.now c.self.invariant c.self.view_is c.deref_mut.ensures.value in
    let size = length c.args.self.now in
    let row = replicate size false in
    let written = closed c.self.inside.size (with_items c.self.inside.words c.clear_words.new.words).items c.clear_words.new.words row
    (with_items_is c.self.inside.words c.clear_words.new.words (c.clear_words.auto.words ∙ c.deref_mut.ensures.len))
    (record {
      fits = mine.fits;
      size_is = length-replicate size false ∙ mine.size_is;
      room = c.clear_words.auto.words ∙ mine.room;
      bits = λ i. has-replicate size i ∙ sym (c.clear_words.ensures i);
    }) in
    written.1

pub returns-clause-size : goal.returns-clause-size
returns-clause-size c =
    let mine = shown c.self.inside.size c.self.inside.words.items c.deref_mut.result.now c.args.self.now c.self.invariant c.self.view_is c.deref_mut.ensures.value in
    let size = length c.args.self.now in
    let row = replicate size false in
    let written = closed c.self.inside.size (with_items c.self.inside.words c.clear_words.new.words).items c.clear_words.new.words row
    (with_items_is c.self.inside.words c.clear_words.new.words (c.clear_words.auto.words ∙ c.deref_mut.ensures.len))
    (record {
      fits = mine.fits;
      size_is = length-replicate size false ∙ mine.size_is;
      room = c.clear_words.auto.words ∙ mine.room;
      bits = λ i. has-replicate size i ∙ sym (c.clear_words.ensures i);
    }) in
    ap length written.1 ∙ length-replicate size false

pub returns-clause-empty : goal.returns-clause-empty
returns-clause-empty c i =
    let mine = shown c.self.inside.size c.self.inside.words.items c.deref_mut.result.now c.args.self.now c.self.invariant c.self.view_is c.deref_mut.ensures.value in
    let size = length c.args.self.now in
    let row = replicate size false in
    let written = closed c.self.inside.size (with_items c.self.inside.words c.clear_words.new.words).items c.clear_words.new.words row
    (with_items_is c.self.inside.words c.clear_words.new.words (c.clear_words.auto.words ∙ c.deref_mut.ensures.len))
    (record {
      fits = mine.fits;
      size_is = length-replicate size false ∙ mine.size_is;
      room = c.clear_words.auto.words ∙ mine.room;
      bits = λ i. has-replicate size i ∙ sym (c.clear_words.ensures i);
    }) in
    ap (λ r. has r i) written.1 ∙ has-replicate size i
