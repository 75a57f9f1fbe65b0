use Rattle.std.proofs.Common.{ap, sym, ◌∙◌, arith}
use Rattle.std.specs.Vec.{with_items}
use Rattle.std.proofs.lemmas.List.{with_items_is}
use Rattle.ad_bits.specs.Words.{bit_in}
use Rattle.ad_bits.proofs.Views.{shown, closed}
use Rattle.ad_bits.proofs.row.Row.copy_from.Goals as goal

pub copy_words-requires-clause-same_length : goal.copy_words-requires-clause-same_length
copy_words-requires-clause-same_length c =
    let mine = shown c.self.inside.size c.self.inside.words.items c.deref_mut.result.now c.args.self.now c.self.invariant c.self.view_is c.deref_mut.ensures.value in
    let theirs = shown c.other.inside.size c.other.inside.words.items c.deref.result.now c.args.other.now c.other.invariant c.other.view_is c.deref.ensures.value in
    let old = c.args.self.now in
    let other = c.args.other.now in
    omega (arith, mine.size_is, theirs.size_is, mine.room, theirs.room)

pub invariant_of-self : goal.invariant_of-self
invariant_of-self c =
    let mine = shown c.self.inside.size c.self.inside.words.items c.deref_mut.result.now c.args.self.now c.self.invariant c.self.view_is c.deref_mut.ensures.value in
    let theirs = shown c.other.inside.size c.other.inside.words.items c.deref.result.now c.args.other.now c.other.invariant c.other.view_is c.deref.ensures.value in
    let old = c.args.self.now in
    let other = c.args.other.now in
    let row = other in
    let written = closed c.self.inside.size (with_items c.self.inside.words c.copy_words.new.words).items c.copy_words.new.words row
    (with_items_is c.self.inside.words c.copy_words.new.words (c.copy_words.auto.words ∙ c.deref_mut.ensures.len))
    (record {
      fits = mine.fits;
      size_is = sym c.requires ∙ mine.size_is;
      room = c.copy_words.auto.words ∙ mine.room;
      bits = λ i. theirs.bits i ∙ ap (λ ws. bit_in ws i) (sym c.copy_words.ensures);
    }) in
    written.0

pub returns : goal.returns
returns c =
    let mine = shown c.self.inside.size c.self.inside.words.items c.deref_mut.result.now c.args.self.now c.self.invariant c.self.view_is c.deref_mut.ensures.value in
    let theirs = shown c.other.inside.size c.other.inside.words.items c.deref.result.now c.args.other.now c.other.invariant c.other.view_is c.deref.ensures.value in
    let old = c.args.self.now in
    let other = c.args.other.now in
    let row = other in
    let written = closed c.self.inside.size (with_items c.self.inside.words c.copy_words.new.words).items c.copy_words.new.words row
    (with_items_is c.self.inside.words c.copy_words.new.words (c.copy_words.auto.words ∙ c.deref_mut.ensures.len))
    (record {
      fits = mine.fits;
      size_is = sym c.requires ∙ mine.size_is;
      room = c.copy_words.auto.words ∙ mine.room;
      bits = λ i. theirs.bits i ∙ ap (λ ws. bit_in ws i) (sym c.copy_words.ensures);
    }) in
    written.1
