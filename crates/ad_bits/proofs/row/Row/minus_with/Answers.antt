use Rattle.std.proofs.Common.{length, ◌&&◌, not, ap, sym, ◌∙◌, arith}
use Rattle.std.specs.Vec.{with_items}
use Rattle.std.proofs.lemmas.List.{with_items_is}
use Rattle.ad_bits.specs.Rows.{has, minus}
use Rattle.ad_bits.specs.Words.{bit_in}
use Rattle.ad_bits.proofs.Rows.{has-minus, length-minus}
use Rattle.ad_bits.proofs.Views.{shown, closed}
use Rattle.ad_bits.proofs.row.Row.minus_with.Goals as goal

pub remove_words-requires-clause-same_length : goal.remove_words-requires-clause-same_length
remove_words-requires-clause-same_length c =
    let mine = shown c.self.inside.size c.self.inside.words.items c.deref_mut.result.now c.args.self.now c.self.invariant c.self.view_is c.deref_mut.ensures.value in
    let theirs = shown c.other.inside.size c.other.inside.words.items c.deref.result.now c.args.other.now c.other.invariant c.other.view_is c.deref.ensures.value in
    let old = c.args.self.now in
    let other = c.args.other.now in
    omega (arith, mine.size_is, theirs.size_is, mine.room, theirs.room)

pub invariant_of-self : goal.invariant_of-self
invariant_of-self c =
    let mine = shown c.self.inside.size c.self.inside.words.items c.deref_mut.result.now c.args.self.now c.self.invariant c.self.view_is c.deref_mut.ensures.value in
    let theirs = shown c.other.inside.size c.other.inside.words.items c.deref.result.now c.args.other.now c.other.invariant c.other.view_is c.deref.ensures.value in
    let old = c.args.self.now in
    let other = c.args.other.now in
    let row = minus old other in
    let written = closed c.self.inside.size (with_items c.self.inside.words c.remove_words.new.words).items c.remove_words.new.words row
    (with_items_is c.self.inside.words c.remove_words.new.words (c.remove_words.auto.words ∙ c.deref_mut.ensures.len))
    (record {
      fits = mine.fits;
      size_is = length-minus old other ∙ mine.size_is;
      room = c.remove_words.auto.words ∙ mine.room;
      bits = λ i. has-minus old other i ∙ ap (λ b. b && not (has other i)) (mine.bits i) ∙ ap (λ b. bit_in c.deref_mut.result.now i && not b) (theirs.bits i) ∙ sym (c.remove_words.ensures i);
    }) in
    written.0

pub returns : goal.returns
returns c =
    let mine = shown c.self.inside.size c.self.inside.words.items c.deref_mut.result.now c.args.self.now c.self.invariant c.self.view_is c.deref_mut.ensures.value in
    let theirs = shown c.other.inside.size c.other.inside.words.items c.deref.result.now c.args.other.now c.other.invariant c.other.view_is c.deref.ensures.value in
    let old = c.args.self.now in
    let other = c.args.other.now in
    let row = minus old other in
    let written = closed c.self.inside.size (with_items c.self.inside.words c.remove_words.new.words).items c.remove_words.new.words row
    (with_items_is c.self.inside.words c.remove_words.new.words (c.remove_words.auto.words ∙ c.deref_mut.ensures.len))
    (record {
      fits = mine.fits;
      size_is = length-minus old other ∙ mine.size_is;
      room = c.remove_words.auto.words ∙ mine.room;
      bits = λ i. has-minus old other i ∙ ap (λ b. b && not (has other i)) (mine.bits i) ∙ ap (λ b. bit_in c.deref_mut.result.now i && not b) (theirs.bits i) ∙ sym (c.remove_words.ensures i);
    }) in
    record {
      row = written.1;
      size = ap length written.1 ∙ length-minus old other;
      members = λ i. ap (λ r. has r i) written.1 ∙ has-minus old other i;
    }
