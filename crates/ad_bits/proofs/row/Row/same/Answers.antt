use Rattle.std.proofs.Common.{◌∙◌, ap, sym, arith}
use Rattle.ad_bits.specs.Rows.{has}
use Rattle.ad_bits.proofs.Rows.{same_rows}
use Rattle.ad_bits.proofs.Views.{shown}
use Rattle.ad_bits.proofs.row.Row.same.Goals as goal

pub same_words-requires-clause-same_length : goal.same_words-requires-clause-same_length
same_words-requires-clause-same_length c =
    let mine = shown c.self.inside.size c.self.inside.words.items c.deref.result.now c.args.self.now c.self.invariant c.self.view_is c.deref.ensures.value in
    let theirs = shown c.other.inside.size c.other.inside.words.items c.deref-2.result.now c.args.other.now c.other.invariant c.other.view_is c.deref-2.ensures.value in
    omega (arith, mine.size_is, theirs.size_is, mine.room, theirs.room)

pub returns : goal.returns
returns c =
    let mine = shown c.self.inside.size c.self.inside.words.items c.deref.result.now c.args.self.now c.self.invariant c.self.view_is c.deref.ensures.value in
    let theirs = shown c.other.inside.size c.other.inside.words.items c.deref-2.result.now c.args.other.now c.other.invariant c.other.view_is c.deref-2.ensures.value in (
      λ is. same_rows c.args.self.now c.args.other.now c.requires (λ i. mine.bits i ∙ c.same_words.ensures.0 is i ∙ sym (theirs.bits i)),
      λ same. c.same_words.ensures.1 (λ i. sym (mine.bits i) ∙ ap (λ r. has r i) same ∙ theirs.bits i),
    )
