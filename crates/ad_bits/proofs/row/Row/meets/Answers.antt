use Rattle.std.proofs.Common.{◌∙◌, sym, arith}
use Rattle.ad_bits.specs.Words.{Share}
use Rattle.ad_bits.proofs.Views.{shown}
use Rattle.ad_bits.proofs.row.Row.meets.Goals as goal

pub share_bit-requires-clause-same_length : goal.share_bit-requires-clause-same_length
share_bit-requires-clause-same_length c =
    let mine = shown c.self.inside.size c.self.inside.words.items c.deref.result.now c.args.self.now c.self.invariant c.self.view_is c.deref.ensures.value in
    let theirs = shown c.other.inside.size c.other.inside.words.items c.deref-2.result.now c.args.other.now c.other.invariant c.other.view_is c.deref-2.ensures.value in
    omega (arith, mine.size_is, theirs.size_is, mine.room, theirs.room)

pub returns : goal.returns
returns c =
    let mine = shown c.self.inside.size c.self.inside.words.items c.deref.result.now c.args.self.now c.self.invariant c.self.view_is c.deref.ensures.value in
    let theirs = shown c.other.inside.size c.other.inside.words.items c.deref-2.result.now c.args.other.now c.other.invariant c.other.view_is c.deref-2.ensures.value in (
      λ is.
          let both : Share c.deref.result.now c.deref-2.result.now = c.share_bit.ensures.0 is in
          (both.0, mine.bits both.0 ∙ both.1, theirs.bits both.0 ∙ both.2),
      λ (i, here, there). c.share_bit.ensures.1 (i, sym (mine.bits i) ∙ here, sym (theirs.bits i) ∙ there),
    )
