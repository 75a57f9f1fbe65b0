use Rattle.std.proofs.Common.{◌∙◌, sym, arith}
use Rattle.std.proofs.lemmas.Bool.{OnFalse_from, OnFalse_at}
use Rattle.ad_bits.specs.Rows.{HasOutside}
use Rattle.ad_bits.specs.Words.{HasBeyond}
use Rattle.ad_bits.proofs.Views.{shown}
use Rattle.ad_bits.proofs.row.Row.is_subset.Goals as goal

pub are_within-requires-clause-same_length : goal.are_within-requires-clause-same_length
are_within-requires-clause-same_length c =
    let mine = shown c.self.inside.size c.self.inside.words.items c.deref.result.now c.args.self.now c.self.invariant c.self.view_is c.deref.ensures.value in
    let theirs = shown c.other.inside.size c.other.inside.words.items c.deref-2.result.now c.args.other.now c.other.invariant c.other.view_is c.deref-2.ensures.value in
    omega (arith, mine.size_is, theirs.size_is, mine.room, theirs.room)

pub returns : goal.returns
returns c =
    let mine = shown c.self.inside.size c.self.inside.words.items c.deref.result.now c.args.self.now c.self.invariant c.self.view_is c.deref.ensures.value in
    let theirs = shown c.other.inside.size c.other.inside.words.items c.deref-2.result.now c.args.other.now c.other.invariant c.other.view_is c.deref-2.ensures.value in
    let left = c.args.self.now in
    let right = c.args.other.now in
    record {
      subset = (
        λ whole i member. theirs.bits i ∙ c.are_within.ensures.within.0 whole i (sym (mine.bits i) ∙ member),
        λ subset. c.are_within.ensures.within.1 (λ i set. sym (theirs.bits i) ∙ subset i (mine.bits i ∙ set)),
      );
      outside = OnFalse_from c.are_within.result (HasOutside left right)
          (λ is.
          let beyond : HasBeyond c.deref.result.now c.deref-2.result.now = OnFalse_at is c.are_within.ensures.beyond in
          (beyond.0, mine.bits beyond.0 ∙ beyond.1, theirs.bits beyond.0 ∙ beyond.2));
    }
