use Rattle.std.proofs.Common.{sym, ◌∙◌, arith}
use Rattle.ad_bits.proofs.Views.{shown}
use Rattle.ad_bits.proofs.row.Row.has.Goals as goal

pub test_bit-requires : goal.test_bit-requires
test_bit-requires c =
    let view = shown c.self.inside.size c.self.inside.words.items c.deref.result.now c.args.self.now c.self.invariant c.self.view_is c.deref.ensures.value in
    omega (arith, view.size_is, view.room)

pub returns : goal.returns
returns c =
    let view = shown c.self.inside.size c.self.inside.words.items c.deref.result.now c.args.self.now c.self.invariant c.self.view_is c.deref.ensures.value in
    c.test_bit.ensures ∙ sym (view.bits c.args.i)
