use Rattle.std.proofs.Common.{◌∙◌, arith}
use Rattle.ad_bits.proofs.Rows.{member_count-le}
use Rattle.ad_bits.proofs.Views.{shown, count_shown}
use Rattle.ad_bits.proofs.row.Row.count.Goals as goal

pub count_bits-requires : goal.count_bits-requires
count_bits-requires c =
    let view = shown c.self.inside.size c.self.inside.words.items c.deref.result.now c.args.self.now c.self.invariant c.self.view_is c.deref.ensures.value in
    omega (arith, view.fits, view.room)

pub overflow_cast-result : goal.overflow_cast-result
overflow_cast-result c =
    let view = shown c.self.inside.size c.self.inside.words.items c.deref.result.now c.args.self.now c.self.invariant c.self.view_is c.deref.ensures.value in
    let row = c.args.self.now in
    omega (arith, count_shown c.self.inside.size c.self.inside.words.items c.deref.result.now c.args.self.now c.self.invariant c.self.view_is c.deref.ensures.value, c.count_bits.ensures, member_count-le row, view.size_is, view.fits)

pub returns : goal.returns
returns c = c.count_bits.ensures ∙ count_shown c.self.inside.size c.self.inside.words.items c.deref.result.now c.args.self.now c.self.invariant c.self.view_is c.deref.ensures.value
