use Rattle.ad_bits.proofs.Views.{shown, least_shown, none_shown}
use Rattle.ad_bits.proofs.row.Row.next.Goals as goal

pub returns-clause-some : goal.returns-clause-some
returns-clause-some c =
    let view = shown c.self.inside.size c.self.inside.words.items c.deref.result.now c.args.self.now c.self.invariant c.self.view_is c.deref.ensures.value in
    least_shown c.args.self.now c.self.inside.size c.deref.result.now c.args.from c.next_bit.result view c.next_bit.ensures.some

pub returns-clause-none : goal.returns-clause-none
returns-clause-none c =
    let view = shown c.self.inside.size c.self.inside.words.items c.deref.result.now c.args.self.now c.self.invariant c.self.view_is c.deref.ensures.value in
    none_shown c.args.self.now c.self.inside.size c.deref.result.now c.args.from c.next_bit.result view c.next_bit.ensures.none
