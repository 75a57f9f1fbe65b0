use Rattle.std.proofs.Common.{sym, refl}
use Rattle.ad_bits.proofs.Views.{shown}
use Rattle.ad_bits.proofs.row.Row.size.Goals as goal

pub returns : goal.returns
returns c =
    let items = c.self.inside.words.items in
    sym (shown c.self.inside.size items items c.args.self.now c.self.invariant c.self.view_is refl).size_is
