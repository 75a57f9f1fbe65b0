use Rattle.ad_flat.proofs.FreeLemmas.{next_free, none_free}
use Rattle.ad_flat.proofs.slots.Slots.next.Goals as goal

pub returns-in-Some : goal.returns-in-Some
returns-in-Some c = next_free c.args.self.now.most c.args.self.now.entries c.args.self.now.free c.args.self.now.are_free c.in-Some.i c.in-Some.ensures.some

pub returns-in-None : goal.returns-in-None
returns-in-None c = none_free c.args.self.now.most c.args.self.now.entries c.args.self.now.free c.args.self.now.are_free c.args.self.now.within c.in-None.ensures.none
