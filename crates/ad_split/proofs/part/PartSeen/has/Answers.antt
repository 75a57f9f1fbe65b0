use Rattle.std.proofs.Common.{◌≡◌, ◌<◌, length, sym, arith}
use Rattle.ad_entity.specs.Entities.{entity}
use Rattle.ad_split.proofs.part.PartSeen.has.Goals as goal

pub has-requires : goal.has-requires
has-requires c =
    let part = c.args.self.now in
    let below : c.in-Some.number < part.ontology.now.symbols = c.laws.ensures.below (entity c.args.kind c.args.name.now) c.in-Some.number (sym c.in-Some.ensures) in
    let long : length part.closure.now ≡ part.ontology.now.symbols = part.numbers in
    omega (arith, below, long)
