use Rattle.std.proofs.Common.{◌≡◌, ◌<◌, length, sym, ap, ◌∙◌, arith}
use Rattle.ad_entity.specs.Entities.{entity}
use Rattle.ad_module_document.specs.Documents.{is_about_number}
use Rattle.ad_module_document.proofs.SeedLemmas.{plain_named}
use Rattle.ad_module_document.proofs.found.FoundSeen.has.Goals as goal

pub has-requires : goal.has-requires
has-requires c =
    let below : c.in-Some.number < c.args.self.now.ontology.now.symbols = c.laws.ensures.below (entity c.args.kind c.args.name.now) c.in-Some.number (sym c.in-Some.ensures) in
    let long : length c.args.self.now.room.now.closure ≡ c.args.self.now.ontology.now.symbols = c.args.self.now.fits.closure in
    let as_long : length c.args.self.now.room.now.seed ≡ c.args.self.now.ontology.now.symbols = c.args.self.now.fits.seed in
    omega arith

pub returns-in-None : goal.returns-in-None
returns-in-None c =
    let e = entity c.args.kind c.args.name.now in
    c.is_named.ensures ∙ plain_named c.args.self.now.seed.now e
    ∙ ap (λ o. is_about_number c.args.self.now.seed.now c.args.self.now.room.now.closure e o) (sym c.in-None.is ∙ c.number.ensures)
