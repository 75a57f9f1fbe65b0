use Rattle.std.proofs.Common.{sym}
use Rattle.ad_module_document.proofs.SeedLemmas.{number_set}
use Rattle.ad_module_document.proofs.seeds.set_number.Goals as goal

pub returns-in-Some-clause-marked : goal.returns-in-Some-clause-marked
returns-in-Some-clause-marked c e n at = number_set c.args.ontology.now c.laws.ensures c.args.entity.now e c.in-Some.number n c.args.row.now c.set.new.self
    (sym c.in-Some.ensures.number) at c.set.ensures.member c.set.ensures.others
