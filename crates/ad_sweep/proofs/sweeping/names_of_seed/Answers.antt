use Rattle.ad_sweep.proofs.SeenLemmas.{seed_seen}
use Rattle.ad_sweep.proofs.sweeping.names_of_seed.Goals as goal

pub returns : goal.returns
returns c = seed_seen c.new-names.result c.take_entities.new.into c.entities.result.now c.args.seed.now c.new-names.ensures c.in_ok-take_entities.ensures c.entities.ensures
