use Rattle.ad_syntax_laws.specs.OntologyLogic.{seed_test}
use Rattle.ad_names.specs.Names.{is_member}
use Rattle.ad_sweep.proofs.ChosenLemmas.{sweep_begins}
use Rattle.ad_sweep.proofs.sweeping.sweep_to_end.Goals as goal

pub rounds-init : goal.rounds-init
rounds-init g c = record {
  long = c.in_ok-marks.ensures.len;
  sweeping = sweep_begins g.A.Lent.lent c.args.side (seed_test c.args.seed.now) c.args.owners.now c.in_ok-marks.marks.items (is_member c.in_ok-names.names) c.in_ok-marks.ensures.items c.in_ok-names.ensures;
}
