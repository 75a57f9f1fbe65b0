-- The type keeps it.
use Rattle.std.proofs.Common.{◌≡◌, length, ◌∙◌, sym, subst, arith}
use Rattle.ad_edition.specs.State.{IsMachine}
use Rattle.ad_core.specs.Kept.{editions_in, numbers_of}
use Rattle.ad_core.proofs.OwnersLemmas.{length-numbers_of, length-editions_in}
use Rattle.ad_core.proofs.machine.Machine.newest.Goals as goal

pub returns-clause-machine : goal.returns-clause-machine
returns-clause-machine c =
    let owners = c.self.inside.seen.items in
    let count : length (numbers_of (editions_in owners)) ≡ length (editions_in owners) = length-numbers_of owners ∙ sym (length-editions_in owners) in
    subst IsMachine c.self.view_is (record {
      is_log = c.self.invariant.editions.is_log;
      within = c.self.invariant.editions.within;
      some = omega (arith, count, c.self.invariant.some);
      few = omega (arith, count, c.self.invariant.few);
      looking = omega (arith, count, c.self.invariant.looking);
    })
