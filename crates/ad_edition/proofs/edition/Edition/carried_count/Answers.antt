-- At most all axioms are logical.
use Rattle.std.proofs.Common.{arith}
use Rattle.ad_edition.proofs.OntologyLemmas.{length-logical, sound_as}
use Rattle.ad_edition.proofs.edition.Edition.carried_count.Goals as goal

pub overflow_sub-result : goal.overflow_sub-result
overflow_sub-result c =
    let sound = sound_as _ _ _ _ c.self.invariant.0 c.self.view_is in
    omega (arith, length-logical c.args.self.now.shown.axioms, c.len.ensures, sound.counted)

pub returns : goal.returns
returns c =
    let sound = sound_as _ _ _ _ c.self.invariant.0 c.self.view_is in
    omega (arith, length-logical c.args.self.now.shown.axioms, c.len.ensures, sound.counted)
