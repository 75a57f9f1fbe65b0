use Rattle.ad_theory.proofs.ChangeLemmas.{side_kept}
use Rattle.ad_theory.proofs.laws.side_kept.Goals as goal

pub returns : goal.returns
returns g c L L' O O' left new M seed S antitone change m untouched = side_kept antitone change m untouched
