use Rattle.ad_theory.proofs.ChangeLemmas.{star_kept}
use Rattle.ad_theory.proofs.laws.star_kept.Goals as goal

pub returns : goal.returns
returns g c B B' T T' O O' left new M X Y seed S R bottom top bottom' top' change change' m x y untouched =
    star_kept seed bottom top bottom' top' change change' m x y untouched
