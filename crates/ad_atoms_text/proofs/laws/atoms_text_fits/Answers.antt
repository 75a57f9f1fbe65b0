use Rattle.ad_atoms_text.proofs.LengthLemmas.{text_fits}
use Rattle.ad_atoms_text.proofs.laws.atoms_text_fits.Goals as goal

pub returns : goal.returns
returns g c = λ G order few. text_fits G order few
