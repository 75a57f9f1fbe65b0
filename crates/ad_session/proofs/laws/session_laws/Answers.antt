use Rattle.ad_session.proofs.PassLemmas.{runs_as, run_grows, looks_stay}
use Rattle.ad_session.proofs.laws.session_laws.Goals as goal

pub returns : goal.returns
returns c = record { runs = runs_as; entered = run_grows; looks = looks_stay }
