use Rattle.std.proofs.Common.{ℕ, IsTrue}
use Rattle.ad_base.specs.declared.limits.Side.TheVariants.{Bottom, Top}
use Rattle.ad_theory.specs.Numbers.{logic_of}
use Rattle.ad_theory.proofs.ModuleLemmas.{grows}
use Rattle.ad_theory.proofs.KindLemmas.{kind_one}
use Rattle.ad_theory.proofs.NumberLemmas.{some_numbered}
use Rattle.ad_theory.proofs.laws.numbered.Goals as goal

pub returns-clause-exists : goal.returns-clause-exists
returns-clause-exists g c u kind seed within =
    let m = some_numbered (logic_of (g.U.Universe.symbols_of u) (g.U.Universe.is_local u Bottom)) (logic_of (g.U.Universe.symbols_of u) (g.U.Universe.is_local u Top))
    (g.met.U.Universe.antitone u Bottom) (g.met.U.Universe.antitone u Top) seed (g.U.Universe.is_live u) within (g.U.Universe.slot_count u) (g.met.U.Universe.live_below u) kind in
    (m.test, m.closure, m.is)

pub returns-clause-one : goal.returns-clause-one
returns-clause-one g c u kind seed within M N S R m n i =
    let B = logic_of (g.U.Universe.symbols_of u) (g.U.Universe.is_local u Bottom) in
    let T = logic_of (g.U.Universe.symbols_of u) (g.U.Universe.is_local u Top) in
    let O : ℕ → Type 0 = λ i. IsTrue (g.U.Universe.is_live u i) × IsTrue (within i) in
    (λ t. kind_one B T seed O kind M N S R m n i t, λ t. kind_one B T seed O kind N M R S n m i t)

pub returns-clause-grows : goal.returns-clause-grows
returns-clause-grows g c u side seed more within wider M N S R bigger larger m n i t =
    grows {L = logic_of (g.U.Universe.symbols_of u) (g.U.Universe.is_local u side)} bigger (λ i o. (o.0, larger i o.1)) m n i t
