use Rattle.ad_decomposition.proofs.Depends.{depends_member, member_depends}
use Rattle.ad_decomposition.proofs.laws.nested_depends.Goals as goal

pub returns : goal.returns
returns g c G order a b nest o q t = (λ s. depends_member G order nest a b q t s, λ s. member_depends G order nest a b o s)
