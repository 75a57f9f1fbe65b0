use Rattle.std.proofs.Common.{◌≡◌, sym, subst, ap, ◌∙◌}
use Rattle.std.specs.List.{IsDistinct}
use Rattle.ad_entity.specs.Entities.{has_entity, same_entity}
use Rattle.ad_locality.specs.Signature.{occurrences}
use Rattle.ad_signature.specs.Firsts.{firsts}
use Rattle.ad_signature.proofs.FirstLemmas.{listed_all}
use Rattle.ad_signature.proofs.SignatureLemmas.{firsts_distinct, has_firsts}
use Rattle.ad_signature.proofs.listing.signature.Goals as goal

pub returns : goal.returns
returns c =
    let es = occurrences c.args.noted.now.axiom in
    let listed : c.take_axiom.new.into.list ≡ firsts es = listed_all _ c.take_axiom.new.into es c.new.ensures c.new-2.ensures c.in_ok-take_axiom.ensures in
    record {
      distinct = subst (λ l. IsDistinct same_entity l) (sym listed) (firsts_distinct es);
      members = λ e. ap (λ l. has_entity l e) listed ∙ has_firsts es e;
      order = listed;
    }
