use Rattle.std.proofs.Common.{◌≡◌, IsFalse, get_or, map, true, sym, subst, ◌∙◌, arith}
use Rattle.std.proofs.lemmas.List.{length-map}
use Rattle.std.proofs.lemmas.Grind.{common_steps}
use Rattle.ad_locality.specs.Signature.{occurrences}
use Rattle.ad_theory.proofs.SweepLemmas.{takes, unmarked-set}
use Rattle.ad_syntax_laws.specs.OntologyLogic.{axiom_logic}
use Rattle.ad_syntax_laws.proofs.LocalityLemmas.{antitone}
use Rattle.std.specs.List.{fold}
use Rattle.ad_locality.specs.Locality.{local}
use Rattle.ad_names.specs.Names.{is_member, with_entity}
use Rattle.ad_sweep.proofs.SeenLemmas.{also_taken, noted_at}
use Rattle.ad_sweep.proofs.rounds.visit.Goals as goal

pub returns-clause-sweeping : goal.returns-clause-sweeping
returns-clause-sweeping g c seed stands =
    let O = map g.A.Lent.lent c.args.owners.now in
    let is : c.noted-noted.result.now ≡ g.A.Lent.lent c.index-owners-k.result = c.noted-noted.ensures in
    takes (axiom_logic c.args.side) seed (antitone c.args.side) O c.args.marks.now.items (is_member c.args.names.now) (is_member c.take_axiom.new.into) c.args.k (g.A.Lent.lent c.index-owners-k.result) stands
    (omega (arith, length-map c.args.owners.now g.A.Lent.lent, c.requires.within))
    (noted_at g.A.Lent.lent c.args.owners.now c.args.k c.index-owners-k.result c.index-owners-k.is)
    (subst (λ o. IsFalse (local c.args.side (is_member c.args.names.now) o.axiom)) is (sym c.is_settled.ensures ∙ c.if-is_settled.false))
    (also_taken c.args.names.now c.take_axiom.new.into (occurrences (g.A.Lent.lent c.index-owners-k.result).axiom)
    (subst (λ o. c.take_axiom.new.into ≡ fold with_entity c.args.names.now (occurrences o.axiom)) is c.in_ok-take_axiom.ensures))

pub returns-clause-fewer : goal.returns-clause-fewer
returns-clause-fewer g c = λ _.
    unmarked-set c.args.marks.now.items c.args.k (omega (arith, c.requires.within, c.requires.long))
    (let free : IsFalse (get_or c.args.marks.now.items c.args.k true) = grind (arith, common_steps) in free)
