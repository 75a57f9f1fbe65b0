use Rattle.std.proofs.Common.{◌≡◌, ◌+◌, ◌++◌, drop, get_or, map, ap, ◌∙◌, arith}
use Rattle.std.proofs.lemmas.Grind.{common_steps}
use Rattle.ad_theory.specs.Sweep.{chosen}
use Rattle.ad_syntax_laws.specs.OntologyModule.{axioms_of}
use Rattle.ad_sweep.proofs.ChosenLemmas.{chosen_more}
use Rattle.ad_sweep.proofs.chosen.marked.Goals as goal

pub loop-k-preserved : goal.loop-k-preserved
loop-k-preserved g c =
    let mark : c.index-is_marked.result.now ≡ get_or c.args.marks.now.items c.loop-k.k c.index-is_marked.result.now = grind (arith, common_steps) in
    record {
      additions = c.in_ok-add.ensures.additions c.loop-k.invariant.additions;
      axioms =
          ap (λ l. l ++ chosen (drop (c.loop-k.k + 1) c.args.marks.now.items) (map g.A.Lent.lent (drop (c.loop-k.k + 1) c.args.owners.now))) c.in_ok-add.ensures.axioms
          ∙ chosen_more g.A.Lent.lent (axioms_of c.loop-k.found) c.args.marks.now.items c.args.owners.now c.loop-k.k c.index-is_marked.result.now c.index-owners-k.result c.noted.result.now (omega arith) (omega arith) mark c.index-owners-k.is c.noted.ensures
          ∙ c.loop-k.invariant.axioms;
    }
