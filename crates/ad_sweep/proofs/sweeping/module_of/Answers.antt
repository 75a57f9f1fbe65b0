use Rattle.std.proofs.Common.{◌≡◌, map, sym, subst}
use Rattle.std.proofs.lemmas.Result.{IfOk-weaker}
use Rattle.ad_base.specs.Kinds.{kind_of}
use Rattle.ad_theory.specs.Sweep.{chosen}
use Rattle.ad_names.specs.Names.{is_member}
use Rattle.ad_syntax_laws.specs.OntologyLogic.{seed_test}
use Rattle.ad_syntax_laws.specs.OntologyModule.{axioms_of, IsModuleOf}
use Rattle.ad_sweep.proofs.ChosenLemmas.{chosen_is_module}
use Rattle.ad_sweep.proofs.sweeping.module_of.Goals as goal

pub returns-clause-module : goal.returns-clause-module
returns-clause-module g c =
    let O = map g.A.Lent.lent c.args.owners.now in
    let swept = c.in_ok-swept.swept in
    IfOk-weaker c.marked.result
    (λ found. axioms_of found ≡ chosen swept.marks.items O)
    (λ found. IsModuleOf (kind_of c.args.side) (seed_test c.args.seed.now) O (axioms_of found))
    (λ found chose. subst (λ l. IsModuleOf (kind_of c.args.side) (seed_test c.args.seed.now) O l) (sym chose)
    (chosen_is_module c.args.side (seed_test c.args.seed.now) O swept.marks.items (is_member swept.names) c.in_ok-swept.ensures.swept))
    c.marked.ensures.axioms
