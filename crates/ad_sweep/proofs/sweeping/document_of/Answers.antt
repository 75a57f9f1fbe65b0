use Rattle.std.proofs.Common.{◌≡◌, map, sym, subst, arith}
use Rattle.std.proofs.lemmas.List.{length-map}
use Rattle.std.proofs.lemmas.Result.{IfOk-weaker}
use Rattle.ad_base.specs.Kinds.{kind_of}
use Rattle.ad_theory.specs.Sweep.{chosen}
use Rattle.ad_names.specs.Names.{is_member}
use Rattle.ad_syntax_laws.specs.OntologyLogic.{seed_test}
use Rattle.ad_syntax_laws.specs.ModuleDocument.{IsModuleDocumentOf}
use Rattle.ad_syntax_laws.specs.OntologyModule.{axioms_of}
use Rattle.ad_sweep.specs.Swept.{IsSwept, AreMarkedToo}
use Rattle.ad_sweep.proofs.DocumentLemmas.{document_ends}
use Rattle.ad_sweep.proofs.sweeping.document_of.Goals as goal

pub returns-clause-document : goal.returns-clause-document
returns-clause-document g c =
    let O = map g.A.Lent.lent c.args.owners.now in
    let side = c.args.side in
    let seed = seed_test c.args.seed.now in
    let names = c.in_ok-swept.swept.names in
    let swept : IsSwept side seed O c.in_ok-swept.swept.marks.items (is_member names) = c.in_ok-swept.ensures.swept in
    let too : AreMarkedToo (is_member names) O c.in_ok-swept.swept.marks.items c.mark_carried.new.marks.items = c.mark_carried.ensures.too in
    IfOk-weaker c.marked.result
    (λ found. axioms_of found ≡ chosen c.mark_carried.new.marks.items O)
    (λ found. IsModuleDocumentOf (kind_of side) seed O (axioms_of found))
    (λ found chose. subst (λ l. IsModuleDocumentOf (kind_of side) seed O l) (sym chose)
    (document_ends side seed O c.in_ok-swept.swept.marks.items (is_member names) swept c.mark_carried.new.marks.items (omega (arith, c.mark_carried.ensures.long, length-map c.args.owners.now g.A.Lent.lent)) too))
    c.marked.ensures.axioms
