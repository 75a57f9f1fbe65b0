-- The line tells the counts of the ontology.
use Rattle.std.proofs.Common.{◌∙◌, ap, length, subst}
use Rattle.ad_reply.specs.Bodies.{carried_count}
use Rattle.ad_syntax_laws.specs.OntologyModule.{logical}
use Rattle.ad_summary.specs.Lines.{axioms_line}
use Rattle.ad_summary.proofs.summary.put_axioms.Goals as goal

pub returns : goal.returns
returns g c =
    let ontology = c.args.edition.now.shown.axioms in
    subst (g.P.Pen.writes c.args.pen.now c.put_axioms_line.new.pen)
    (ap (λ axioms. axioms_line axioms c.carried_count.result c.from-entities.result) (c.from-axioms.ensures ∙ c.axiom_count.ensures.count)
    ∙ ap (λ carried. axioms_line (length (logical ontology)) carried c.from-entities.result) c.carried_count.ensures
    ∙ ap (axioms_line (length (logical ontology)) (carried_count ontology)) (c.from-entities.ensures ∙ c.entity_count.ensures.count))
    c.put_axioms_line.ensures
