use Rattle.std.proofs.Common.{sym, ◌∙◌, ap}
use Rattle.ad_grammar.specs.Texts.{iri_of}
use Rattle.ad_prefixes.specs.Declarations.{declarations}
use Rattle.ad_prefixes.proofs.Prefixed.{iri_looked, declared_first, standard_next}
use Rattle.ad_prefixes.proofs.prefixes.Prefixes.get.Goals as goal

pub returns-in-Some : goal.returns-in-Some
returns-in-Some c = sym (declared_first (declarations c.args.self.now) c.args.prefix.now c.in-Some.iri.now
    (ap (λ ds. iri_of (declarations ds) c.args.prefix.now) (sym c.self.view_is) ∙ iri_looked c.self.inside.declared.entries c.args.prefix.now ∙ sym c.in-Some.ensures.value))

pub returns-in-None : goal.returns-in-None
returns-in-None c = c.get-in-None.ensures ∙ sym (standard_next (declarations c.args.self.now) c.args.prefix.now
    (ap (λ ds. iri_of (declarations ds) c.args.prefix.now) (sym c.self.view_is) ∙ iri_looked c.self.inside.declared.entries c.args.prefix.now ∙ sym c.in-None.ensures.value))
