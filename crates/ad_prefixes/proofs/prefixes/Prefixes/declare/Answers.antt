use Rattle.std.proofs.Common.{◌≡◌, ◌∷◌, ◌++◌, [], not, is_some, map, sym, ◌∙◌, ap}
use Rattle.ad_grammar.specs.Texts.{iri_of}
use Rattle.ad_prefixes.specs.Declarations.{declarations}
use Rattle.ad_prefixes.proofs.Prefixed.{iri_looked, declared_last, is_none}
use Rattle.ad_prefixes.proofs.prefixes.Prefixes.declare.Goals as goal

pub returns-then-contains_key-clause-fresh : goal.returns-then-contains_key-clause-fresh
returns-then-contains_key-clause-fresh c = ap not (sym c.if-contains_key.true ∙ c.contains_key.ensures
    ∙ ap is_some (sym (ap (λ ds. iri_of (declarations ds) c.args.prefix.now) (sym c.self.view_is) ∙ iri_looked c.self.inside.declared.entries c.args.prefix.now)))

pub returns-clause-fresh : goal.returns-clause-fresh
returns-clause-fresh c = ap not (sym c.if-contains_key.false ∙ c.contains_key.ensures
    ∙ ap is_some (sym (ap (λ ds. iri_of (declarations ds) c.args.prefix.now) (sym c.self.view_is) ∙ iri_looked c.self.inside.declared.entries c.args.prefix.now)))

pub returns-clause-declared : goal.returns-clause-declared
returns-clause-declared c =
    declared_last c.self.inside.declared c.in_ok-owned.owned c.args.iri c.args.prefix.now c.insert.new.self.entries c.in_ok-owned.ensures.ok
    (is_none _ (sym c.contains_key.ensures ∙ c.if-contains_key.false)) c.in_ok-insert.ensures.entries
    ∙ ap (λ ds. ds ++ (c.args.prefix.now, c.args.iri) ∷ []) c.self.view_is
