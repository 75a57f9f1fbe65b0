use Rattle.std.proofs.Common.{◌≡◌, None, ◌∷◌, [], ◌++◌, ap, ◌∙◌}
use Rattle.std.specs.Map.{lookup}
use Rattle.ad_base.specs.Words.{same_text}
use Rattle.indexmap.proofs.CallerLemmas.{insert_entry-new}
use Rattle.ad_signature.proofs.kind_numbers.KindNumbers.insert.Goals as goal

pub returns-clause-ok : goal.returns-clause-ok
returns-clause-ok c =
    let absent : lookup (same_text c.in_ok-copy.copy) c.self.inside.map.entries ≡ None =
    ap (λ k. lookup (same_text k) c.self.inside.map.entries) c.in_ok-copy.ensures ∙ ap (lookup (same_text c.args.name.now)) c.self.view_is ∙ c.requires in
    c.in_ok-insert.ensures.entries
    ∙ insert_entry-new same_text c.self.inside.map c.in_ok-copy.copy c.args.number absent
    ∙ ap (λ es. es ++ (c.in_ok-copy.copy, c.args.number) ∷ []) c.self.view_is
    ∙ ap (λ k. c.args.self.now ++ (k, c.args.number) ∷ []) c.in_ok-copy.ensures
