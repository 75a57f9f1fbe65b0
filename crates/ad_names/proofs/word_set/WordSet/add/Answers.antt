use Rattle.std.proofs.Common.{◌≡◌, ℕ, List, true, cond, sym, ap, ◌∙◌, subst}
use Rattle.std.specs.List.{list_any}
use Rattle.std.specs.FinSet.{insert}
use Rattle.ad_base.specs.Words.{same_text}
use Rattle.ad_names.proofs.WordSetLemmas.{words_more, words_with}
use Rattle.ad_names.proofs.word_set.WordSet.add.Goals as goal

pub returns-in_ok-insert-clause-ok : goal.returns-in_ok-insert-clause-ok
returns-in_ok-insert-clause-ok c =
    words_more c.self.inside.words.keys c.insert.new.self.keys c.args.word.now
    (subst (λ k. (q : List ℕ) → list_any (same_text q) c.insert.new.self.keys ≡ cond (same_text k q) true (list_any (same_text q) c.self.inside.words.keys)) c.in_ok-copy.ensures c.in_ok-insert.ensures.updates.0)
    ∙ ap (λ s. insert s c.args.word.now) c.self.view_is

pub returns-else-not-contains-clause-ok : goal.returns-else-not-contains-clause-ok
returns-else-not-contains-clause-ok c =
    sym c.self.view_is
    ∙ words_with c.self.inside.words.keys c.args.word.now (sym c.contains.ensures ∙ c.if-not-contains.false)
    ∙ ap (λ s. insert s c.args.word.now) c.self.view_is
