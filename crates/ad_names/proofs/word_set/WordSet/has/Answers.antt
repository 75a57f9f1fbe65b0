use Rattle.std.proofs.Common.{sym, ap, ◌∙◌}
use Rattle.std.specs.FinSet.{contains}
use Rattle.ad_names.proofs.WordSetLemmas.{contains_words}
use Rattle.ad_names.proofs.word_set.WordSet.has.Goals as goal

pub returns : goal.returns
returns c = c.contains.ensures ∙ sym (contains_words c.self.inside.words.keys c.args.word.now) ∙ ap (λ s. contains s c.args.word.now) c.self.view_is
