-- There are as many atoms as sizes.
use Rattle.std.proofs.Common.{◌∙◌, ap, length}
use Rattle.ad_tables.specs.Rows.{Numbered}
use Rattle.ad_reply.proofs.AtomLemmas.{atoms_counted}
use Rattle.ad_summary.proofs.counts.atom_count.Goals as goal

pub returns : goal.returns
returns c = c.from.ensures ∙ c.count.ensures ∙ ap (λ (atoms : Numbered). length atoms.firsts) c.atoms.ensures ∙ atoms_counted c.args.kind c.args.edition.now c.laws.ensures
