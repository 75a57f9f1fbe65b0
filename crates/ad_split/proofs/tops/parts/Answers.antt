-- The row of the edition's covers tells the tops.
use Rattle.std.proofs.Common.{ap, ◌∙◌, length}
use Rattle.std.specs.List.{filter, range_with_len}
use Rattle.ad_bits.specs.Rows.{has}
use Rattle.ad_decompose.specs.Decomposed.{atomic_of}
use Rattle.ad_depend.specs.Covered.{Covered}
use Rattle.ad_tables.specs.Rows.{Numbered}
use Rattle.ad_split.proofs.EditionLemmas.{ok_same, parts_are, tops_in_row}
use Rattle.ad_split.proofs.tops.parts.Goals as goal

pub returns-clause-numbers : goal.returns-clause-numbers
returns-clause-numbers c =
    let edition = c.args.edition.now in
    ok_same _ _ c.tops_of.result (λ parts of_row.
    of_row ∙ ap (λ (covers : Covered). filter (has covers.tops) (range_with_len 0 c.count.result)) c.covers.ensures
    ∙ ap (λ n. filter (has (atomic_of edition.found c.args.kind).covers.tops) (range_with_len 0 n)) (c.count.ensures ∙ ap (λ (atoms : Numbered). length atoms.firsts) c.atoms.ensures)
    ∙ tops_in_row edition c.laws.ensures c.args.kind)
    c.tops_of.ensures

pub returns-clause-parts : goal.returns-clause-parts
returns-clause-parts c =
    ok_same _ _ c.tops_of.result (λ parts numbers. parts_are c.args.edition.now c.laws.ensures c.args.kind c.rows_are_genuine.ensures parts.items numbers) (returns-clause-numbers c)
