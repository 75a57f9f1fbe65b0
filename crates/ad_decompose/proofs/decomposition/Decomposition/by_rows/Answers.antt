-- The atoms of each kind are those of all kinds.
use Rattle.ad_decompose.proofs.EachKind.{each_kind}
use Rattle.ad_decompose.proofs.decomposition.Decomposition.by_rows.Goals as goal

pub of-requires-clause-rows : goal.of-requires-clause-rows
of-requires-clause-rows c = c.requires.rows _

pub returns-clause-atomic : goal.returns-clause-atomic
returns-clause-atomic c =
    each_kind (record { tables = c.args.rows; bottom = c.in_ok-bottom.bottom; top = c.in_ok-bottom.top; star = c.in_ok-star.star }) c.args.order.now
    c.in_ok-bottom.ensures.bottom c.in_ok-bottom.ensures.top c.in_ok-star.ensures
