-- The table has one module more.
use Rattle.std.proofs.Common.{sym, subst}
use Rattle.ad_joined.specs.Searched.{IsSearchedRow}
use Rattle.ad_joined.specs.Wholes.{AreWholes}
use Rattle.ad_joined.proofs.AheadLemmas.{wholes_more}
use Rattle.ad_joined.proofs.ahead.keep.Goals as goal

pub returns-in_ok-whole-clause-wholes : goal.returns-in_ok-whole-clause-wholes
returns-in_ok-whole-clause-wholes c L live slots symbols searched are =
    let whole = c.in_ok-whole.whole in
    let slot = c.args.slot in
    let new : IsSearchedRow L live slots symbols slot whole.row whole.closure =
    subst (λ r. IsSearchedRow L live slots symbols slot r whole.closure) (sym c.in_ok-whole.ensures.row)
    (subst (λ k. IsSearchedRow L live slots symbols slot c.args.search.now.out k) (sym c.in_ok-whole.ensures.closure) searched) in
    subst (AreWholes L live slots symbols) (sym c.put_whole.ensures) (wholes_more L live slots symbols c.args.wholes.now.items slot whole are new)
