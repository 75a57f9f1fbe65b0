use Rattle.std.proofs.Common.{inl, inr, length, sym, ◌∙◌, arith}
use Rattle.std.proofs.lemmas.Bool.{cases_lt}
use Rattle.ad_bits.proofs.Rows.{same_rows, has_past}
use Rattle.ad_decomposition_tests.proofs.found.row_of.Goals as goal

pub returns : goal.returns
returns c =
    let members = c.args.members.now in
    same_rows c.loop-i.row members c.loop-i.invariant.size (λ k. elim (cases_lt k (length members)) [
      | inl below ↦ c.loop-i.invariant.below k (omega arith)
      | inr above ↦ has_past c.loop-i.row k (omega arith) ∙ sym (has_past members k above)
    ])
