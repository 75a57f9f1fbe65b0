use Rattle.std.proofs.Common.{inl, inr, false, arith, ap, eqb, ◌*◌}
use Rattle.std.proofs.lemmas.Bool.{cases_lt}
use Rattle.std.proofs.lemmas.List.{get_or_past}
use Rattle.std.proofs.lemmas.Nat.Bits.{bit_at-zero}
use Rattle.ad_bits.proofs.Bits.{bit_in_changed}
use Rattle.ad_bits.proofs.lanes.clear_words.Goals as goal

pub returns : goal.returns
returns c =
    let old = c.args.words.now in
    bit_in_changed (λ _ _. 0) (λ _ _. false) c.lanes.words old old
    (λ k. elim (cases_lt k (4 * c.lanes.lane)) [ inl within ↦ c.lanes.invariant.done k within | inr past ↦ get_or_past c.lanes.words k 0 (omega arith) ])
    (λ k j within. ap (λ n. eqb n 1) (bit_at-zero j))
