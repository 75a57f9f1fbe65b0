-- The members of the seed below `from` were reached, and wait.
use Rattle.std.proofs.Common.{◌≡◌, ℕ, ◌<◌, ◌≤◌, ◌-◌, ◌↔◌, length, vec_capacity, IsTrue, IsFalse}
use Rattle.ad_bits.specs.Rows.{has}
use Rattle.ad_extract.specs.Waiting.{IsWaiting, settled}
use Rattle.ad_extract.proofs.waiting.begin.Given as goal

abbrev pub invariant-members : goal.invariant-members
invariant-members l = record {
  from : l.from ≤ length l.seed;
  waiting : IsWaiting l.pending.items l.reached;
  members : (s : ℕ) → IsTrue (has l.reached s) ↔ (IsTrue (has l.seed s) × (s < l.from));
  settled : (s : ℕ) → IsFalse (settled l.pending.items l.reached s);
  room : vec_capacity l.pending ≡ vec_capacity l.fn.pending;
  size : length l.reached ≡ length l.fn.reached;
}

abbrev pub decreases-members : goal.decreases-members
decreases-members l = length l.seed - l.from
