-- Of the slots below this one the live ones are members, and no others.
use Rattle.std.proofs.Common.{◌≡◌, ℕ, ◌<◌, ◌≤◌, length, IsFalse}
use Rattle.ad_bits.specs.Rows.{has}
use Rattle.ad_genuine.proofs.live.live_slots.Given as goal

abbrev pub invariant-loop-slot : goal.invariant-loop-slot
invariant-loop-slot g l = record {
  size : length l.row ≡ g.U.Universe.slot_count l.universe;
  done : (i : ℕ) → i < l.slot → has l.row i ≡ g.U.Universe.is_live l.universe i;
  rest : (i : ℕ) → l.slot ≤ i → IsFalse (has l.row i);
}
