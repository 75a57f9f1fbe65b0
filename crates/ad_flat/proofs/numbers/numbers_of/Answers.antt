use Rattle.std.proofs.Common.{sym, ap, subst, arith}
use Rattle.std.specs.Ordering.{nat_cmp}
use Rattle.std.specs.List.Sorted.{IsStrictlySortedBy}
use Rattle.ad_theory.specs.Numbers.{among}
use Rattle.ad_slots.proofs.ChangeLemmas.{nothing_rises}
use Rattle.ad_flat.proofs.numbers.numbers_of.Goals as goal

pub loop-entity-init : goal.loop-entity-init
loop-entity-init g c = record {
  rising = subst (λ xs. IsStrictlySortedBy nat_cmp xs) (sym c.in_ok-list.ensures.items) nothing_rises;
  members = λ n. ap (λ xs. among xs n) c.in_ok-list.ensures.items;
  len = omega (arith, c.in_ok-list.ensures.len);
  capacity = c.in_ok-list.ensures.capacity;
}
