use Rattle.std.proofs.Common.{◌∷◌, [], sym, ap, subst, arith, length-append, length}
use Rattle.ad_signature.specs.Numbering.{number_in}
use Rattle.ad_signature.proofs.SpareLemmas.{IsKept, released}
use Rattle.ad_signature.proofs.symbols.Symbols.release.Goals as goal

pub invariant_of-self-2 : goal.invariant_of-self-2
invariant_of-self-2 c =
    let self = c.args.self.now in
    let kept : IsKept (number_in self.names) self.free.items self.next =
    record { below = self.below; one_to_one = self.one_to_one; free_below = self.free_below; free_unused = self.free_unused; free_distinct = self.free_distinct } in
    let after : IsKept (number_in c.remove.new.self) c.push_reserved.new.self.items self.next = subst (λ l. IsKept (number_in c.remove.new.self) l self.next) (sym c.push_reserved.ensures.items)
    (released (number_in self.names) (number_in c.remove.new.self) c.args.entity.now c.in_ok-number.number self.free.items self.next (sym c.in_ok-number.ensures.value) c.in_ok-number.ensures.rest kept) in
    record {
      counted = omega (arith, self.counted, c.in_ok-number.ensures.count, ap length c.push_reserved.ensures.items, length-append self.free.items (c.in_ok-number.number ∷ []));
      within = self.within;
      below = after.below;
      one_to_one = after.one_to_one;
      free_below = after.free_below;
      free_unused = after.free_unused;
      free_distinct = after.free_distinct;
      room = omega (arith, self.room, c.push_reserved.ensures.capacity);
    }
