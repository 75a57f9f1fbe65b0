use Rattle.std.proofs.Common.{sym, subst, arith}
use Rattle.ad_signature.specs.Numbering.{number_in, count}
use Rattle.ad_signature.specs.Spare.{IsTaken}
use Rattle.ad_signature.proofs.SpareLemmas.{IsKept, given, given_below, was_unused, counted_given, within_given, next_given}
use Rattle.ad_signature.proofs.symbols.Symbols.give.Goals as goal

pub invariant_of-self-2 : goal.invariant_of-self-2
invariant_of-self-2 c =
    let self = c.args.self.now in
    let n = c.peek-number.result in
    let free' = c.take-self.new.free.items in
    let next' = c.take-self.result in
    let taken : IsTaken self.free.items self.next n free' next' =
    subst (λ l. IsTaken l self.next n free' next') c.in_ok-reserve.ensures.items (subst (λ z. IsTaken c.reserve.new.self.items self.next z free' next') (sym c.peek-number.ensures) c.take-self.ensures.taken) in
    let kept : IsKept (number_in self.names) self.free.items self.next =
    record { below = self.below; one_to_one = self.one_to_one; free_below = self.free_below; free_unused = self.free_unused; free_distinct = self.free_distinct } in
    let after = given (number_in self.names) (number_in c.insert.new.self) c.args.entity.now n c.in_ok-insert.ensures.ok self.free.items free' self.next next' kept taken in
    record {
      counted = counted_given (count self.names) (count c.insert.new.self) n self.next next' self.free.items free' taken self.counted c.in_ok-insert.ensures.count;
      within = within_given (count self.names) n self.next next' self.limit self.free.items free' taken self.counted c.requires.room self.within;
      below = after.below;
      one_to_one = after.one_to_one;
      free_below = after.free_below;
      free_unused = after.free_unused;
      free_distinct = after.free_distinct;
      room = omega (arith, next_given n self.next next' self.free.items free' taken, c.take-self.ensures.room, c.in_ok-reserve.ensures.ok, c.in_ok-reserve.ensures.len, c.len.ensures);
    }

pub returns-clause-given : goal.returns-clause-given
returns-clause-given c =
    let self = c.args.self.now in
    let n = c.peek-number.result in
    let free' = c.take-self.new.free.items in
    let next' = c.take-self.result in
    let taken : IsTaken self.free.items self.next n free' next' =
    subst (λ l. IsTaken l self.next n free' next') c.in_ok-reserve.ensures.items (subst (λ z. IsTaken c.reserve.new.self.items self.next z free' next') (sym c.peek-number.ensures) c.take-self.ensures.taken) in
    let kept : IsKept (number_in self.names) self.free.items self.next =
    record { below = self.below; one_to_one = self.one_to_one; free_below = self.free_below; free_unused = self.free_unused; free_distinct = self.free_distinct } in
    record {
      below = given_below (number_in self.names) self.free.items free' n self.next next' self.limit (count self.names) kept taken self.counted c.requires.room self.within;
      unused = was_unused (number_in self.names) (number_in c.insert.new.self) c.args.entity.now n c.in_ok-insert.ensures.ok self.free.items free' self.next next' kept taken;
      names = c.in_ok-insert.ensures.ok;
      counted = c.in_ok-insert.ensures.count;
    }
