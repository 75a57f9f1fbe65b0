use Rattle.std.proofs.Common.{◌≡◌, ◌++◌, length, sym, ap, ◌∙◌, subst, arith}
use Rattle.ad_signature.specs.Numbering.{number_in, count}
use Rattle.ad_signature.proofs.SpareLemmas.{IsKept}
use Rattle.ad_signature.proofs.symbols.Symbols.copy.Goals as goal

pub invariant_of-result : goal.invariant_of-result
invariant_of-result c =
    let self = c.args.self.now in
    let names = c.in_ok-copy.field-0 in
    let free : c.extend_from_slice.new.self.items ≡ self.free.items =
    c.in_ok-extend_from_slice.ensures.items ∙ ap (λ l. l ++ c.deref.result.now) c.in_ok-free.ensures.items ∙ c.deref.ensures.value in
    let kept : IsKept (number_in self.names) self.free.items self.next =
    record { below = self.below; one_to_one = self.one_to_one; free_below = self.free_below; free_unused = self.free_unused; free_distinct = self.free_distinct } in
    let after : IsKept (number_in names) c.extend_from_slice.new.self.items self.next =
    subst (λ l. IsKept (number_in names) l self.next) (sym free) (subst (λ m. IsKept (number_in m) self.free.items self.next) (sym c.in_ok-copy.ensures) kept) in
    record {
      counted = omega (arith, self.counted, ap count c.in_ok-copy.ensures, ap length free);
      within = self.within;
      below = after.below;
      one_to_one = after.one_to_one;
      free_below = after.free_below;
      free_unused = after.free_unused;
      free_distinct = after.free_distinct;
      room = omega (arith, c.in_ok-free.ensures.capacity, c.in_ok-extend_from_slice.ensures.capacity);
    }
