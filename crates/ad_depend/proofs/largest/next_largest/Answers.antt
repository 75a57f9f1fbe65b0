-- The least of those that are the largest is one of them.
use Rattle.std.proofs.Common.{ℕ, Option, Some, None, slice_index}
use Rattle.std.specs.Prelude.{IfSome}
use Rattle.ad_bits.specs.Rows.{IsLeastFrom}
use Rattle.ad_depend.specs.Numbering.{IsLargestOf}
use Rattle.ad_depend.proofs.WalkLemmas.{largest_one}
use Rattle.ad_depend.proofs.largest.next_largest.Goals as goal

some_weaker : (found : Option ℕ) (P Q : ℕ → Type 0) → ((m : ℕ) → P m → Q m) → IfSome found P → IfSome found Q
some_weaker None P Q f h = tt
some_weaker (Some m) P Q f h = f m h

pub returns-clause-some : goal.returns-clause-some
returns-clause-some c =
    some_weaker c.next-2.result (IsLeastFrom c.keep_largest.new.members 0) (IsLargestOf (slice_index c.args.sizes.now) c.args.left.now)
    (λ m least. largest_one (slice_index c.args.sizes.now) c.args.left.now c.copy_from.new.self c.keep_largest.new.members c.copy_from.ensures c.keep_largest.ensures.largest m least.member)
    c.next-2.ensures.some
