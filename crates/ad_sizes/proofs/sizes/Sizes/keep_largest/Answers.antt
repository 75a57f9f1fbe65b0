-- One place lower; and below the lowest the whole sizes count.
use Rattle.std.proofs.Common.{◌≡◌, ℕ, ◌-◌, ◌<◌, [], length, get_or, slice_index, drop, sym, ◌∙◌, ap, subst, arith}
use Rattle.std.proofs.lemmas.List.{get_or_read}
use Rattle.ad_bits.proofs.Rows.{within_size}
use Rattle.ad_sizes.specs.Places.{number_over}
use Rattle.ad_sizes.specs.Sizes.{AreLargest}
use Rattle.ad_sizes.proofs.PlaceLemmas.{length-numbers, number_at}
use Rattle.ad_sizes.proofs.LargestLemmas.{largest_as, one_place}
use Rattle.ad_sizes.proofs.sizes.Sizes.keep_largest.Goals as goal

pub keep_having-requires : goal.keep_having-requires
keep_having-requires c =
    let places = c.self.inside.lacking.items in
    let at : ℕ = c.places.place - 1 in
    let within : at < length places = omega (arith, c.places.invariant.within, c.places-test.true) in
    let read = get_or_read places at c.index.result.now within c.index.ensures [] in
    omega (arith, c.places.invariant.size, c.requires, ap length c.self.view_is, length-numbers c.self.inside.slots places, c.self.invariant at within, ap length read)

pub places-preserved : goal.places-preserved
places-preserved c =
    let places = c.self.inside.lacking.items in
    let at : ℕ = c.places.place - 1 in
    let within : at < length places = omega (arith, c.places.invariant.within, c.places-test.true) in
    let read = get_or_read places at c.index.result.now within c.index.ensures [] in
    record {
      within = omega arith;
      size = c.keep_having.ensures.size ∙ c.places.invariant.size;
      largest = one_place places at c.places.place c.index.result.now c.args.members.now c.places.members c.keep_having.new.members (omega arith) read within c.places.invariant.largest c.keep_having.ensures.having;
    }

pub returns-clause-largest : goal.returns-clause-largest
returns-clause-largest c =
    let places = c.self.inside.lacking.items in
    let slots = c.self.inside.slots in
    let lowest : c.places.place ≡ 0 = omega (arith, c.places-test.false) in
    largest_as (number_over 0 places) (slice_index c.args.self.now) c.args.members.now c.places.members
    (λ i t.
    let within : i < slots = omega (arith, within_size c.args.members.now i t, c.requires, ap length c.self.view_is, length-numbers slots places) in
    sym (number_at slots places i 0 within) ∙ ap (λ xs. get_or xs i 0) c.self.view_is)
    (subst (λ n. AreLargest (number_over 0 (drop n places)) c.args.members.now c.places.members) lowest c.places.invariant.largest)
