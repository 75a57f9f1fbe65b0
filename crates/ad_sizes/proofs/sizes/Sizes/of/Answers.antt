-- One place more; and with nothing above them the places make up the sizes.
use Rattle.std.proofs.Common.{◌≡◌, ℕ, ◌<◌, List, length, get_or, sym, ◌∙◌, ap, subst, arith}
use Rattle.std.proofs.lemmas.List.{length-map}
use Rattle.ad_tables.specs.Rows.{of_kind}
use Rattle.ad_sizes.specs.Places.{number_over, AreOver}
use Rattle.ad_sizes.specs.Sizes.{size_of, sizes_of}
use Rattle.ad_sizes.proofs.PlaceLemmas.{number_push, numbers_are, over_push}
use Rattle.ad_sizes.proofs.sizes.Sizes.of.Goals as goal

pub take_lowest-requires : goal.take_lowest-requires
take_lowest-requires c = omega (arith, c.places.invariant.long, length-map (of_kind c.args.rows.now c.args.kind) size_of, c.slots-slots.ensures c.args.kind)

pub places-preserved : goal.places-preserved
places-preserved c =
    let sizes : List ℕ = sizes_of c.args.rows.now c.args.kind in
    let old = c.places.left.items in
    let new = c.take_lowest.new.numbers.items in
    let places = c.places.lacking.items in
    let row = c.in_ok-take_lowest.field-0 in
    let more = c.in_ok-push.ensures.items in
    let size = c.take_lowest.ensures.size in
    record {
      long = size ∙ c.places.invariant.long;
      numbers = λ k l.
          let within : k < length old = omega arith in
          ap (λ ps. number_over (get_or new k 0) ps k) more
          ∙ number_push places row (get_or new k 0) k
          ∙ ap (λ n. number_over n places k) (sym (c.in_ok-take_lowest.ensures.taken k within))
          ∙ c.places.invariant.numbers k within;
      below = λ k l.
          let within : k < length old = omega arith in
          omega (arith, c.in_ok-take_lowest.ensures.taken k within, c.places.invariant.below k within);
      over = subst (AreOver (length new)) (sym more) (over_push (length new) places row (λ k l. c.places.invariant.over k l ∙ sym size) (c.in_ok-take_lowest.ensures.row ∙ sym size));
    }

pub returns : goal.returns
returns c =
    let sizes : List ℕ = sizes_of c.args.rows.now c.args.kind in
    let long : length sizes ≡ c.slots-slots.result = omega (arith, length-map (of_kind c.args.rows.now c.args.kind) size_of, c.slots-slots.ensures c.args.kind) in
    let left = c.places.left.items in
    numbers_are c.slots-slots.result c.places.lacking.items sizes long (λ k l.
    let within : k < length left = omega (arith, c.places.invariant.long) in
    let none : get_or left k 0 ≡ 0 = omega (arith, c.places.invariant.below k within, c.places-test.false) in
    ap (λ n. number_over n c.places.lacking.items k) (sym none) ∙ c.places.invariant.numbers k within)
