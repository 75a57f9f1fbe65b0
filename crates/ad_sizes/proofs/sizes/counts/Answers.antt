-- One slot's size more.
use Rattle.std.proofs.Common.{ℕ, ◌<◌, [], ◌∷◌, ◌++◌, None, List, length, take, sym, ◌∙◌, ap, arith}
use Rattle.std.proofs.lemmas.List.{take_more, get_or-map, length-map}
use Rattle.ad_tables.specs.Rows.{of_kind}
use Rattle.ad_sizes.specs.Sizes.{size_of, sizes_of}
use Rattle.ad_sizes.proofs.sizes.counts.Goals as goal

pub loop-slot-preserved : goal.loop-slot-preserved
loop-slot-preserved c =
    let rows = of_kind c.args.rows.now c.args.kind in
    let sizes : List ℕ = sizes_of c.args.rows.now c.args.kind in
    let slot = c.loop-slot.slot in
    let count = c.slots-slots.ensures c.args.kind in
    let within : slot < length rows = omega (arith, c.loop-slot-test.true, count) in
    let within' : slot < length sizes = omega (arith, length-map rows size_of) in
    c.in_ok-push.ensures.items
    ∙ ap (λ xs. xs ++ c.size_at.result ∷ []) c.loop-slot.invariant
    ∙ ap (λ n. take slot sizes ++ n ∷ []) (c.size_at.ensures ∙ sym (get_or-map size_of rows slot None 0 within))
    ∙ sym (take_more sizes slot 0 within')
