use Rattle.std.proofs.Common.{◌≡◌, Bool, List, [], Some, None, map, sym, ◌∙◌, arith}
use Rattle.std.proofs.lemmas.List.{same_lists, get_or-map, get_or_default, length-map}
use Rattle.ad_decomposition_tests.proofs.found.table.Goals as goal

pub returns : goal.returns
returns c =
    let modules = c.args.modules.now in
    let star = c.loop-slot.rows.star in
    let sizes = c.loop-slot.invariant.size ∙ sym (length-map modules (λ (row : List Bool). Some row)) in
    let same : star ≡ map Some modules = same_lists star (map Some modules) sizes (λ k d l.
    get_or_default star k d None l
    ∙ c.loop-slot.invariant.star k (omega (arith, c.loop-slot.invariant.size))
    ∙ sym (get_or-map (λ (row : List Bool). Some row) modules k [] d (omega (arith, c.loop-slot.invariant.size)))) in
    λ i. record { bottom = c.loop-slot.invariant.bottom i; top = c.loop-slot.invariant.top i; star = same i }
