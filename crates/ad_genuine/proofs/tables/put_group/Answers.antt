-- The slot gets a row of each kind.
use Rattle.std.proofs.Common.{◌≡◌, ◌<◌, Bool, List, [], length, slice_index_or, sym, subst, ap, ◌∙◌}
use Rattle.std.specs.Option.{option_map}
use Rattle.ad_base.specs.declared.limits.Kind.{Kind}
use Rattle.ad_base.specs.declared.limits.Kind.TheVariants.{Bottom, Top, Star}
use Rattle.ad_tables.specs.Rows.{Tables, of_kind, row_of, with_row}
use Rattle.ad_genuine.specs.Found.{rows_of_kind}
use Rattle.ad_genuine.proofs.TableLemmas.{with_each, row_of-with_each}
use Rattle.ad_genuine.proofs.tables.put_group.Goals as goal

pub share-requires : goal.share-requires
share-requires c = c.requires.group Bottom c.in-Some.group c.in-Some.is

pub share-requires-2 : goal.share-requires-2
share-requires-2 c = c.requires.group Top c.in-Some.group c.in-Some.is

pub share-requires-3 : goal.share-requires-3
share-requires-3 c = c.requires.group Star c.in-Some.group c.in-Some.is

pub put-requires-2 : goal.put-requires-2
put-requires-2 c = subst (λ (t : Tables). c.args.slot < length (of_kind t Top)) (sym c.put.ensures) (c.requires.slot Top)

pub put-requires-3 : goal.put-requires-3
put-requires-3 c =
    subst (λ (t : Tables). c.args.slot < length (of_kind t Star)) (sym c.put-2.ensures)
    (subst (λ (t : Tables). c.args.slot < length (of_kind t Star)) (sym c.put.ensures) (c.requires.slot Star))

pub returns-clause-here : goal.returns-clause-here
returns-clause-here c = λ kind.
    let old = c.args.rows.now in
    let slot = c.args.slot in
    let rows : Kind → List Bool = λ k. slice_index_or (rows_of_kind c.args.found.now k) c.in-Some.group [] in
    let first : c.put.new.self ≡ with_row old Bottom slot (rows Bottom) = c.put.ensures ∙ ap (with_row old Bottom slot) c.in_ok-share.ensures in
    let second : c.put-2.new.self ≡ with_row (with_row old Bottom slot (rows Bottom)) Top slot (rows Top) =
    c.put-2.ensures ∙ ap (with_row c.put.new.self Top slot) c.in_ok-share-2.ensures ∙ ap (λ (t : Tables). with_row t Top slot (rows Top)) first in
    let third : c.put-3.new.self ≡ with_each old slot rows =
    c.put-3.ensures ∙ ap (with_row c.put-2.new.self Star slot) c.in_ok-share-3.ensures ∙ ap (λ (t : Tables). with_row t Star slot (rows Star)) second in
    ap (λ (t : Tables). row_of t kind slot) third ∙ row_of-with_each old slot rows c.requires.slot kind
    ∙ sym (ap (option_map (λ g. slice_index_or (rows_of_kind c.args.found.now kind) g [])) c.in-Some.is)
