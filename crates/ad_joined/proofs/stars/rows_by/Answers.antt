-- One more row is found.
use Rattle.std.proofs.Common.{◌≡◌, Bool, List, [], ◌∷◌, ◌++◌, Global, map, take, get_or, inl, inr, sym, subst, ap, ◌∙◌, arith, rules}
use Rattle.std.specs.Arc.{arc_value}
use Rattle.std.specs.List.{AllZip}
use Rattle.std.specs.declared.sync.Arc.{Arc}
use Rattle.std.proofs.lemmas.List.{take_more, map-append}
use Rattle.std.proofs.lemmas.Slice.Zip.{all_zipped_more}
use Rattle.ad_base.specs.declared.limits.Kind.TheVariants.{Star}
use Rattle.ad_base.specs.declared.limits.Side.TheVariants.{Bottom, Top}
use Rattle.ad_groups.specs.GenuineRows.{IsGenuineRow}
use Rattle.ad_theory.specs.Numbers.{logic_of}
use Rattle.ad_joined.specs.Searched.{IsSideRow}
use Rattle.ad_joined.proofs.CommonLemmas.{zip_at, zip_long}
use Rattle.ad_joined.proofs.stars.rows_by.Goals as goal

pub row_at-requires : goal.row_at-requires
row_at-requires g c =
    let long = zip_long _ c.args.slots.now (map (λ row. arc_value row) c.args.bottom.now) c.requires.bottom in
    omega (arith, long, c.loop-at-test.true)

pub row_at-requires-in-loop-at : goal.row_at-requires-in-loop-at
row_at-requires-in-loop-at g c =
    let long = zip_long _ c.args.slots.now (map (λ row. arc_value row) c.args.top.now) c.requires.top in
    omega (arith, long, c.loop-at-test.true)

pub row-requires-clause-bottom : goal.row-requires-clause-bottom
row-requires-clause-bottom g c =
    let u = c.args.universe.now in
    let R = IsSideRow (logic_of (g.U.Universe.symbols_of u) (g.U.Universe.is_local u Bottom)) (g.U.Universe.is_live u) (g.U.Universe.slot_count u) in
    subst (R (get_or c.args.slots.now c.loop-at.at 0)) (sym c.row_at.ensures) (zip_at R c.args.slots.now (map (λ row. arc_value row) c.args.bottom.now) c.loop-at.at 0 [] c.requires.bottom c.loop-at-test.true)

pub row-requires-clause-top : goal.row-requires-clause-top
row-requires-clause-top g c =
    let u = c.args.universe.now in
    let R = IsSideRow (logic_of (g.U.Universe.symbols_of u) (g.U.Universe.is_local u Top)) (g.U.Universe.is_live u) (g.U.Universe.slot_count u) in
    subst (R (get_or c.args.slots.now c.loop-at.at 0)) (sym c.row_at-in-loop-at.ensures) (zip_at R c.args.slots.now (map (λ row. arc_value row) c.args.top.now) c.loop-at.at 0 [] c.requires.top c.loop-at-test.true)

pub loop-at-preserved : goal.loop-at-preserved
loop-at-preserved g c =
    let u = c.args.universe.now in
    let slots = c.args.slots.now in
    let i = c.loop-at.at in
    let v = c.loop-at.invariant in
    let e = c.in_ok-row.ensures in
    let arc = c.in_ok-row.row in
    let slot = get_or slots i 0 in
    let R = IsGenuineRow (g.U.Universe.symbols_of u) (g.U.Universe.is_local u) (g.U.Universe.is_live u) (g.U.Universe.slot_count u) Star in
    let value = λ (row : Arc (List Bool) Global). arc_value row in
    let pushed : c.push.new.self.items ≡ c.loop-at.rows.items ++ arc ∷ [] = search rules in
    let rows : map value c.push.new.self.items ≡ map value c.loop-at.rows.items ++ value arc ∷ [] =
    ap (map value) pushed ∙ map-append value c.loop-at.rows.items (arc ∷ []) in
    record {
      found = subst (λ l. AllZip R l (map value c.push.new.self.items)) (sym (take_more slots i 0 c.loop-at-test.true))
          (subst (λ r. AllZip R (take i slots ++ slot ∷ []) r) (sym rows) (all_zipped_more R (take i slots) (map value c.loop-at.rows.items) slot (arc_value arc) v.found e.found));
      stars = e.stars;
      counted = omega (arith, e.counted, v.counted);
      runs = elim e.runs [
        | inl r ↦ omega (arith, r, v.runs)
        | inr s ↦ (let room = c.requires.fits in let before = v.runs in let test = c.loop-at-test.true in absurd (omega (arith, s.0, s.2, room, before, test)))
      ];
    }
