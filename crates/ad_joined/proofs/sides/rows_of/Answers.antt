-- One more row is found.
use Rattle.std.proofs.Common.{◌≡◌, Bool, List, [], ◌∷◌, ◌++◌, Global, map, take, get_or, inl, inr, sym, subst, ap, ◌∙◌, arith, rules}
use Rattle.std.specs.Arc.{arc_value}
use Rattle.std.specs.List.{AllZip}
use Rattle.std.specs.declared.sync.Arc.{Arc}
use Rattle.std.proofs.lemmas.List.{take_more, map-append}
use Rattle.std.proofs.lemmas.Slice.Zip.{all_zipped_more}
use Rattle.ad_theory.specs.Numbers.{logic_of}
use Rattle.ad_joined.specs.Searched.{IsSideRow}
use Rattle.ad_joined.proofs.sides.rows_of.Goals as goal

pub loop-at-preserved : goal.loop-at-preserved
loop-at-preserved g c =
    let u = c.args.universe.now in
    let slots = c.args.slots.now in
    let i = c.loop-at.at in
    let v = c.loop-at.invariant in
    let arc = c.in_ok-row.row in
    let slot = get_or slots i 0 in
    let R = IsSideRow (logic_of (g.U.Universe.symbols_of u) (g.U.Universe.is_local u c.args.side)) (g.U.Universe.is_live u) (g.U.Universe.slot_count u) in
    let value = λ (row : Arc (List Bool) Global). arc_value row in
    let pushed : c.push.new.self.items ≡ c.loop-at.rows.items ++ arc ∷ [] = search rules in
    let rows : map value c.push.new.self.items ≡ map value c.loop-at.rows.items ++ arc_value arc ∷ [] =
    ap (map value) pushed ∙ map-append value c.loop-at.rows.items (arc ∷ []) in
    record {
      ahead = c.in_ok-row.ensures.ahead;
      found = subst (λ l. AllZip R l (map value c.push.new.self.items)) (sym (take_more slots i 0 c.loop-at-test.true))
          (subst (λ r. AllZip R (take i slots ++ slot ∷ []) r) (sym rows) (all_zipped_more R (take i slots) (map value c.loop-at.rows.items) slot (arc_value arc) v.found c.in_ok-row.ensures.found));
      counted = omega (arith, c.in_ok-row.ensures.counted, v.counted, c.count_run.ensures.tests);
      runs = elim c.count_run.ensures.runs [
        | inl e ↦ (let more = c.in_ok-row.ensures.runs in omega (arith, e, more, v.runs))
        | inr s ↦ (let room = c.requires.fits in let before = v.runs in let more = c.in_ok-row.ensures.runs in let test = c.loop-at-test.true in absurd (omega (arith, s.0, s.2, more, room, before, test)))
      ];
    }
