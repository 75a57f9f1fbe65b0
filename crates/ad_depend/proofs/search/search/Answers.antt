-- One atom more has its row, and what is below it is no top.
use Rattle.std.proofs.Common.{◌≡◌, ℕ, ◌<◌, Bool, false, length, slice_index, length-append, refl, sym, ◌∙◌, ap, arith}
use Rattle.std.proofs.lemmas.List.{length-replicate}
use Rattle.ad_decomposition.specs.Tables.{is_in_row_of}
use Rattle.ad_depend.specs.Numbering.{HasCovers}
use Rattle.ad_depend.proofs.RowLemmas.{below_push}
use Rattle.ad_depend.proofs.NumberingLemmas.{first_row, first_below}
use Rattle.ad_depend.proofs.CoverLemmas.{tops_more, tops_are}
use Rattle.ad_depend.proofs.search.search.Goals as goal

pub loop-atom-init : goal.loop-atom-init
loop-atom-init c = record {
  left = omega (arith, ap length c.in_ok-left.ensures, length-replicate c.slots.result false, c.slots.ensures c.args.kind);
  room = omega (arith, ap length c.in_ok-largest.ensures, length-replicate c.slots-2.result false, c.slots-2.ensures c.args.kind);
  tops = c.requires.size;
  count = ap length c.in_ok-found.ensures.items;
  sizes = λ i l. absurd (omega (arith, l));
  covers = λ order are i l. absurd (omega (arith, l));
  above = λ order are b. (λ t. ((c.requires.tops b).0 t, λ i l. absurd (omega (arith, l))), λ h. (c.requires.tops b).1 h.0);
}

pub find_below-requires-clause-row : goal.find_below-requires-clause-row
find_below-requires-clause-row c =
    let given = c.requires.numbered in
    let within : c.loop-atom.atom < length c.args.atoms.now.firsts = omega (arith, c.loop-atom-test.true, c.count-atom-end.ensures) in
    let r = first_row c.args.rows.now c.args.kind given.0 c.args.atoms.now given.1 (slice_index c.args.atoms.now.firsts c.loop-atom.atom) (c.loop-atom.atom, within, refl) in
    (r.0, r.1, r.2 ∙ sym c.requires.others)

pub find_below-requires-clause-within : goal.find_below-requires-clause-within
find_below-requires-clause-within c =
    let given = c.requires.numbered in
    let within : c.loop-atom.atom < length c.args.atoms.now.firsts = omega (arith, c.loop-atom-test.true, c.count-atom-end.ensures) in
    omega (arith, first_below c.args.rows.now c.args.kind given.0 c.args.atoms.now given.1 c.loop-atom.atom within, c.requires.others)

pub loop-atom-preserved : goal.loop-atom-preserved
loop-atom-preserved c =
    let G : ℕ → ℕ → Bool = is_in_row_of c.args.rows.now c.args.kind in
    let firsts = c.args.atoms.now.firsts in
    let at = c.loop-atom.atom in
    let within : at < length firsts = omega (arith, c.loop-atom-test.true, c.count-atom-end.ensures) in
    let before = c.loop-atom.found.items in
    let after = c.push.new.self.items in
    let row = c.in_ok-row.row in
    let push = c.in_ok-push.ensures.items in
    let inv = c.loop-atom.invariant in
    record {
      left = c.covered.ensures.left ∙ c.find_below.ensures.size ∙ inv.left;
      room = c.covered.ensures.room ∙ inv.room;
      tops = c.minus_with.ensures.size ∙ inv.tops;
      count = omega (arith, simp length-append at (ap length push), inv.count);
      sizes = below_push (λ i r. length r ≡ length firsts) before after row at inv.count push inv.sizes c.in_ok-row.ensures.size;
      covers = λ order are. below_push (HasCovers G order) before after row at inv.count push (inv.covers order are) (c.in_ok-row.ensures.covers order are);
      above = λ order are. tops_more c.args.rows.now c.args.kind order c.args.atoms.now are at within c.loop-atom.tops c.find_below.new.left c.minus_with.new.self c.find_below.ensures.below c.minus_with.ensures.members (inv.above order are);
    }

pub returns-clause-tops : goal.returns-clause-tops
returns-clause-tops c = λ order are.
    let all : c.loop-atom.atom ≡ length c.args.atoms.now.firsts = omega (arith, c.loop-atom-test.false, c.loop-atom.auto.atom-end, c.count-atom-end.ensures) in
    tops_are c.args.rows.now c.args.kind order c.args.atoms.now are c.loop-atom.atom all c.loop-atom.tops (c.loop-atom.invariant.above order are)
