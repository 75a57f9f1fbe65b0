-- The axioms that were gone through have their atoms.
use Rattle.std.proofs.Common.{◌+◌, ◌<◌, [], ◌∷◌, ◌++◌, is_some, cond, Some, None, length, get_or, take, sym, ◌∙◌, ap, arith}
use Rattle.std.proofs.lemmas.List.{take_more, take_all, length-take}
use Rattle.std.proofs.lemmas.List.Elements.{Contains-get_or}
use Rattle.ad_tables.specs.Rows.{Numbered}
use Rattle.ad_decomposition.specs.Tables.{is_in_row_of}
use Rattle.ad_bits.specs.Rows.{has}
use Rattle.ad_atoms.specs.Numbering.{is_mutual}
use Rattle.ad_atoms.proofs.Counts.{sum_same}
use Rattle.ad_atoms.proofs.RowLemmas.{row_size, is_in_has, entry_free}
use Rattle.ad_atoms.proofs.Steps.{with_tautology, with_first, atoms_as, all_done, length-firsts, tautologies-le, tautology_done, member_done, size_is, first_done}
use Rattle.ad_atoms.proofs.numbering.numbered.Goals as goal
use Rattle.ad_atoms.proofs.numbering.numbered.Goals.{then-not-has, else-not-has+then-is_none+in_ok-push+in_ok-push-2, else-not-has+else-is_none}

pub row_at-requires : goal.row_at-requires
row_at-requires c =
    let a = get_or c.args.order.now c.loop-slot.slot-index 0 in
    ap is_some (c.requires.rows.rows a (Contains-get_or c.args.order.now c.loop-slot.slot-index 0 c.loop-slot-test.true)).1

pub has-requires : goal.has-requires
has-requires c =
    let a = get_or c.args.order.now c.loop-slot.slot-index 0 in
    let listed = Contains-get_or c.args.order.now c.loop-slot.slot-index 0 c.loop-slot-test.true in
    let long = row_size c.args.rows.now c.args.kind a c.row_at.result.now c.row_at.ensures _ (c.requires.rows.rows a listed) in
    omega (arith, c.requires.rows.below a listed, long)

pub overflow_add-tautologies : goal.overflow_add-tautologies
overflow_add-tautologies c =
    let few = tautologies-le (is_in_row_of c.args.rows.now c.args.kind) c.args.order.now _ _ c.loop-slot.invariant.numbered in
    omega (arith, few, length-take c.loop-slot.slot-index c.args.order.now, c.requires.few)

pub overflow_cast-atom : goal.overflow_cast-atom
overflow_cast-atom c =
    let few = length-firsts (is_in_row_of c.args.rows.now c.args.kind) c.args.order.now _ _ c.loop-slot.invariant.numbered in
    omega (arith, few, length-take c.loop-slot.slot-index c.args.order.now, c.requires.few, c.len-atom.ensures)

pub find_same-requires-clause-listed : goal.find_same-requires-clause-listed
find_same-requires-clause-listed c = (c.args.order.now, Contains-get_or c.args.order.now c.loop-slot.slot-index 0 c.loop-slot-test.true, c.requires.rows, c.requires.nested)

pub find_same-requires-clause-own : goal.find_same-requires-clause-own
find_same-requires-clause-own c =
    let a = get_or c.args.order.now c.loop-slot.slot-index 0 in
    is_in_has c.args.rows.now c.args.kind a c.row_at.result.now c.row_at.ensures a ∙ sym c.has.ensures ∙ c.if-not-has.false

pub loop-slot-preserved : goal.loop-slot-preserved
loop-slot-preserved c =
    let G = is_in_row_of c.args.rows.now c.args.kind in
    let order = c.args.order.now in
    let i = c.loop-slot.slot-index in
    let a = get_or order i 0 in
    let done = take i order in
    let listed = Contains-get_or order i 0 c.loop-slot-test.true in
    let more = take_more order i 0 c.loop-slot-test.true in
    let old = c.loop-slot.invariant.numbered in
    let own = is_in_has c.args.rows.now c.args.kind a c.row_at.result.now c.row_at.ensures a ∙ sym c.has.ensures in
    let before : Numbered = record { atom_of = c.loop-slot.atom_of.items; firsts = c.loop-slot.firsts.items; sizes = c.loop-slot.sizes.items; tautologies = c.loop-slot.tautologies } in
    let after : Numbered = record { atom_of = c.if-not-has.atom_of.items; firsts = c.if-not-has.firsts.items; sizes = c.if-not-has.sizes.items; tautologies = c.if-not-has.tautologies } in
    let small : a < length c.loop-slot.atom_of.items = omega (arith, c.requires.rows.below a listed, c.loop-slot.invariant.long) in
    record {
      long = elim c.if-not-has.branch [
        | then-not-has w ↦ ap (λ v. length v.items) w.atom_of-is ∙ c.loop-slot.invariant.long
        | else-not-has+then-is_none+in_ok-push+in_ok-push-2 w ↦ ap (λ v. length v.items) w.atom_of-is ∙ w.gather-size.ensures.long ∙ c.loop-slot.invariant.long
        | else-not-has+else-is_none w ↦ ap (λ v. length v.items) w.atom_of-is ∙ c.loop-slot.invariant.long
      ];
      room = elim c.if-not-has.branch [
        | then-not-has w ↦ ap length w.members-is ∙ c.loop-slot.invariant.room
        | else-not-has+then-is_none+in_ok-push+in_ok-push-2 w ↦ ap length w.members-is ∙ w.find_same.ensures.size ∙ c.loop-slot.invariant.room
        | else-not-has+else-is_none w ↦ ap length w.members-is ∙ c.loop-slot.invariant.room
      ];
      numbered = elim c.if-not-has.branch [
        | then-not-has w ↦ atoms_as G order (done ++ a ∷ []) (take (i + 1) order) (with_tautology before) after more (ap (λ v. v.items) w.firsts-is) (ap (λ v. v.items) w.sizes-is) w.tautologies-is (ap (λ v. v.items) w.atom_of-is)
            (tautology_done G order done before a old (own ∙ w.if-not-has.true))
        | else-not-has+then-is_none+in_ok-push+in_ok-push-2 w ↦ (
            let t = own ∙ w.if-not-has.false in
            let free = entry_free c.loop-slot.atom_of.items a w.index.result.now w.is_none.result w.index.ensures small w.is_none.ensures ∙ w.if-is_none.true in
            let same = w.find_same.ensures.same in
            let size = w.gather-size.ensures.size ∙ sum_same (has w.find_same.new.members) (is_mutual G a) (λ _. 1) (length c.loop-slot.atom_of.items) same ∙ size_is G order c.requires.nested done before a old listed t free (length c.loop-slot.atom_of.items) c.requires.distinct (λ b k. omega (arith, c.requires.rows.below b k, c.loop-slot.invariant.long)) in
            atoms_as G order (done ++ a ∷ []) (take (i + 1) order) (with_first before w.gather-size.new.atom_of.items a w.gather-size.result) after more
            (ap (λ v. v.items) w.firsts-is ∙ w.in_ok-push.ensures.items) (ap (λ v. v.items) w.sizes-is ∙ w.in_ok-push-2.ensures.items) w.tautologies-is (ap (λ v. v.items) w.atom_of-is)
            (first_done G order c.requires.nested done before a old listed t free w.gather-size.new.atom_of.items w.gather-size.result w.len-atom.result (omega (arith, w.len-atom.ensures)) (λ b. w.gather-size.ensures.entries b ∙ ap (λ t. cond t (Some w.len-atom.result) (get_or c.loop-slot.atom_of.items b None)) (same b)) size)
            )
        | else-not-has+else-is_none w ↦ atoms_as G order (done ++ a ∷ []) (take (i + 1) order) before after more (ap (λ v. v.items) w.firsts-is) (ap (λ v. v.items) w.sizes-is) w.tautologies-is (ap (λ v. v.items) w.atom_of-is)
            (member_done G order done before a old listed (own ∙ w.if-not-has.false) (entry_free c.loop-slot.atom_of.items a w.index.result.now w.is_none.result w.index.ensures small w.is_none.ensures ∙ w.if-is_none.false))
      ];
    }

pub of-requires-clause-few : goal.of-requires-clause-few
of-requires-clause-few c =
    let few = length-firsts (is_in_row_of c.args.rows.now c.args.kind) c.args.order.now _ _ c.loop-slot.invariant.numbered in
    omega (arith, few, length-take c.loop-slot.slot-index c.args.order.now, c.requires.few)

pub returns : goal.returns
returns c = all_done (is_in_row_of c.args.rows.now c.args.kind) c.args.order.now _ _ c.of.result (sym (take_all c.loop-slot.slot-index c.args.order.now c.loop-slot-test.false)) c.of.ensures c.loop-slot.invariant.numbered
