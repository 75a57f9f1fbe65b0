-- The atom is given exactly to the members, and they are counted.
use Rattle.std.proofs.Common.{arith}
use Rattle.ad_bits.specs.Rows.{has}
use Rattle.ad_bits.proofs.Rows.{within_size}
use Rattle.ad_atoms.proofs.Gathers.{sum_le, one_gathered, all_counted}
use Rattle.ad_atoms.proofs.numbering.gather.Goals as goal

pub overflow_add-size : goal.overflow_add-size
overflow_add-size c =
    let few = sum_le (has c.args.members.now) c.loop-slot.from in
    let within = within_size c.args.members.now c.in-Some.slot c.in-Some.ensures.some.member in
    omega (arith, c.loop-slot.invariant.gathered.counted, c.in-Some.ensures.some.at_or_above, c.requires.few, c.requires.members)

pub overflow_add-from : goal.overflow_add-from
overflow_add-from c =
    let within = within_size c.args.members.now c.in-Some.slot c.in-Some.ensures.some.member in
    omega (arith, c.requires.few, c.requires.members)

pub loop-slot-preserved : goal.loop-slot-preserved
loop-slot-preserved c =
    let row = c.args.members.now in
    let before = c.args.atom_of.now.items in
    let least = c.in-Some.ensures.some in
    let within = within_size row c.in-Some.slot least.member in
    record {
      within = omega arith;
      gathered = one_gathered (has row) before c.args.atom row c.requires.members (λ k t. t) c.loop-slot.from c.loop-slot.size c.in-Some.slot c.loop-slot.atom_of.items c.loop-slot.invariant.gathered least least.member;
    }

pub returns-clause-size : goal.returns-clause-size
returns-clause-size c = all_counted (has c.args.members.now) c.args.atom_of.now.items c.args.atom c.args.members.now c.requires.members (λ k t. t) c.loop-slot.from c.loop-slot.size c.loop-slot.atom_of.items c.loop-slot.invariant.gathered (omega (arith, c.requires.members)) c.in_default.ensures.none
