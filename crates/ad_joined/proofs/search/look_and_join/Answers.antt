-- The joined module is that of an axiom that is needed, so it is a part of the one that is searched for.
use Rattle.std.proofs.Common.{◌<◌, IsTrue, inl, inr}
use Rattle.ad_bits.specs.Rows.{has, member_count}
use Rattle.ad_bits.proofs.Rows.{member_count-outside}
use Rattle.ad_theory.specs.Numbers.{logic_of}
use Rattle.ad_joined.proofs.Joins.{needed_has, gathered_joins, joined_rest, union_also, moved_more}
use Rattle.ad_joined.proofs.search.look_and_join.Goals as goal

pub returns-in-Some-clause-gathered : goal.returns-in-Some-clause-gathered
returns-in-Some-clause-gathered g c seed w =
    let u = c.args.universe.now in
    let L = logic_of (g.U.Universe.symbols_of u) (g.U.Universe.is_local u c.args.side) in
    let j = c.in-Some.ensures.joinable in
    gathered_joins L (g.met.U.Universe.antitone u c.args.side) (c.look_at_each.ensures.gathered seed w) j.slot j.is_live j.needed j.searched.searched
    (union_also c.look_at_each.new.out c.in-Some.whole.now.row c.join.new.out c.join.ensures.out) c.join.ensures.also

pub returns-in-Some-clause-rest : goal.returns-in-Some-clause-rest
returns-in-Some-clause-rest g c =
    let u = c.args.universe.now in
    let L = logic_of (g.U.Universe.symbols_of u) (g.U.Universe.is_local u c.args.side) in
    let j = c.in-Some.ensures.joinable in
    joined_rest L (g.met.U.Universe.antitone u c.args.side) j.searched.searched
    (λ b t. (union_also c.look_at_each.new.out c.in-Some.whole.now.row c.join.new.out c.join.ensures.out b).1 (inr t)) c.join.ensures.settled

pub returns-in-Some-clause-moved : goal.returns-in-Some-clause-moved
returns-in-Some-clause-moved g c =
    let u = c.args.universe.now in
    let L = logic_of (g.U.Universe.symbols_of u) (g.U.Universe.is_local u c.args.side) in
    let j = c.in-Some.ensures.joinable in
    let both = union_also c.look_at_each.new.out c.in-Some.whole.now.row c.join.new.out c.join.ensures.out in
    let in_whole : IsTrue (has c.in-Some.whole.now.row j.slot) =
    needed_has L (g.met.U.Universe.antitone u c.args.side) j.slot (has c.look_at_each.new.reached) j.searched.searched j.is_live j.needed in
    let more : member_count c.look_at_each.new.out < member_count c.join.new.out =
    member_count-outside c.look_at_each.new.out c.join.new.out j.slot (λ i t. (both i).1 (inl t)) j.new ((both j.slot).1 (inr in_whole)) in
    moved_more c.args.out.now c.look_at_each.new.out c.join.new.out c.args.pending.now.items c.look_at_each.new.pending.items c.join.new.pending.items
    c.look_at_each.ensures.moved (inl more)
