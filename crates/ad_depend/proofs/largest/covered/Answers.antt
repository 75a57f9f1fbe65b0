-- What is met is the first of an atom, and in the row of no other one below; its row goes.
use Rattle.std.proofs.Common.{◌≡◌, ℕ, ◌<◌, Bool, Some, None, length, slice_index, refl, sym, ◌∙◌, ap, subst, arith}
use Rattle.ad_decomposition.specs.Tables.{is_in_row_of}
use Rattle.ad_depend.specs.Numbering.{IsLargestOf}
use Rattle.ad_depend.proofs.NumberingLemmas.{first_is, first_row, atom_of_first_is, only_one, ranked}
use Rattle.ad_depend.proofs.WalkLemmas.{fewer, walk_goes_on, walk_ends}
use Rattle.ad_depend.proofs.CoverLemmas.{has_covers}
use Rattle.ad_depend.proofs.largest.covered.Goals as goal

pub unreachable-requires : goal.unreachable-requires
unreachable-requires c =
    let given = c.requires.numbered in
    let m = c.in-Some.member in
    let first = ((c.requires.below m).0 (c.covers.invariant.walked.within m c.in-Some.ensures.some.0)).0 in
    let there : Some first.0 ≡ None = sym (atom_of_first_is c.args.rows.now c.args.kind given.0 c.args.atoms.now given.1 m first) ∙ sym c.atom_of.ensures ∙ c.in_default-atom_of.is in
    cc

pub take_away-requires : goal.take_away-requires
take_away-requires c =
    let given = c.requires.numbered in
    let m = c.in-Some.member in
    let first = ((c.requires.below m).0 (c.covers.invariant.walked.within m c.in-Some.ensures.some.0)).0 in
    let r = first_row c.args.rows.now c.args.kind given.0 c.args.atoms.now given.1 m first in
    (r.0, r.1, r.2 ∙ sym c.requires.left ∙ sym c.covers.invariant.left)

pub covers-smaller : goal.covers-smaller
covers-smaller c =
    let given = c.requires.numbered in
    let G : ℕ → ℕ → Bool = is_in_row_of c.args.rows.now c.args.kind in
    let m = c.in-Some.member in
    let a : ℕ = slice_index c.args.atoms.now.firsts c.args.atom in
    let h = first_is c.args.rows.now c.args.kind given.0 c.args.atoms.now given.1 a (c.args.atom, c.requires.atom, refl) in
    let order = ranked c.args.rows.now c.args.kind given.0 c.args.atoms.now given.1 a h c.args.left.now c.requires.below in
    fewer G c.covers.left c.take_away.new.left m c.in-Some.ensures.some.0 (order.own m (c.covers.invariant.walked.within m c.in-Some.ensures.some.0)) c.take_away.ensures.gone

pub covers-preserved : goal.covers-preserved
covers-preserved c =
    let given = c.requires.numbered in
    let tables = c.args.rows.now in
    let kind = c.args.kind in
    let atoms = c.args.atoms.now in
    let G : ℕ → ℕ → Bool = is_in_row_of tables kind in
    let m = c.in-Some.member in
    let cover = c.in-Some-atom_of.cover in
    let a : ℕ = slice_index atoms.firsts c.args.atom in
    let h = first_is tables kind given.0 atoms given.1 a (c.args.atom, c.requires.atom, refl) in
    let order = ranked tables kind given.0 atoms given.1 a h c.args.left.now c.requires.below in
    let first = ((c.requires.below m).0 (c.covers.invariant.walked.within m c.in-Some.ensures.some.0)).0 in
    let there : Some cover ≡ Some first.0 = sym c.in-Some-atom_of.is ∙ c.atom_of.ensures ∙ atom_of_first_is tables kind given.0 atoms given.1 m first in
    let same : cover ≡ first.0 = cc in
    let within : cover < length atoms.firsts = omega (arith, first.1, same) in
    let is : slice_index atoms.firsts cover ≡ m = ap (slice_index atoms.firsts) same ∙ first.2 in
    let largest = subst (λ sizes. IsLargestOf (slice_index sizes) c.covers.left m) c.requires.sizes c.in-Some.ensures.some in
    record {
      left = c.take_away.ensures.size ∙ c.covers.invariant.left;
      room = c.next_largest.ensures.size ∙ c.covers.invariant.room;
      size = c.set.ensures.size ∙ c.covers.invariant.size;
      walked = walk_goes_on G atoms.firsts c.args.left.now _ order c.covers.left c.covers.row c.covers.invariant.walked m largest c.take_away.new.left c.set.new.self c.take_away.ensures.gone
          cover within is (λ j l e. only_one tables kind given.0 atoms given.1 cover j within l (e ∙ sym is)) c.set.ensures.member c.set.ensures.others;
    }

pub returns-clause-covers : goal.returns-clause-covers
returns-clause-covers c = λ order are.
    has_covers c.args.rows.now c.args.kind order c.args.atoms.now are c.args.atom c.requires.atom c.args.left.now c.covers.row c.requires.below
    (walk_ends (is_in_row_of c.args.rows.now c.args.kind) c.args.atoms.now.firsts c.args.left.now c.covers.left c.covers.row c.covers.invariant.walked c.in_default.ensures.none)
