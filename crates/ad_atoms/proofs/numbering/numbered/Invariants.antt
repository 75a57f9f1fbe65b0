use Rattle.std.proofs.Common.{◌≡◌, length, take}
use Rattle.ad_tables.specs.Rows.{of_kind}
use Rattle.ad_decomposition.specs.Tables.{is_in_row_of}
use Rattle.ad_atoms.specs.Numbering.{AreAtomsOf}
use Rattle.ad_atoms.proofs.numbering.numbered.Given as goal

abbrev pub invariant-loop-slot : goal.invariant-loop-slot
invariant-loop-slot l = record {
  long : length l.atom_of.items ≡ length (of_kind l.rows l.kind);
  room : length l.members ≡ length (of_kind l.rows l.kind);
  numbered : AreAtomsOf (is_in_row_of l.rows l.kind) l.order (take l.slot-index l.order) (record {
    atom_of = l.atom_of.items;
    firsts = l.firsts.items;
    sizes = l.sizes.items;
    tautologies = l.tautologies;
  });
}
