-- An annotation is the compound of its annotations, its property and its value.
use Rattle.std.proofs.Common.{◌≡◌, ℕ, List, [], ◌∷◌, ◌++◌, map, sym, ap, ◌∙◌}
use Rattle.ad_tree.specs.declared.notes.Annotation.{Annotation}
use Rattle.ad_tree.specs.declared.notes.Annotation.TheViews.{out-Annotation}
use Rattle.ad_write.specs.Keywords as kw
use Rattle.ad_write.specs.Canonical.{compound, canon_annotation, canon_iri, canon_value}
use Rattle.ad_write.proofs.Equations.{canon_annotation-out}
use Rattle.ad_lines.proofs.Joining.{three, five}
use Rattle.ad_write.proofs.Texts.{closed_two, empty_if, behind_more_gap, later_more}
use Rattle.ad_write.proofs.notes.+annotation.Goals as goal

pub write_annotation-returns : goal.write_annotation-returns
write_annotation-returns g t c =
    let note = out-Annotation c.args.note.now in
    let notes = c.as_slice-notes.result.now in
    five g.P.Pen.writes g.met.P.Pen.joins c.open.ensures c.write_annotations.ensures c.argument.ensures c.argument-2.ensures c.put.ensures
    (closed_two kw.Annotation (map canon_annotation notes) (canon_iri note.property) (canon_value note.value ∷ []) c.is_empty.result (c.is_empty.ensures ∙ empty_if canon_annotation notes)
    ∙ ap (λ (ns : List Annotation). compound kw.Annotation (map canon_annotation ns ++ canon_iri note.property ∷ canon_value note.value ∷ [])) c.as_slice-notes.ensures
    ∙ sym (canon_annotation-out c.args.note.now))

pub write_annotations-loop-note-preserved : goal.write_annotations-loop-note-preserved
write_annotations-loop-note-preserved g t c = record {
  written = three g.P.Pen.writes g.met.P.Pen.joins c.loop-note.invariant.written c.separate.ensures c.write_annotation.ensures (behind_more_gap canon_annotation c.args.first c.loop-note.first c.args.notes.now c.loop-note.note-index c.note-item.result c.loop-note-test.true c.note-item.is c.loop-note.invariant.flag);
  flag = later_more c.args.first c.args.notes.now c.loop-note.note-index c.note-item.result c.loop-note-test.true c.note-item.is;
}
