-- What was written is the document of the axioms that the operations add.
use Rattle.std.proofs.Common.{◌≡◌, map, refl, sym, ap, ◌∙◌, subst}
use Rattle.ad_gen.specs.Generated.{added, generated}
use Rattle.ad_io.specs.Sink.{Puts}
use Rattle.ad_tree.specs.declared.edits.Op.{Op}
use Rattle.ad_write.specs.Canonical.{canon_document}
use Rattle.ad_generated.proofs.GeneratedLemmas.{of_additions}
use Rattle.ad_generated.proofs.document.answer_generate.Goals as goal

pub returns-clause-given : goal.returns-clause-given
returns-clause-given g c =
    let ops_are : c.ops.result.now ≡ map added (generated c.args.size) = c.ops.ensures ∙ c.in_ok-batch.ensures in
    let axioms : map (λ (op : Op). op.noted) c.ops.result.now ≡ generated c.args.size = ap (map (λ (op : Op). op.noted)) ops_are ∙ of_additions (generated c.args.size) in (
      canon_document (generated c.args.size),
      refl,
      subst (λ l. Puts (g.K.Sink.written c.args.sink.now) (g.K.Sink.written c.write_document.new.sink) c.write_document.result (canon_document l)) axioms c.write_document.ensures.bytes,
    )
