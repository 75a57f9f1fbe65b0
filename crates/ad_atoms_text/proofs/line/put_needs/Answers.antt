-- Where no atom is covered, only the line feed is written.
use Rattle.std.proofs.Common.{sym, ap, subst}
use Rattle.ad_lines.specs.Lines.{behind}
use Rattle.ad_atoms_text.specs.AtomsText.{needs_words}
use Rattle.ad_atoms_text.proofs.MemberLemmas.{no_member}
use Rattle.ad_atoms_text.proofs.line.put_needs.Goals as goal

pub returns-in-None : goal.returns-in-None
returns-in-None g c =
    subst (g.P.Pen.writes c.args.pen.now c.put.new.self) (ap (λ ns. behind (needs_words ns)) (sym (no_member c.args.covers.now 0 c.in-None.ensures.none))) c.put.ensures
