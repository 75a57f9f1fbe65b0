-- The text of the shape was counted.
use Rattle.std.proofs.Common.{◌-◌, ◌^◌, length, min, subst, ◌∙◌, ap}
use Rattle.ad_lines.specs.Pen.{Weighs}
use Rattle.ad_atoms_text.specs.Numbered.{listing}
use Rattle.ad_atoms_text.proofs.ShapeLemmas.{listing_is}
use Rattle.ad_atoms_text.proofs.listing.atoms_size.Goals as goal

pub returns : goal.returns
returns c = λ G order are covers.
    let text = listing c.args.atoms.now c.args.covers.now in
    c.bytes.ensures text (subst (λ n. Weighs n c.put_text.new.pen.bytes text) c.new-scale.ensures c.put_text.ensures)
    ∙ ap (λ t. min (length t) (2 ^ 64 - 1)) (listing_is G order c.args.atoms.now c.args.covers.now c.requires are covers)
