-- The word before the atoms, the atoms and the line feed.
use Rattle.std.proofs.Common.{◌≡◌, ℕ, ◌+◌, List, ◌∷◌, [], ◌++◌, codes, sym, ◌∙◌, ap, arith}
use Rattle.ad_bits.proofs.Rows.{within_size}
use Rattle.ad_lines.specs.Lines.{behind}
use Rattle.ad_lines.proofs.Joining.{three}
use Rattle.ad_atoms_text.specs.AtomsText.{needs_words}
use Rattle.ad_atoms_text.specs.Numbered.{members, members_from, numbers}
use Rattle.ad_atoms_text.proofs.LineLemmas.{needs}
use Rattle.ad_atoms_text.proofs.MemberLemmas.{from_first, next_member}
use Rattle.ad_atoms_text.proofs.line.put_covers.Goals as goal

pub put_members-requires : goal.put_members-requires
put_members-requires g c = let below = within_size c.args.covers.now c.args.first c.requires.member in omega (arith, below)

pub returns : goal.returns
returns g c =
    let row = c.args.covers.now in
    let first = c.args.first in
    let all = next_member row 0 first c.requires in
    three g.P.Pen.writes g.met.P.Pen.joins c.put.ensures c.put_members.ensures c.put-2.ensures
    (ap (λ ns. (codes " needs" ++ numbers ns) ++ 10 ∷ []) (from_first row first c.requires ∙ all) ∙ needs first (members_from (first + 1) row) ∙ ap (λ ns. behind (needs_words ns)) (sym all))
