-- The next member is written, and those behind it are left.
use Rattle.std.proofs.Common.{◌<◌, ◌+◌, ◌∷◌, ◌++◌, [], length, decimal, refl, sym, ◌∙◌, ap, subst, arith, append_assoc}
use Rattle.std.proofs.lemmas.List.{append-nil}
use Rattle.ad_bits.proofs.Rows.{within_size}
use Rattle.ad_atoms_text.specs.Numbered.{members_from, numbers}
use Rattle.ad_atoms_text.proofs.MemberLemmas.{next_member, no_member}
use Rattle.ad_atoms_text.proofs.line.put_members.Goals as goal

pub loop-member-init : goal.loop-member-init
loop-member-init g c = (c.requires, [], g.met.P.Pen.begins c.args.pen.now, refl)

pub overflow_add-from : goal.overflow_add-from
overflow_add-from g c =
    let below : c.in-Some.member < length c.args.row.now = within_size c.args.row.now c.in-Some.member c.in-Some.ensures.some.member in
    omega (arith, below)

pub loop-member-preserved : goal.loop-member-preserved
loop-member-preserved g c =
    let row = c.args.row.now in
    let m = c.in-Some.member in
    let done = c.loop-member.invariant.1 in
    let below : m < length row = within_size row m c.in-Some.ensures.some.member in (
      omega (arith, below),
      done ++ 32 ∷ decimal m,
      g.met.P.Pen.joins _ _ _ done (32 ∷ decimal m) c.loop-member.invariant.2 c.put_number.ensures,
      c.loop-member.invariant.3
          ∙ ap (λ ns. done ++ numbers ns) (next_member row c.loop-member.from m c.in-Some.ensures.some)
          ∙ sym (append_assoc done (32 ∷ decimal m) (numbers (members_from (m + 1) row))),
    )

pub returns : goal.returns
returns g c =
    let done = c.loop-member.invariant.1 in
    let all = c.loop-member.invariant.3 ∙ ap (λ ns. done ++ numbers ns) (no_member c.args.row.now c.loop-member.from c.in_default.ensures.none) ∙ append-nil done in
    subst (g.P.Pen.writes c.args.pen.now c.loop-member.pen) (sym all) c.loop-member.invariant.2
