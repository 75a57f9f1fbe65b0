use Rattle.std.proofs.Common.{[], ◌∷◌, ◌++◌, sym, ap, ◌∙◌, add-one, arith}
use Rattle.std.proofs.lemmas.Bool.{false≢true}
use Rattle.std.specs.Map.{lookup}
use Rattle.ad_base.specs.Words.{same_text}
use Rattle.ad_signature.proofs.KindLemmas.{fresh, take_one}
use Rattle.ad_signature.proofs.kind_numbers.KindNumbers.fill.Goals as goal
use Rattle.ad_signature.proofs.kind_numbers.KindNumbers.fill.Goals.{in-Some+in_ok-insert, in_default}

pub insert-requires : goal.insert-requires
insert-requires c =
    ap (lookup (same_text c.in-Some.name.now)) c.loop-i.invariant
    ∙ fresh c.from.inside.map.entries c.loop-i.i (c.in-Some.name.now, c.in-Some.number.now) c.len-i-end.ensures.unique (sym c.in-Some.ensures.entry)

pub loop-i-preserved : goal.loop-i-preserved
loop-i-preserved c = elim c.match-get_index.branch [
  | in-Some+in_ok-insert w ↦ rw add-one (w.self-is ∙ w.in_ok-insert.ensures.ok ∙ ap (λ l. l ++ (w.in-Some.name.now, w.in-Some.number.now) ∷ []) c.loop-i.invariant
      ∙ sym (take_one c.from.inside.map.entries c.loop-i.i (w.in-Some.name.now, w.in-Some.number.now) (sym w.in-Some.ensures.entry)))
  | in_default w ↦ absurd (false≢true (w.in_default.ensures.found.1 (omega (arith, c.loop-i-test.true, c.len-i-end.ensures.len))))
]
