-- One more part is put together with the others.
use Rattle.std.proofs.Common.{◌++◌, inl, inr, sym, ap, ◌∙◌, arith}
use Rattle.ad_genuine.specs.Found.{rows_of_kind}
use Rattle.ad_genuine.proofs.FoundLemmas.{rows-push, runs-push}
use Rattle.ad_genuine.proofs.found.joined.Goals as goal

pub loop-part-preserved : goal.loop-part-preserved
loop-part-preserved c =
    let parts = c.loop-part.yielded in
    let part = c.in-Some.part in
    let v = c.loop-part.invariant in
    let count = runs-push parts part in
    record {
      rows = λ kind. c.in_ok-append.ensures.rows kind ∙ ap (λ l. l ++ rows_of_kind part kind) (v.rows kind) ∙ sym (rows-push kind parts part);
      runs = λ fits.
          let before = v.runs (omega (arith, count, fits)) in
          elim c.in_ok-append.ensures.runs [
            | inl e ↦ omega (arith, e, before, count)
            | inr s ↦ absurd (omega (arith, s.0, s.2, before, count, fits))
          ];
    }
