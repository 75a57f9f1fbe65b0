-- A run, a backslash and the byte behind it are written.
use Rattle.std.proofs.Common.{[], ◌∷◌, ◌++◌}
use Rattle.ad_write.proofs.Escapes.{run_done}
use Rattle.ad_write.proofs.literals.write_escaped.Goals as goal

pub runs-preserved : goal.runs-preserved
runs-preserved g c =
    let join = g.met.P.Pen.joins in
    let done = c.runs.invariant.0 in
    let run = c.split_at.result.0.now in
    let byte = c.split_at-in-Some.result.0.now in (
      ((done ++ run) ++ 92 ∷ []) ++ byte,
      join _ _ _ _ byte (join _ _ _ _ (92 ∷ []) (join _ _ _ done run c.runs.invariant.1 c.put.ensures) c.put-in-Some.ensures) c.put-in-Some-2.ensures,
      run_done c.args.text.now done c.runs.rest.now run c.split_at.result.1.now byte c.split_at-in-Some.result.1.now c.in-Some.at c.runs.invariant.2 c.in-Some.ensures.found.1 c.split_at.ensures.front c.split_at.ensures.back c.split_at-in-Some.ensures.front c.split_at-in-Some.ensures.back,
    )
