-- How the axioms so far go.
use Rattle.std.proofs.Common.{◌≡◌, ℕ, ◌<◌, length, get_or}
use Rattle.ad_split.specs.Going.{GoesAt}
use Rattle.ad_split.specs.declared.going.Going.TheVariants.{Never}
use Rattle.ad_split.proofs.room.goings.Given as goal

abbrev pub invariant-loop-i : goal.invariant-loop-i
invariant-loop-i l = record {
  long : length l.going.items ≡ l.i;
  each : (place : ℕ) → place < l.i → GoesAt l.ontology place (get_or l.going.items place Never);
}
