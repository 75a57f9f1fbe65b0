-- The sizes are those of the limits, and no module is known yet.
use Rattle.std.proofs.Common.{refl, sym, subst, ap, ◌∙◌, length, arith, false, replicate}
use Rattle.std.proofs.lemmas.List.{length-replicate}
use Rattle.ad_base.specs.declared.limits.Limits.{Limits}
use Rattle.ad_theory.specs.Numbers.{AreSizesOf}
use Rattle.ad_joined.proofs.stars.Stars.new.Goals as goal

pub returns : goal.returns
returns c symbols local live =
    let axioms = c.args.limits.now.axioms in
    let entities = c.args.limits.now.entities in
    record {
      limits = subst (λ (l : Limits). AreSizesOf l axioms entities) (sym c.in_ok-make.ensures) (record { axioms = refl; entities = refl });
      seed = ap length c.in_ok-empty_row.ensures ∙ length-replicate entities false;
      closure = ap length c.in_ok-empty_row-2.ensures ∙ length-replicate entities false;
      start = ap length c.in_ok-empty_row-3.ensures ∙ length-replicate axioms false;
      out = ap length c.in_ok-empty_row-4.ensures ∙ length-replicate axioms false;
      room = omega (arith, c.in_ok-with_capacity.ensures.capacity);
      known = c.in_ok-nothing.ensures symbols local live;
    }
