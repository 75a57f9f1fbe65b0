use Rattle.std.proofs.Common.{◌+◌, is_ok, sym, ◌∙◌, ap, subst, arith}
use Rattle.std.proofs.ResultArms.{chosen}
use Rattle.ad_lex.specs.Lexed.{no_token, open_string, open_iri}
use Rattle.ad_lex.proofs.Steps.{Completes, GoesOn, skip_goes_on, take_goes_on, completes_skip, completes_take, completes_over, faults_skip, faults_take}
use Rattle.ad_lex.proofs.lexer.lex_rest.Goals as goal
use Rattle.ad_lex.proofs.lexer.lex_rest.Goals.{In-Skips, In-Takes}

-- a blank, a comment or a token is some bytes of the text
skips : (c : In-Skips) → GoesOn c.args.text.now c.rest.at c.in-Skips.len
skips c = skip_goes_on _ _ _ c.rest.invariant.within (sym c.front_at.ensures ∙ c.in-Skips.is)

takes : (c : In-Takes) → GoesOn c.args.text.now c.rest.at c.in-Takes.len
takes c = take_goes_on _ _ _ c.in-Takes.mark c.rest.invariant.within (sym c.front_at.ensures ∙ c.in-Takes.is)

pub returns-in-Over-clause-ok : goal.returns-in-Over-clause-ok
returns-in-Over-clause-ok c = completes_over _ _ _ _ (sym c.front_at.ensures ∙ c.in-Over.is) c.rest.invariant.lexed

pub overflow_add-at : goal.overflow_add-at
overflow_add-at c = omega (arith, (skips c).within, c.requires.short)

pub rest-smaller-in-Skips : goal.rest-smaller-in-Skips
rest-smaller-in-Skips c = omega (arith, (skips c).some, (skips c).within)

pub rest-preserved-in-Skips : goal.rest-preserved-in-Skips
rest-preserved-in-Skips c =
    let is = sym c.front_at.ensures ∙ c.in-Skips.is in
    let known = c.rest.invariant in
    record {
      within = (skips c).within;
      few = omega (arith, known.few);
      lexed = completes_skip _ _ _ _ _ is known.lexed;
      faulty = faults_skip _ _ _ _ is known.faulty;
    }

pub overflow_add-at-in-Takes : goal.overflow_add-at-in-Takes
overflow_add-at-in-Takes c = omega (arith, (takes c).within, c.requires.short)

pub overflow_cast-to : goal.overflow_cast-to
overflow_cast-to c = omega (arith, (takes c).within, c.requires.short)

pub rest-smaller : goal.rest-smaller
rest-smaller c =
    let step = takes (goal.at.rest-smaller c).In-Takes in
    omega (arith, step.some, step.within)

pub rest-preserved : goal.rest-preserved
rest-preserved c =
    let is = sym c.front_at.ensures ∙ c.in-Takes.is in
    let known = c.rest.invariant in
    let step = takes (goal.at.rest-preserved c).In-Takes in
    let pushed = chosen _ _ _ _ c.push.ensures.items (ap is_ok c.in_ok-push-in-Takes.was) in
    let longer = chosen _ _ _ _ c.push.ensures.len (ap is_ok c.in_ok-push-in-Takes.was) in
    record {
      within = step.within;
      few = omega (arith, known.few, step.some, longer);
      lexed = subst (Completes c.args.text.now c.args.from (c.rest.at + c.in-Takes.len)) (sym pushed) (completes_take _ _ _ _ c.in-Takes.mark _ is known.lexed);
      faulty = faults_take _ _ _ _ c.in-Takes.mark is known.faulty;
    }

pub returns-in-Char-clause-fault : goal.returns-in-Char-clause-fault
returns-in-Char-clause-fault c = c.rest.invariant.faulty _ (no_token _ _ (sym c.front_at.ensures ∙ c.in-Char.is))

pub returns-in-OpenString-clause-fault : goal.returns-in-OpenString-clause-fault
returns-in-OpenString-clause-fault c = c.rest.invariant.faulty _ (open_string _ _ (sym c.front_at.ensures ∙ c.in-OpenString.is))

pub returns-in-OpenIri-clause-fault : goal.returns-in-OpenIri-clause-fault
returns-in-OpenIri-clause-fault c = c.rest.invariant.faulty _ (open_iri _ _ (sym c.front_at.ensures ∙ c.in-OpenIri.is))
