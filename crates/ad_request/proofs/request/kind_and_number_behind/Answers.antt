-- The line is cut in one way only, so what is found at the cut decides.
use Rattle.ad_request.proofs.Reading.{when_none, kind_cut}
use Rattle.ad_request.proofs.request.kind_and_number_behind.Goals as goal

pub returns-in_err-kind : goal.returns-in_err-kind
returns-in_err-kind c = when_none _ _ _ c.from_residual-in_err-kind.ensures
    (λ kind n small is. c.in_err-kind.ensures kind (kind_cut c.args.line.now c.args.words.now c.in_ok-behind.field-0.now c.in_ok-word.word.now c.in_ok-word.rest.now c.in_ok-behind.ensures c.in_ok-word.ensures kind n is).0)

pub returns-in_err-size : goal.returns-in_err-size
returns-in_err-size c = when_none _ _ _ c.from_residual-in_err-size.ensures
    (λ kind n small is. c.in_err-size.ensures n small (kind_cut c.args.line.now c.args.words.now c.in_ok-behind.field-0.now c.in_ok-word.word.now c.in_ok-word.rest.now c.in_ok-behind.ensures c.in_ok-word.ensures kind n is).1)
