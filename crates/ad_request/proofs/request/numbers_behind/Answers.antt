-- The line is cut in one way only, so what is found at the cut decides.
use Rattle.ad_request.proofs.Reading.{when_none, number_cut, number_uncut}
use Rattle.ad_request.proofs.request.numbers_behind.Goals as goal

pub returns-in_err-front : goal.returns-in_err-front
returns-in_err-front c = when_none _ _ _ c.from_residual-in_err-front.ensures
    (λ m n hm hn is. number_uncut c.args.line.now c.args.words.now c.in_ok-behind.field-0.now c.in_ok-behind.ensures c.in_err-front.ensures m n is)

pub returns-in_err-first : goal.returns-in_err-first
returns-in_err-first c = when_none _ _ _ c.from_residual-in_err-first.ensures
    (λ m n hm hn is. c.in_err-first.ensures.none m (record { spelled = (number_cut c.args.line.now c.args.words.now c.in_ok-behind.field-0.now c.in_ok-front.front.now c.in_ok-front.back.now c.in_ok-behind.ensures c.in_ok-front.ensures m n hm is).0; small = hm }))

pub returns-in_err-second : goal.returns-in_err-second
returns-in_err-second c = when_none _ _ _ c.from_residual-in_err-second.ensures
    (λ m n hm hn is. c.in_err-second.ensures n hn (number_cut c.args.line.now c.args.words.now c.in_ok-behind.field-0.now c.in_ok-front.front.now c.in_ok-front.back.now c.in_ok-behind.ensures c.in_ok-front.ensures m n hm is).1)
