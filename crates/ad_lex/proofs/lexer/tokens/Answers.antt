use Rattle.std.proofs.Common.{rules, IfOk}
use Rattle.ad_lex.specs.Lexed.{IsLexed, IsFault, IfFault}
use Rattle.ad_lex.proofs.Once.{lexed_or_fault, fault_once, one_answer, one_fault}
use Rattle.ad_lex.proofs.Readings.{answers_stand, answers_follow}
use Rattle.ad_lex.proofs.lexer.tokens.Goals as goal
use Rattle.ad_lex.proofs.lexer.tokens.Goals.{After-map}

pub returns-in-Err-clause-complete : goal.returns-in-Err-clause-complete
returns-in-Err-clause-complete c found lexed = absurd (lexed_or_fault c.args.text.now found c.in-Err.fault lexed c.in-Err.ensures.err)

pub returns-in-Err-clause-refuses : goal.returns-in-Err-clause-refuses
returns-in-Err-clause-refuses c fault is = fault_once c.args.text.now c.in-Err.fault fault c.in-Err.ensures.err is

-- what the loop over the rest answers is right
right : (c : After-map) → IfOk c.map.result (IsLexed c.args.text.now) × IfFault c.map.result (IsFault c.args.text.now)
right c = (search rules, search rules)

pub returns-clause-complete : goal.returns-clause-complete
returns-clause-complete c = one_answer _ _ (right c).0 (right c).1

pub returns-clause-refuses : goal.returns-clause-refuses
returns-clause-refuses c = one_fault _ _ (right c).0 (right c).1

pub returns-clause-spans : goal.returns-clause-spans
returns-clause-spans c = answers_stand _ _ (right c).0

pub returns-clause-order : goal.returns-clause-order
returns-clause-order c = answers_follow c.args.text.now _ (right c).0
