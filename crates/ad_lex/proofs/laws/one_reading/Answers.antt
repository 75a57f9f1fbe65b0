use Rattle.ad_lex.proofs.Once.{lexed_once, fault_once, lexed_or_fault}
use Rattle.ad_lex.proofs.Readings.{lexed_or_faulty}
use Rattle.ad_lex.proofs.laws.one_reading.Goals as goal

pub returns : goal.returns
returns c = record { tokens = lexed_once; fault = fault_once; either = lexed_or_faulty; not_both = lexed_or_fault }
