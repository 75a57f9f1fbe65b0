-- Each clause follows from how reading ended.
use Rattle.ad_io.proofs.ReadingLemmas.{on_long, on_failed, on_memory, on_cause, text_is_longer, text_is_read}
use Rattle.ad_io.proofs.reads.read_to_end.Goals as goal

pub returns-in-Ok-clause-not_too_long : goal.returns-in-Ok-clause-not_too_long
returns-in-Ok-clause-not_too_long g c text is told ok =
    let read = c.in-Ok.ensures.bytes in text_is_read _ _ text _ _ is told read.0 read.1 read.2

pub returns-in-Err-clause-long : goal.returns-in-Err-clause-long
returns-in-Err-clause-long g c = on_long _ _ _ c.read_into.new.bytes.items c.in-Err.end c.in-Err.ensures.bytes

pub returns-in-Err-clause-failed : goal.returns-in-Err-clause-failed
returns-in-Err-clause-failed g c = on_failed _ _ _ c.read_into.new.bytes.items c.in-Err.end c.in-Err.ensures.bytes

pub returns-in-Err-clause-memory : goal.returns-in-Err-clause-memory
returns-in-Err-clause-memory g c = on_memory _ _ _ c.read_into.new.bytes.items c.in-Err.end c.in-Err.ensures.bytes

pub returns-in-Err-clause-cause : goal.returns-in-Err-clause-cause
returns-in-Err-clause-cause g c = on_cause _ _ c.in-Err.end c.in-Err.ensures.cause

pub returns-in-Err-clause-too_long : goal.returns-in-Err-clause-too_long
returns-in-Err-clause-too_long g c text is told long =
    text_is_longer _ _ text _ is told (on_long _ _ _ c.read_into.new.bytes.items c.in-Err.end c.in-Err.ensures.bytes long)
