-- The text was answered, or refused, by how the run ended.
use Rattle.std.proofs.Common.{sym, ◌∙◌}
use Rattle.ad_session.specs.Flows.{flow}
use Rattle.ad_run.specs.Statuses.{code_of}
use Rattle.ad_run.specs.Runs.{code_at}
use Rattle.ad_run.proofs.RunLemmas.{answered, refuses, is_refused, either_code}
use Rattle.ad_run.proofs.GeneratedLemmas.{generated_code, reads_none}
use Rattle.ad_run.proofs.ScriptLemmas.{session_code}
use Rattle.ad_run.proofs.run.run_once.Goals as goal

pub returns-clause-refused : goal.returns-clause-refused
returns-clause-refused g c = λ code. is_refused c.args.words.now _ _ c.run.result c.run.ensures.ends (sym c.end.ensures.code ∙ code)

pub returns-clause-told : goal.returns-clause-told
returns-clause-told g c = record {
  status = c.run.result;
  coded = c.end.ensures.code;
  ends = c.run.ensures.ends;
  wrote = c.end.ensures.told.wrote;
  told = c.end.ensures.told.told;
  cause = c.end.ensures.told.cause;
}

pub returns-clause-complete : goal.returns-clause-complete
returns-clause-complete g c = λ text ontology some told tells short found reads writes.
    let a = flow (g.S.Source.left c.args.source.now) (g.S.Source.faults c.args.source.now) (g.K.Sink.written c.args.sink.now) (g.K.Sink.faults c.args.sink.now) in
    let b = flow (g.S.Source.left c.run.new.source) (g.S.Source.faults c.run.new.source) (g.K.Sink.written c.run.new.sink) (g.K.Sink.faults c.run.new.sink) in
    either_code 0 c.end.result (code_of c.run.result) c.end.ensures.code
    (answered c.args.words.now a b text told tells c.run.result ontology c.run.ensures.ends c.run.ensures.cause some short found reads writes)

pub returns-clause-refuses : goal.returns-clause-refuses
returns-clause-refuses g c = λ text some told tells unfit reads writes.
    let a = flow (g.S.Source.left c.args.source.now) (g.S.Source.faults c.args.source.now) (g.K.Sink.written c.args.sink.now) (g.K.Sink.faults c.args.sink.now) in
    let b = flow (g.S.Source.left c.run.new.source) (g.S.Source.faults c.run.new.source) (g.K.Sink.written c.run.new.sink) (g.K.Sink.faults c.run.new.sink) in
    either_code 3 c.end.result (code_of c.run.result) c.end.ensures.code
    (refuses c.args.words.now a b text told tells c.run.result c.run.ensures.ends c.run.ensures.cause some unfit reads writes)

pub returns-clause-session : goal.returns-clause-session
returns-clause-session g c = λ text s some told tells items reads writes.
    let a = flow (g.S.Source.left c.args.source.now) (g.S.Source.faults c.args.source.now) (g.K.Sink.written c.args.sink.now) (g.K.Sink.faults c.args.sink.now) in
    let b = flow (g.S.Source.left c.run.new.source) (g.S.Source.faults c.run.new.source) (g.K.Sink.written c.run.new.sink) (g.K.Sink.faults c.run.new.sink) in
    either_code (code_at s.ending) c.end.result (code_of c.run.result) c.end.ensures.code
    (session_code c.args.words.now a b text told tells s items c.run.result c.run.ensures.ends c.run.ensures.cause some reads writes)

pub returns-clause-reads_nothing : goal.returns-clause-reads_nothing
returns-clause-reads_nothing g c = λ some.
    let none = reads_none c.args.words.now _ _ some c.run.result c.run.ensures.ends in
    (none.left, none.faults)

pub returns-clause-generates : goal.returns-clause-generates
returns-clause-generates g c = λ some writes.
    let a = flow (g.S.Source.left c.args.source.now) (g.S.Source.faults c.args.source.now) (g.K.Sink.written c.args.sink.now) (g.K.Sink.faults c.args.sink.now) in
    let b = flow (g.S.Source.left c.run.new.source) (g.S.Source.faults c.run.new.source) (g.K.Sink.written c.run.new.sink) (g.K.Sink.faults c.run.new.sink) in
    either_code 0 c.end.result (code_of c.run.result) c.end.ensures.code
    (generated_code c.args.words.now a b some c.run.result c.run.ensures.ends c.run.ensures.cause writes)
