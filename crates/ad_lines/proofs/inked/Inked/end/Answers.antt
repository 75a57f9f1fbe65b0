-- Nothing waits any more.
use Rattle.ad_io.specs.declared.writes.Wrote.TheVariants.{All}
use Rattle.ad_lines.specs.PenLaws.{goes_ends, counts_joins}
use Rattle.ad_lines.proofs.inked.Inked.end.Goals as goal

pub returns-clause-bytes : goal.returns-clause-bytes
returns-clause-bytes g c = λ written text first.
    goes_ends written (g.K.Sink.written c.args.self.now.sink.now) (g.K.Sink.written c.write_out.new.self.sink.now) c.args.self.now.page c.write_out.new.self.page c.args.self.now.wrote c.write_out.new.self.wrote text c.write_out.ensures.page first c.write_out.ensures.written.1

pub returns-clause-cause : goal.returns-clause-cause
returns-clause-cause g c = λ faults first.
    counts_joins faults (g.K.Sink.faults c.args.self.now.sink.now) (g.K.Sink.faults c.write_out.new.self.sink.now) All c.args.self.now.wrote c.write_out.new.self.wrote first c.write_out.ensures.written.2
