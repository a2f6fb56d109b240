use Rattle.text_scan.proofs.Reading.{ahead_of, takes_of, falls_of, drained_of}
use Rattle.text_scan.proofs.lines.Lines.take.Goals as goal

pub returns-clause-ahead : goal.returns-clause-ahead
returns-clause-ahead c = λ more last. ahead_of c.args.ended c.args.self.now c.take_due.new.self more c.take_due.result last c.take_due.ensures.line c.take_due.ensures.ok

pub returns-clause-reads : goal.returns-clause-reads
returns-clause-reads c = λ fed taken h. takes_of c.args.ended c.args.self.now c.take_due.new.self fed taken c.take_due.result h c.take_due.ensures.line c.take_due.ensures.ok

pub returns-clause-falls : goal.returns-clause-falls
returns-clause-falls c = falls_of c.args.ended c.args.self.now c.take_due.new.self c.take_due.result c.take_due.ensures.line c.take_due.ensures.ok

pub returns-clause-drained : goal.returns-clause-drained
returns-clause-drained c = drained_of c.args.ended c.args.self.now c.take_due.new.self c.take_due.result c.take_due.ensures.none.0 c.take_due.ensures.ok
