use Rattle.std.proofs.Common.{arith, rules, ◌++◌, ◌∷◌, []}
use Rattle.doc_writer.specs.Documents.{canonical}
use Rattle.session.specs.Standing.{doc_of, history_of}
use Rattle.session.specs.declared.status.Status.TheVariants.{NoMemory}
use Rattle.session.proofs.LastText.{held_on, last_ended, last_read, script_next, script_stopped, script_taken, script_wanted, script_write, taking_stopped}
use Rattle.session.proofs.Pieces.{asks_done}
use Rattle.session.proofs.Running.{closer}
use Rattle.session.proofs.Texts.{end_given, line_given}
use Rattle.session.proofs.writing.write_document.Goals as goal

pub loop-line-init : goal.loop-line-init
loop-line-init g c = record {
  led = c.in-Ok.ensures.starts.0;
  count = search rules;
  within = search rules;
  written = c.in-Ok.ensures.starts.1;
  read = search rules;
  fault = search rules;
  asks = c.in-Ok.ensures.asks;
}

pub loop-line-smaller : goal.loop-line-smaller
loop-line-smaller g c =
    let left = g.S.Source.left c.args.source.now in
    let now = g.S.Source.left c.next_line.new.source in
    let led = c.loop-line.invariant.led in
    let line = line_given left now led.given c.in-Ok-Some.line c.next_line.new.reader.lines c.next_line.new.reader.ended
    c.in-Ok-Some.field-0 c.in-Ok-Some.field-0-is (c.in-Ok-Some.ensures.next left led.given led.input) in
    closer left (g.S.Source.left c.loop-line.source) now led.given c.in-Ok-Some.line c.loop-line.reader.lines c.next_line.new.reader.lines
    c.loop-line.reader.ended c.next_line.new.reader.ended led.input line.all

pub loop-line-preserved : goal.loop-line-preserved
loop-line-preserved g c =
    let left = g.S.Source.left c.args.source.now in
    let now = g.S.Source.left c.next_line.new.source in
    let led = c.loop-line.invariant.led in
    let line = line_given left now led.given c.in-Ok-Some.line c.next_line.new.reader.lines c.next_line.new.reader.ended
    c.in-Ok-Some.field-0 c.in-Ok-Some.field-0-is (c.in-Ok-Some.ensures.next left led.given led.input) in
    record {
      led = script_next left (g.S.Source.left c.loop-line.source) now c.loop-line.reader.lines c.next_line.new.reader.lines c.loop-line.reader.ended
          c.next_line.new.reader.ended (history_of c.loop-line.engine) c.loop-line.refused led c.in-Ok-Some.line line (history_of c.take_next.new.engine)
          c.in-Ok-take_next.bad (c.in-Ok-take_next.ensures led.given led.ended led.led);
      count = search rules;
      within = search rules;
      written = search rules;
      read = search rules;
      fault = search rules;
      asks = c.in-Ok-Some.ensures.asks left (g.S.Source.asked c.args.source.now) c.loop-line.invariant.asks;
    }

-- ---- how it ends

pub returns-in-Err-take_next-clause-runs : goal.returns-in-Err-take_next-clause-runs
returns-in-Err-take_next-clause-runs g c =
    let left = g.S.Source.left c.args.source.now in
    let now = g.S.Source.left c.next_line.new.source in
    let led = c.loop-line.invariant.led in
    let line = line_given left now led.given c.in-Ok-Some.line c.next_line.new.reader.lines c.next_line.new.reader.ended
    c.in-Ok-Some.field-0 c.in-Ok-Some.field-0-is (c.in-Ok-Some.ensures.next left led.given led.input) in
    held_on left now (g.K.Sink.written c.args.sink.now) (g.K.Sink.written c.loop-line.sink) NoMemory c.loop-line.invariant.written
    (taking_stopped left now (g.K.Sink.written c.args.sink.now) NoMemory
    (script_wanted left (g.S.Source.left c.loop-line.source) now c.loop-line.reader.lines c.next_line.new.reader.lines c.loop-line.reader.ended
    c.next_line.new.reader.ended (history_of c.loop-line.engine) c.loop-line.refused led c.in-Ok-Some.line line))

pub returns-in-Ok-None-clause-runs : goal.returns-in-Ok-None-clause-runs
returns-in-Ok-None-clause-runs g c =
    let left = g.S.Source.left c.args.source.now in
    let now = g.S.Source.left c.next_line.new.source in
    let led = c.loop-line.invariant.led in
    let end = end_given left now led.given c.next_line.new.reader.lines c.next_line.new.reader.ended
    c.in-Ok-None.field-0 c.in-Ok-None.field-0-is (c.in-Ok-None.ensures.next left led.given led.input) in
    last_ended left now (g.K.Sink.written c.args.sink.now) (g.K.Sink.written c.write_last.new.sink)
    (history_of c.loop-line.engine) c.loop-line.refused
    (script_taken left (g.S.Source.left c.loop-line.source) c.loop-line.reader.lines c.loop-line.reader.ended (history_of c.loop-line.engine) c.loop-line.refused led now end)
    (g.K.Sink.written c.loop-line.sink) c.write_last.result c.loop-line.invariant.written c.write_last.ensures.ends

pub returns-in-Ok-None-clause-read : goal.returns-in-Ok-None-clause-read
returns-in-Ok-None-clause-read g c =
    last_read (g.S.Source.faults c.args.source.now) (g.S.Source.faults c.next_line.new.source) (omega (arith, c.loop-line.invariant.read, c.in-Ok-None.ensures.cause.later))
    (canonical (doc_of c.loop-line.engine)) c.loop-line.refused c.write_last.result (g.K.Sink.written c.loop-line.sink) (g.K.Sink.written c.write_last.new.sink)
    c.write_last.ensures.ends

pub returns-in-Err-next_line-clause-runs : goal.returns-in-Err-next_line-clause-runs
returns-in-Err-next_line-clause-runs g c =
    let left = g.S.Source.left c.args.source.now in
    let now = g.S.Source.left c.next_line.new.source in
    let led = c.loop-line.invariant.led in
    held_on left now (g.K.Sink.written c.args.sink.now) (g.K.Sink.written c.loop-line.sink) c.in-Err-next_line.status c.loop-line.invariant.written
    (taking_stopped left now (g.K.Sink.written c.args.sink.now) c.in-Err-next_line.status
    (script_stopped left (g.S.Source.left c.loop-line.source) c.loop-line.reader.lines c.loop-line.reader.ended (history_of c.loop-line.engine) c.loop-line.refused led
    now c.in-Err-next_line.status (c.in-Err-next_line.ensures.next left led.given led.input)))

pub returns-in-Err-next_line-clause-write : goal.returns-in-Err-next_line-clause-write
returns-in-Err-next_line-clause-write g c =
    let left = g.S.Source.left c.args.source.now in
    let now = g.S.Source.left c.next_line.new.source in
    let led = c.loop-line.invariant.led in
    script_write (g.K.Sink.faults c.args.sink.now) (g.K.Sink.faults c.loop-line.sink) c.loop-line.invariant.fault left now c.in-Err-next_line.status
    (script_stopped left (g.S.Source.left c.loop-line.source) c.loop-line.reader.lines c.loop-line.reader.ended (history_of c.loop-line.engine) c.loop-line.refused led
    now c.in-Err-next_line.status (c.in-Err-next_line.ensures.next left led.given led.input))

-- ---- how often the source was asked

pub returns-in-Err-clause-asks : goal.returns-in-Err-clause-asks
returns-in-Err-clause-asks g c = c.in-Err.ensures.asks

pub returns-in-Err-take_next-clause-asks : goal.returns-in-Err-take_next-clause-asks
returns-in-Err-take_next-clause-asks g c =
    asks_done (g.S.Source.left c.args.source.now) (g.S.Source.left c.next_line.new.source) (g.S.Source.asked c.args.source.now)
    (g.S.Source.asked c.next_line.new.source) c.next_line.new.reader.count c.next_line.new.reader.ended
    (c.in-Ok-Some.ensures.asks (g.S.Source.left c.args.source.now) (g.S.Source.asked c.args.source.now) c.loop-line.invariant.asks)

pub returns-in-Ok-None-clause-asks : goal.returns-in-Ok-None-clause-asks
returns-in-Ok-None-clause-asks g c =
    asks_done (g.S.Source.left c.args.source.now) (g.S.Source.left c.next_line.new.source) (g.S.Source.asked c.args.source.now)
    (g.S.Source.asked c.next_line.new.source) c.next_line.new.reader.count c.next_line.new.reader.ended
    (c.in-Ok-None.ensures.asks (g.S.Source.left c.args.source.now) (g.S.Source.asked c.args.source.now) c.loop-line.invariant.asks)

pub returns-in-Err-next_line-clause-asks : goal.returns-in-Err-next_line-clause-asks
returns-in-Err-next_line-clause-asks g c =
    c.in-Err-next_line.ensures.asks (g.S.Source.left c.args.source.now) (g.S.Source.asked c.args.source.now) c.loop-line.invariant.asks
