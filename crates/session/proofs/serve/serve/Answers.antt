use Rattle.std.proofs.Common.{subst, sym, arith, rules, ◌++◌, ◌∷◌, []}
use Rattle.session.specs.Runs.{Runs}
use Rattle.session.specs.declared.status.Status.{Status}
use Rattle.session.proofs.Texts.{line_given, end_given}
use Rattle.session.proofs.Running.{closer, ended_read, ended_written, few_answers, part_written, script_ended, script_stopped, unwritten_stop}
use Rattle.session.specs.Standing.{course_of}
use Rattle.session.proofs.Follows.{agrees_line, follows_given}
use Rattle.session.proofs.Pieces.{asks_done, first_given}
use Rattle.session.proofs.Replies.{ended_replies, first_replies, later_number, more_replies, stopped_replies, unwritten_replies}
use Rattle.session.proofs.Spares.{input_none, spares_some}
use Rattle.session.proofs.serve.serve.Goals as goal

pub handle_line-requires-clause-few : goal.handle_line-requires-clause-few
handle_line-requires-clause-few g c =
    let at = c.loop-line.invariant.at in
    few_answers (g.S.Source.left c.args.source.now) (g.S.Source.left c.loop-line.source) at.given c.loop-line.reader.lines c.loop-line.reader.ended c.loop-line.progress.number at.input at.answered.laid.few

pub returns-in-Err-handle_line-clause-runs : goal.returns-in-Err-handle_line-clause-runs
returns-in-Err-handle_line-clause-runs g c =
    let left = g.S.Source.left c.args.source.now in
    let now = g.S.Source.left c.next_line.new.source in
    let held = g.K.Sink.written c.args.sink.now in
    let events = g.R.Ruler.log c.args.ruler.now in
    let at = c.loop-line.invariant.at in
    let line = line_given left now at.given c.in-Ok-Some.line c.next_line.new.reader.lines c.next_line.new.reader.ended c.in-Ok-Some.field-0 c.in-Ok-Some.field-0-is (c.in-Ok-Some.ensures.next left at.given at.input) in
    part_written c.args.stats left now held (g.K.Sink.written c.handle_line.new.sink) events (g.R.Ruler.log c.handle_line.new.ruler) at.given c.in-Ok-Some.line c.next_line.new.reader.lines c.next_line.new.reader.ended c.in-Err-handle_line.status line at.answered.laid.ended
    c.in-Err-handle_line.ensures.stops (c.in-Err-handle_line.ensures.answered held events at.given at.answered)

pub loop-line-smaller : goal.loop-line-smaller
loop-line-smaller g c =
    let left = g.S.Source.left c.args.source.now in
    let now = g.S.Source.left c.next_line.new.source in
    let at = c.loop-line.invariant.at in
    let line = line_given left now at.given c.in-Ok-Some.line c.next_line.new.reader.lines c.next_line.new.reader.ended c.in-Ok-Some.field-0 c.in-Ok-Some.field-0-is (c.in-Ok-Some.ensures.next left at.given at.input) in
    closer left (g.S.Source.left c.loop-line.source) now at.given c.in-Ok-Some.line c.loop-line.reader.lines c.next_line.new.reader.lines c.loop-line.reader.ended c.next_line.new.reader.ended at.input line.all

pub loop-line-preserved : goal.loop-line-preserved
loop-line-preserved g c =
    let left = g.S.Source.left c.args.source.now in
    let now = g.S.Source.left c.next_line.new.source in
    let at = c.loop-line.invariant.at in
    let line = line_given left now at.given c.in-Ok-Some.line c.next_line.new.reader.lines c.next_line.new.reader.ended c.in-Ok-Some.field-0 c.in-Ok-Some.field-0-is (c.in-Ok-Some.ensures.next left at.given at.input) in
    record {
      at = record {
        given = at.given ++ c.in-Ok-Some.line ∷ [];
        input = line.all;
        answered = c.in-Ok-handle_line.ensures.answered (g.K.Sink.written c.args.sink.now) (g.R.Ruler.log c.args.ruler.now) at.given at.answered;
      };
      spared = λ touches f.
          c.in-Ok-handle_line.ensures.spares touches (g.R.Ruler.log c.args.ruler.now)
          (agrees_line touches at.given (course_of c.loop-line.progress.engine) c.loop-line.progress.number c.loop-line.progress.refused at.answered.laid c.in-Ok-Some.line f)
          (c.loop-line.invariant.spared touches (follows_given touches at.given (course_of c.loop-line.progress.engine) c.loop-line.progress.number c.loop-line.progress.refused at.answered.laid c.in-Ok-Some.line f));
      replied = λ touches f.
          more_replies at.given (course_of c.loop-line.progress.engine) c.loop-line.progress.number c.loop-line.progress.refused at.answered.laid c.args.stats (g.K.Sink.written c.args.sink.now) (g.K.Sink.written c.loop-line.sink) (g.R.Ruler.log c.args.ruler.now)
          (g.R.Ruler.log c.loop-line.ruler) c.args.passes.now c.loop-line.passes touches (g.K.Sink.written c.handle_line.new.sink) (g.R.Ruler.log c.handle_line.new.ruler) c.handle_line.new.passes c.in-Ok-Some.line
          (c.loop-line.invariant.replied touches (follows_given touches at.given (course_of c.loop-line.progress.engine) c.loop-line.progress.number c.loop-line.progress.refused at.answered.laid c.in-Ok-Some.line f))
          (c.in-Ok-handle_line.ensures.replies touches (later_number at.given (course_of c.loop-line.progress.engine) c.loop-line.progress.number c.loop-line.progress.refused at.answered.laid)
          (agrees_line touches at.given (course_of c.loop-line.progress.engine) c.loop-line.progress.number c.loop-line.progress.refused at.answered.laid c.in-Ok-Some.line f));
      laid = search rules;
      count = search rules;
      within = search rules;
      read = search rules;
      written = search rules;
      asks = c.in-Ok-Some.ensures.asks left (g.S.Source.asked c.args.source.now) c.loop-line.invariant.asks;
    }

pub returns-in-Ok-None-clause-runs : goal.returns-in-Ok-None-clause-runs
returns-in-Ok-None-clause-runs g c =
    let left = g.S.Source.left c.args.source.now in
    let now = g.S.Source.left c.next_line.new.source in
    let held = g.K.Sink.written c.args.sink.now in
    let held' = g.K.Sink.written c.loop-line.sink in
    let events = g.R.Ruler.log c.args.ruler.now in
    let events' = g.R.Ruler.log c.loop-line.ruler in
    let at = c.loop-line.invariant.at in
    subst (λ (status : Status). Runs c.args.stats left now held held' events events' status) (sym c.ended.ensures)
    (script_ended c.args.stats left now held held' events events' at.given (course_of c.loop-line.progress.engine) c.loop-line.progress.number c.loop-line.progress.refused at.answered
    (end_given left now at.given c.next_line.new.reader.lines c.next_line.new.reader.ended c.in-Ok-None.field-0 c.in-Ok-None.field-0-is (c.in-Ok-None.ensures.next left at.given at.input)))

pub returns-in-Err-next_line-clause-runs : goal.returns-in-Err-next_line-clause-runs
returns-in-Err-next_line-clause-runs g c =
    let left = g.S.Source.left c.args.source.now in
    let at = c.loop-line.invariant.at in
    script_stopped c.args.stats left (g.S.Source.left c.next_line.new.source) (g.K.Sink.written c.args.sink.now) (g.K.Sink.written c.loop-line.sink) (g.R.Ruler.log c.args.ruler.now) (g.R.Ruler.log c.loop-line.ruler) at.given (course_of c.loop-line.progress.engine)
    c.loop-line.progress.number c.loop-line.progress.refused at.answered c.in-Err-next_line.status (c.in-Err-next_line.ensures.next left at.given at.input)

pub returns-in-Err-next_line-clause-write : goal.returns-in-Err-next_line-clause-write
returns-in-Err-next_line-clause-write g c =
    let left = g.S.Source.left c.args.source.now in
    let at = c.loop-line.invariant.at in
    unwritten_stop left (g.S.Source.left c.next_line.new.source) at.given c.in-Err-next_line.status (g.K.Sink.faults c.args.sink.now) (g.K.Sink.faults c.loop-line.sink) (c.in-Err-next_line.ensures.next left at.given at.input) c.loop-line.invariant.written

pub returns-in-Err-handle_line-clause-spares : goal.returns-in-Err-handle_line-clause-spares
returns-in-Err-handle_line-clause-spares g c =
    let left = g.S.Source.left c.args.source.now in
    let now = g.S.Source.left c.next_line.new.source in
    let at = c.loop-line.invariant.at in
    let line = line_given left now at.given c.in-Ok-Some.line c.next_line.new.reader.lines c.next_line.new.reader.ended c.in-Ok-Some.field-0 c.in-Ok-Some.field-0-is (c.in-Ok-Some.ensures.next left at.given at.input) in
    record {
      given = at.given ++ c.in-Ok-Some.line ∷ [];
      first = first_given left now (at.given ++ c.in-Ok-Some.line ∷ []) c.next_line.new.reader.lines c.next_line.new.reader.ended line.all;
      spared = λ touches f.
          c.in-Err-handle_line.ensures.spares touches (g.R.Ruler.log c.args.ruler.now)
          (agrees_line touches at.given (course_of c.loop-line.progress.engine) c.loop-line.progress.number c.loop-line.progress.refused at.answered.laid c.in-Ok-Some.line f)
          (c.loop-line.invariant.spared touches (follows_given touches at.given (course_of c.loop-line.progress.engine) c.loop-line.progress.number c.loop-line.progress.refused at.answered.laid c.in-Ok-Some.line f));
    }

pub returns-in-Ok-None-clause-spares : goal.returns-in-Ok-None-clause-spares
returns-in-Ok-None-clause-spares g c =
    let left = g.S.Source.left c.args.source.now in
    let at = c.loop-line.invariant.at in
    record {
      given = at.given;
      first = first_given left (g.S.Source.left c.loop-line.source) at.given c.loop-line.reader.lines c.loop-line.reader.ended at.input;
      spared = λ touches f. spares_some touches (g.R.Ruler.log c.args.ruler.now) (g.R.Ruler.log c.loop-line.ruler) c.loop-line.progress.engine.page (c.loop-line.invariant.spared touches f);
    }

pub returns-in-Err-next_line-clause-spares : goal.returns-in-Err-next_line-clause-spares
returns-in-Err-next_line-clause-spares g c =
    let left = g.S.Source.left c.args.source.now in
    let at = c.loop-line.invariant.at in
    record {
      given = at.given;
      first = first_given left (g.S.Source.left c.loop-line.source) at.given c.loop-line.reader.lines c.loop-line.reader.ended at.input;
      spared = λ touches f. spares_some touches (g.R.Ruler.log c.args.ruler.now) (g.R.Ruler.log c.loop-line.ruler) c.loop-line.progress.engine.page (c.loop-line.invariant.spared touches f);
    }

pub returns-in-Err-clause-spares : goal.returns-in-Err-clause-spares
returns-in-Err-clause-spares g c = input_none (g.S.Source.left c.args.source.now) (g.R.Ruler.log c.args.ruler.now) (g.R.Ruler.log c.start.new.ruler) (λ touches. c.in-Err.ensures.spares touches)

pub returns-in-Ok-None-clause-replies : goal.returns-in-Ok-None-clause-replies
returns-in-Ok-None-clause-replies g c =
    let left = g.S.Source.left c.args.source.now in
    let now = g.S.Source.left c.next_line.new.source in
    let at = c.loop-line.invariant.at in
    ended_replies c.args.stats (g.K.Sink.written c.args.sink.now) (g.K.Sink.written c.loop-line.sink) (g.R.Ruler.log c.args.ruler.now) (g.R.Ruler.log c.loop-line.ruler) c.args.passes.now c.loop-line.passes left now at.given c.loop-line.progress.refused c.ended.result c.ended.ensures
    (end_given left now at.given c.next_line.new.reader.lines c.next_line.new.reader.ended c.in-Ok-None.field-0 c.in-Ok-None.field-0-is (c.in-Ok-None.ensures.next left at.given at.input)) c.loop-line.invariant.replied

pub returns-in-Err-next_line-clause-replies : goal.returns-in-Err-next_line-clause-replies
returns-in-Err-next_line-clause-replies g c =
    let left = g.S.Source.left c.args.source.now in
    let at = c.loop-line.invariant.at in
    stopped_replies at.given (course_of c.loop-line.progress.engine) c.loop-line.progress.number c.loop-line.progress.refused at.answered.laid c.args.stats (g.K.Sink.written c.args.sink.now) (g.K.Sink.written c.loop-line.sink) (g.R.Ruler.log c.args.ruler.now)
    (g.R.Ruler.log c.loop-line.ruler) c.args.passes.now c.loop-line.passes left (g.S.Source.left c.loop-line.source) c.loop-line.reader.lines c.loop-line.reader.ended c.in-Err-next_line.status at.input c.loop-line.invariant.replied (g.S.Source.left c.next_line.new.source)
    (c.in-Err-next_line.ensures.next left at.given at.input)

pub returns-in-Err-handle_line-clause-replies : goal.returns-in-Err-handle_line-clause-replies
returns-in-Err-handle_line-clause-replies g c =
    unwritten_replies c.args.stats (g.K.Sink.written c.args.sink.now) (g.K.Sink.written c.handle_line.new.sink) (g.R.Ruler.log c.args.ruler.now) (g.R.Ruler.log c.handle_line.new.ruler) c.args.passes.now c.handle_line.new.passes (g.S.Source.left c.args.source.now)
    c.in-Err-handle_line.status c.in-Err-handle_line.ensures.stops

pub returns-in-Err-clause-replies : goal.returns-in-Err-clause-replies
returns-in-Err-clause-replies g c = c.in-Err.ensures.replies

pub loop-line-init : goal.loop-line-init
loop-line-init g c =
    let at = c.in-Ok.ensures.starts in
    record {
      at = at;
      spared = λ touches f. c.in-Ok.ensures.spares touches;
      replied =
          first_replies at.given (course_of c.in-Ok.progress.engine) c.in-Ok.progress.number c.in-Ok.progress.refused at.answered.laid c.args.stats (g.K.Sink.written c.args.sink.now) (g.K.Sink.written c.start.new.sink) (g.R.Ruler.log c.args.ruler.now) (g.R.Ruler.log c.start.new.ruler)
          c.args.passes.now c.start.new.passes c.in-Ok.ensures.one c.in-Ok.ensures.replies;
      laid = search rules;
      count = search rules;
      within = c.in-Ok.ensures.asks.within;
      read = search rules;
      written = search rules;
      asks = c.in-Ok.ensures.asks;
    }

-- ---- how often the source was asked

pub returns-in-Err-clause-asks : goal.returns-in-Err-clause-asks
returns-in-Err-clause-asks g c = c.in-Err.ensures.asks

pub returns-in-Err-handle_line-clause-asks : goal.returns-in-Err-handle_line-clause-asks
returns-in-Err-handle_line-clause-asks g c =
    asks_done (g.S.Source.left c.args.source.now) (g.S.Source.left c.next_line.new.source) (g.S.Source.asked c.args.source.now) (g.S.Source.asked c.next_line.new.source) c.next_line.new.reader.count c.next_line.new.reader.ended
    (c.in-Ok-Some.ensures.asks (g.S.Source.left c.args.source.now) (g.S.Source.asked c.args.source.now) c.loop-line.invariant.asks)

pub returns-in-Ok-None-clause-asks : goal.returns-in-Ok-None-clause-asks
returns-in-Ok-None-clause-asks g c =
    asks_done (g.S.Source.left c.args.source.now) (g.S.Source.left c.next_line.new.source) (g.S.Source.asked c.args.source.now) (g.S.Source.asked c.next_line.new.source) c.next_line.new.reader.count c.next_line.new.reader.ended
    (c.in-Ok-None.ensures.asks (g.S.Source.left c.args.source.now) (g.S.Source.asked c.args.source.now) c.loop-line.invariant.asks)

pub returns-in-Err-next_line-clause-asks : goal.returns-in-Err-next_line-clause-asks
returns-in-Err-next_line-clause-asks g c = c.in-Err-next_line.ensures.asks (g.S.Source.left c.args.source.now) (g.S.Source.asked c.args.source.now) c.loop-line.invariant.asks

-- ---- no fault where all lines were answered

pub returns-in-Ok-None-clause-read : goal.returns-in-Ok-None-clause-read
returns-in-Ok-None-clause-read g c =
    ended_read c.loop-line.progress.refused c.ended.result c.ended.ensures (g.S.Source.faults c.args.source.now) (g.S.Source.faults c.next_line.new.source)
    (omega (arith, c.loop-line.invariant.read, c.in-Ok-None.ensures.cause.later))

pub returns-in-Ok-None-clause-write : goal.returns-in-Ok-None-clause-write
returns-in-Ok-None-clause-write g c =
    ended_written c.loop-line.progress.refused c.ended.result c.ended.ensures (g.K.Sink.faults c.args.sink.now) (g.K.Sink.faults c.loop-line.sink) c.loop-line.invariant.written
