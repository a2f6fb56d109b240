use Rattle.session.proofs.Pieces.{asks_done, with_line, short_next, given_end, no_memory, stays_open}
use Rattle.std.proofs.Common.{sym, ap, subst, ◌∙◌, Bool, Option, Ok}
use Rattle.session.specs.Input.{AsksSoFar}
use Rattle.text_scan.specs.declared.line.Line.{Line}
use Rattle.text_scan.specs.Stream.{is_line_due}
use Rattle.session.proofs.input.next_line.Goals as goal

pub returns-in-Ok-Some-clause-next : goal.returns-in-Ok-Some-clause-next
returns-in-Ok-Some-clause-next g c =
    λ before given p. with_line before (g.S.Source.left c.loop-line.source) given c.loop-line.reader.lines c.take.new.self c.loop-line.reader.ended (c.loop-line.invariant.given before given p) c.in-Ok-Some.ensures.ok c.in-Ok-Some.line (sym c.in-Ok-Some.field-0-is ∙ c.in-Ok-Some.ensures.line)

pub returns-in-Ok-Some-clause-short : goal.returns-in-Ok-Some-clause-short
returns-in-Ok-Some-clause-short g c = short_next (is_line_due c.loop-line.reader.ended c.loop-line.reader.lines.held) c.in-Ok-Some.line _ _ (sym c.in-Ok-Some.field-0-is ∙ c.in-Ok-Some.ensures.line)

pub returns-then-reader-clause-next : goal.returns-then-reader-clause-next
returns-then-reader-clause-next g c =
    λ before given p. given_end before (g.S.Source.left c.loop-line.source) given c.loop-line.reader.lines c.loop-line.reader.ended (c.loop-line.invariant.given before given p) c.if-reader.true (c.in-Ok-None.ensures.none.0 (ap (λ (o : Option Line). Ok o) c.in-Ok-None.field-0-is))

pub returns-in-Err-clause-next : goal.returns-in-Err-clause-next
returns-in-Err-clause-next g c =
    λ before given p. no_memory before (g.S.Source.left c.loop-line.source) given c.loop-line.reader.lines c.loop-line.reader.ended (c.loop-line.invariant.given before given p)

pub returns-in-Err-read_on-clause-next : goal.returns-in-Err-read_on-clause-next
returns-in-Err-read_on-clause-next g c =
    λ before given p. c.in-Err-read_on.ensures.on before given
    (stays_open before (g.S.Source.left c.loop-line.source) given c.loop-line.reader.lines c.take.new.self c.loop-line.reader.ended (c.loop-line.invariant.given before given p) c.in-Ok-None.ensures.ok
    (c.in-Ok-None.ensures.none.0 (ap (λ (o : Option Line). Ok o) c.in-Ok-None.field-0-is)) c.if-reader.false)

-- ---- how often the source was asked

pub returns-in-Ok-Some-clause-asks : goal.returns-in-Ok-Some-clause-asks
returns-in-Ok-Some-clause-asks g c = λ before first p. c.loop-line.invariant.asks before first p

pub returns-then-reader-clause-asks : goal.returns-then-reader-clause-asks
returns-then-reader-clause-asks g c = λ before first p. c.loop-line.invariant.asks before first p

pub returns-in-Err-clause-asks : goal.returns-in-Err-clause-asks
returns-in-Err-clause-asks g c =
    λ before first p. asks_done before (g.S.Source.left c.loop-line.source) first (g.S.Source.asked c.loop-line.source) c.loop-line.reader.count c.loop-line.reader.ended (c.loop-line.invariant.asks before first p)

pub returns-in-Err-read_on-clause-asks : goal.returns-in-Err-read_on-clause-asks
returns-in-Err-read_on-clause-asks g c =
    λ before first p. c.in-Err-read_on.ensures.asks before first (subst (λ (b : Bool). AsksSoFar before (g.S.Source.left c.loop-line.source) first (g.S.Source.asked c.loop-line.source) c.loop-line.reader.count b) c.if-reader.false (c.loop-line.invariant.asks before first p))
