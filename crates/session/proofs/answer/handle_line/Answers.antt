use Rattle.std.proofs.Common.{sym, ◌∙◌}
use Rattle.session.proofs.Progress.{skips, answers, answers_part}
use Rattle.session.specs.Standing.{course_of}
use Rattle.session.proofs.Replies.{edit_replies, skipped_replies}
use Rattle.session.proofs.answer.handle_line.Goals as goal

pub returns-then-is_skipped-clause-answered : goal.returns-then-is_skipped-clause-answered
returns-then-is_skipped-clause-answered g c =
    λ held events given p. skips c.args.stats held (g.K.Sink.written c.args.sink.now) events (g.R.Ruler.log c.args.ruler.now) given (course_of c.args.progress.now.engine) c.args.progress.now.number c.args.progress.now.refused c.args.line.now p (sym c.is_skipped.ensures ∙ c.if-is_skipped.true)

pub returns-in-Ok-clause-answered : goal.returns-in-Ok-clause-answered
returns-in-Ok-clause-answered g c =
    λ held events given p. answers c.args.stats held (g.K.Sink.written c.args.sink.now) events (g.R.Ruler.log c.args.ruler.now) given (course_of c.args.progress.now.engine) c.args.progress.now.number c.args.progress.now.refused c.args.line.now p
    (g.K.Sink.written c.write_answer.new.sink) (g.R.Ruler.log c.write_answer.new.ruler) (course_of c.write_answer.new.engine) c.in-Ok.refused (sym c.is_skipped.ensures ∙ c.if-is_skipped.false) c.in-Ok.ensures.answered c.in-Ok.ensures.answers

pub returns-in-Err-clause-answered : goal.returns-in-Err-clause-answered
returns-in-Err-clause-answered g c =
    λ held events given p. answers_part c.args.stats held (g.K.Sink.written c.args.sink.now) events (g.R.Ruler.log c.args.ruler.now) given (course_of c.args.progress.now.engine) c.args.progress.now.number c.args.progress.now.refused c.args.line.now p
    (g.K.Sink.written c.write_answer.new.sink) (g.R.Ruler.log c.write_answer.new.ruler) (sym c.is_skipped.ensures ∙ c.if-is_skipped.false) c.in-Err.ensures.prefix

pub returns-then-is_skipped-clause-spares : goal.returns-then-is_skipped-clause-spares
returns-then-is_skipped-clause-spares g c = λ touches before agrees p. p

pub returns-in-Ok-clause-spares : goal.returns-in-Ok-clause-spares
returns-in-Ok-clause-spares g c = λ touches before agrees p. c.in-Ok.ensures.spares touches before (agrees (sym c.is_skipped.ensures ∙ c.if-is_skipped.false)) p

pub returns-in-Err-clause-spares : goal.returns-in-Err-clause-spares
returns-in-Err-clause-spares g c = λ touches before agrees p. c.in-Err.ensures.spares touches before (agrees (sym c.is_skipped.ensures ∙ c.if-is_skipped.false)) p

pub returns-then-is_skipped-clause-replies : goal.returns-then-is_skipped-clause-replies
returns-then-is_skipped-clause-replies g c =
    λ touches later agrees. skipped_replies c.args.stats touches (g.K.Sink.written c.args.sink.now) (g.R.Ruler.log c.args.ruler.now) c.args.passes.now c.args.progress.now.number (course_of c.args.progress.now.engine) c.args.line.now (sym c.is_skipped.ensures ∙ c.if-is_skipped.true)

pub returns-in-Ok-clause-replies : goal.returns-in-Ok-clause-replies
returns-in-Ok-clause-replies g c = λ touches later agrees.
    edit_replies c.args.stats touches (g.K.Sink.written c.args.sink.now) (g.K.Sink.written c.write_answer.new.sink) (g.R.Ruler.log c.args.ruler.now) (g.R.Ruler.log c.write_answer.new.ruler) c.args.passes.now c.write_answer.new.passes c.args.progress.now.number
    (course_of c.args.progress.now.engine) c.args.line.now (sym c.is_skipped.ensures ∙ c.if-is_skipped.false)
    (c.in-Ok.ensures.replies touches later (agrees (sym c.is_skipped.ensures ∙ c.if-is_skipped.false)))
