use Rattle.session.proofs.Spares.{spares_any}
use Rattle.session.proofs.Replies.{reply_written}
use Rattle.std.proofs.Common.{subst, ℕ, List}
use Rattle.outside.specs.Told.{Adds}
use Rattle.session.specs.Courses.{made_by}
use Rattle.session.specs.Standing.{course_of}
use Rattle.session.proofs.answer.write_answer.Goals as goal

pub returns-in_err-write-clause-spares : goal.returns-in_err-write-clause-spares
returns-in_err-write-clause-spares g c touches before agrees p =
    spares_any touches before (g.R.Ruler.log c.answer_to_edit.new.ruler) c.answer_to_edit.new.engine.page c.from_residual-in_err-write.result (c.in_ok-answer.ensures.spares touches before agrees p)

pub returns-clause-replies : goal.returns-clause-replies
returns-clause-replies g c touches later agrees =
    reply_written c.args.stats touches (g.R.Ruler.log c.args.ruler.now) (g.R.Ruler.log c.answer_to_edit.new.ruler) c.args.passes.now c.answer_to_edit.new.passes c.args.k (made_by (course_of c.args.engine.now) c.args.line.now) c.in_ok-answer.answer.text.items
    (c.in_ok-answer.ensures.replies touches later agrees)
    (g.K.Sink.written c.args.sink.now) (g.K.Sink.written c.write.new.sink) (subst (λ (x : List ℕ). Adds (g.K.Sink.written c.args.sink.now) (g.K.Sink.written c.write.new.sink) x) c.deref.ensures.value c.in_ok-write.ensures.ok)
