use Rattle.std.proofs.Common.{ap, subst, sym, ℕ, Option, Ok}
use Rattle.session.specs.Courses.{made_by}
use Rattle.session.specs.Engine.{AnswersLine}
use Rattle.session.specs.Replies.{HasReply}
use Rattle.session.specs.Script.{doc_made, made_of}
use Rattle.session.specs.Standing.{course_of, doc_of, history_of}
use Rattle.session.specs.declared.said.Said.{Said}
use Rattle.session.proofs.EditLines.{answered_laid, answered_said, logged_front, prints_ok, prints_said}
use Rattle.session.proofs.Spares.{said_same, spares_due, spares_err, spares_some}
use Rattle.session.proofs.Replies.{edit_emptied, on_any, reply_same, unlaid_reply}
use Rattle.session.proofs.edits.answer_to_edit.Goals as goal

pub returns-in_ok-layout_text-in-Ok-None-clause-answered : goal.returns-in_ok-layout_text-in-Ok-None-clause-answered
returns-in_ok-layout_text-in-Ok-None-clause-answered g c =
    answered_laid c.args.engine.now c.apply_line.new.engine c.layout_text.new.engine c.args.line.now (subst (λ (said : Option Said). AnswersLine said c.args.line.now c.args.engine.now c.apply_line.new.engine) c.in-Ok-None.field-0-is c.in-Ok-None.ensures.answers)
    c.in_ok-layout_text-in-Ok-None.ensures.same

pub returns-in_ok-layout_text-in-Ok-None-clause-prints : goal.returns-in_ok-layout_text-in-Ok-None-clause-prints
returns-in_ok-layout_text-in-Ok-None-clause-prints g c =
    prints_ok c.args.stats c.args.k (made_of (history_of c.args.engine.now) c.args.line.now) (history_of c.apply_line.new.engine) (g.R.Ruler.log c.args.ruler.now) (g.R.Ruler.log c.layout_text.new.ruler) c.in_ok-layout_text-in-Ok-None.field-0.items
    (subst (λ (said : Option Said). AnswersLine said c.args.line.now c.args.engine.now c.apply_line.new.engine) c.in-Ok-None.field-0-is c.in-Ok-None.ensures.answers).made c.in_ok-layout_text-in-Ok-None.ensures.prints

pub returns-in_ok-said_text-in-Ok-Some-clause-answered : goal.returns-in_ok-said_text-in-Ok-Some-clause-answered
returns-in_ok-said_text-in-Ok-Some-clause-answered g c =
    answered_said c.args.engine.now c.apply_line.new.engine c.args.line.now c.in-Ok-Some.said c.is_refusal.result (subst (λ (said : Option Said). AnswersLine said c.args.line.now c.args.engine.now c.apply_line.new.engine) c.in-Ok-Some.field-0-is c.in-Ok-Some.ensures.answers) c.is_refusal.ensures

pub returns-in_ok-said_text-in-Ok-Some-clause-prints : goal.returns-in_ok-said_text-in-Ok-Some-clause-prints
returns-in_ok-said_text-in-Ok-Some-clause-prints g c =
    prints_said c.args.stats c.args.k (made_of (history_of c.args.engine.now) c.args.line.now) c.args.engine.now c.apply_line.new.engine c.in-Ok-Some.said (g.R.Ruler.log c.args.ruler.now) c.in_ok-said_text-in-Ok-Some.field-0.items
    (subst (λ (said : Option Said). AnswersLine said c.args.line.now c.args.engine.now c.apply_line.new.engine) c.in-Ok-Some.field-0-is c.in-Ok-Some.ensures.answers) c.in_ok-said_text-in-Ok-Some.ensures

pub returns-in_err-layout_text-in-Ok-None-clause-err : goal.returns-in_err-layout_text-in-Ok-None-clause-err
returns-in_err-layout_text-in-Ok-None-clause-err g c =
    on_any c.from_residual.result
    (logged_front c.args.k (made_of (history_of c.args.engine.now) c.args.line.now) (history_of c.apply_line.new.engine) (g.R.Ruler.log c.args.ruler.now) (g.R.Ruler.log c.layout_text.new.ruler)
    (subst (λ (said : Option Said). AnswersLine said c.args.line.now c.args.engine.now c.apply_line.new.engine) c.in-Ok-None.field-0-is c.in-Ok-None.ensures.answers).made c.in_err-layout_text-in-Ok-None.ensures.err)

pub returns-in_ok-layout_text-in-Ok-None-clause-spares : goal.returns-in_ok-layout_text-in-Ok-None-clause-spares
returns-in_ok-layout_text-in-Ok-None-clause-spares g c touches before agrees p =
    c.in_ok-layout_text-in-Ok-None.ensures.spares touches before
    (spares_due touches before (g.R.Ruler.log c.args.ruler.now) c.args.k c.args.engine.now c.apply_line.new.engine c.args.line.now p agrees
    (subst (λ (said : Option Said). AnswersLine said c.args.line.now c.args.engine.now c.apply_line.new.engine) c.in-Ok-None.field-0-is c.in-Ok-None.ensures.answers).spreads)

pub returns-in_ok-said_text-in-Ok-Some-clause-spares : goal.returns-in_ok-said_text-in-Ok-Some-clause-spares
returns-in_ok-said_text-in-Ok-Some-clause-spares g c touches before agrees p =
    said_same c.args.engine.now c.apply_line.new.engine (subst (λ (said : Option Said). AnswersLine said c.args.line.now c.args.engine.now c.apply_line.new.engine) c.in-Ok-Some.field-0-is c.in-Ok-Some.ensures.answers).before touches before (g.R.Ruler.log c.args.ruler.now) p

pub returns-in_err-said_text-in-Ok-Some-clause-spares : goal.returns-in_err-said_text-in-Ok-Some-clause-spares
returns-in_err-said_text-in-Ok-Some-clause-spares g c touches before agrees p =
    spares_err touches before (g.R.Ruler.log c.args.ruler.now) c.apply_line.new.engine.page c.from_residual-in_err-said_text-in-Ok-Some.result c.from_residual-in_err-said_text-in-Ok-Some.ensures.0 (spares_some touches before (g.R.Ruler.log c.args.ruler.now) c.args.engine.now.page p)

pub returns-in-Err-clause-spares : goal.returns-in-Err-clause-spares
returns-in-Err-clause-spares g c touches before agrees p =
    spares_some touches before (g.R.Ruler.log c.args.ruler.now) c.args.engine.now.page p

pub returns-in_err-layout_text-in-Ok-None-clause-spares : goal.returns-in_err-layout_text-in-Ok-None-clause-spares
returns-in_err-layout_text-in-Ok-None-clause-spares g c touches before agrees p =
    spares_err touches before (g.R.Ruler.log c.layout_text.new.ruler) c.layout_text.new.engine.page c.from_residual.result c.from_residual.ensures.0
    (c.in_err-layout_text-in-Ok-None.ensures.spares touches before
    (spares_due touches before (g.R.Ruler.log c.args.ruler.now) c.args.k c.args.engine.now c.apply_line.new.engine c.args.line.now p agrees
    (subst (λ (said : Option Said). AnswersLine said c.args.line.now c.args.engine.now c.apply_line.new.engine) c.in-Ok-None.field-0-is c.in-Ok-None.ensures.answers).spreads))

pub returns-in_ok-layout_text-in-Ok-None-clause-replies : goal.returns-in_ok-layout_text-in-Ok-None-clause-replies
returns-in_ok-layout_text-in-Ok-None-clause-replies g c touches later agrees =
    subst (λ (n : ℕ). HasReply c.args.stats touches (g.R.Ruler.log c.args.ruler.now) (g.R.Ruler.log c.layout_text.new.ruler) n c.layout_text.new.passes c.args.k (made_by (course_of c.args.engine.now) c.args.line.now) c.in_ok-layout_text-in-Ok-None.field-0.items) c.apply_line.ensures.passes
    (reply_same c.args.stats touches (g.R.Ruler.log c.args.ruler.now) (g.R.Ruler.log c.layout_text.new.ruler) c.apply_line.new.passes c.layout_text.new.passes c.args.k (Ok (doc_of c.apply_line.new.engine)) c.in_ok-layout_text-in-Ok-None.field-0.items
    (c.in_ok-layout_text-in-Ok-None.ensures.replies touches
    (edit_emptied touches c.args.k c.args.engine.now c.apply_line.new.engine c.args.line.now later agrees (subst (λ (said : Option Said). AnswersLine said c.args.line.now c.args.engine.now c.apply_line.new.engine) c.in-Ok-None.field-0-is c.in-Ok-None.ensures.answers).spreads))
    (made_by (course_of c.args.engine.now) c.args.line.now) (ap doc_made (sym (subst (λ (said : Option Said). AnswersLine said c.args.line.now c.args.engine.now c.apply_line.new.engine) c.in-Ok-None.field-0-is c.in-Ok-None.ensures.answers).made)))

pub returns-in_ok-said_text-in-Ok-Some-clause-replies : goal.returns-in_ok-said_text-in-Ok-Some-clause-replies
returns-in_ok-said_text-in-Ok-Some-clause-replies g c touches later agrees =
    let said = (subst (λ (said : Option Said). AnswersLine said c.args.line.now c.args.engine.now c.apply_line.new.engine) c.in-Ok-Some.field-0-is c.in-Ok-Some.ensures.answers) in
    unlaid_reply c.args.stats touches (g.R.Ruler.log c.args.ruler.now) c.args.passes.now c.apply_line.new.passes c.args.k (made_by (course_of c.args.engine.now) c.args.line.now) c.in-Ok-Some.said c.in_ok-said_text-in-Ok-Some.field-0.items (ap doc_made said.made)
    c.apply_line.ensures.passes c.in_ok-said_text-in-Ok-Some.ensures
