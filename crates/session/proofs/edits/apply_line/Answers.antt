use Rattle.std.proofs.Common.{ap, sym, subst, ◌∙◌, ℕ, Err}
use Rattle.track_text.specs.Gives.{Reads}
use Rattle.track_text.specs.declared.errors.ReadError.{ReadError}
use Rattle.doc_text.specs.EditText.{edit_of}
use Rattle.session.proofs.EditLines.{line_answered, line_refused}
use Rattle.session.proofs.edits.apply_line.Goals as goal

pub returns-in-Ok-clause-answers : goal.returns-in-Ok-clause-answers
returns-in-Ok-clause-answers g c =
    line_answered c.apply_edit.result c.args.engine.now c.apply_edit.new.engine c.args.line.now c.in-Ok.edit (ap (λ (version : ℕ). edit_of version c.args.line.now) (sym c.version.ensures) ∙ c.in-Ok.ensures) c.apply_edit.ensures.answers

pub returns-in-Err-Fault-clause-answers : goal.returns-in-Err-Fault-clause-answers
returns-in-Err-Fault-clause-answers g c =
    line_refused c.args.engine.now c.args.line.now c.in-Err-Fault.fault (ap (λ (version : ℕ). edit_of version c.args.line.now) (sym c.version.ensures) ∙ subst (λ (e : ReadError). Reads (Err e) (edit_of c.version.result c.args.line.now)) c.in-Err-Fault.field-0-is c.in-Err-Fault.ensures)
