use Rattle.std.proofs.Common.{ap, sym, subst, ◌∙◌, ℕ, Err}
use Rattle.track_text.specs.Gives.{Reads}
use Rattle.track_text.specs.declared.errors.ReadError.{ReadError}
use Rattle.doc_text.specs.EditText.{edit_of}
use Rattle.session.specs.Standing.{history_of}
use Rattle.session.proofs.LastText.{line_taken, line_refused}
use Rattle.session.proofs.writing.take_line.Goals as goal

pub returns-in-Ok : goal.returns-in-Ok
returns-in-Ok c =
    line_taken c.take_edit.result (history_of c.args.engine.now) (history_of c.take_edit.new.engine) c.args.line.now c.in-Ok.edit
    (ap (λ (version : ℕ). edit_of version c.args.line.now) (sym c.version.ensures) ∙ c.in-Ok.ensures) c.take_edit.ensures

pub returns-in-Err-Fault : goal.returns-in-Err-Fault
returns-in-Err-Fault c =
    line_refused (history_of c.args.engine.now) c.args.line.now c.in-Err-Fault.field-0-0
    (ap (λ (version : ℕ). edit_of version c.args.line.now) (sym c.version.ensures)
    ∙ subst (λ (e : ReadError). Reads (Err e) (edit_of c.version.result c.args.line.now)) c.in-Err-Fault.field-0-is c.in-Err-Fault.ensures)
