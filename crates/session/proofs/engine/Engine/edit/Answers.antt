use Rattle.std.proofs.Common.{refl, subst, false, Err}
use Rattle.std.specs.Prelude.{is_some}
use Rattle.session.specs.Engine.{Applies, IsEdited}
use Rattle.session.specs.Standing.{Standing, steps_of}
use Rattle.session.proofs.Applying.{applies_edit, applies_none}
use Rattle.session.proofs.engine.Engine.edit.Goals as goal

pub returns-in-Ok-clause-applies : goal.returns-in-Ok-clause-applies
returns-in-Ok-clause-applies c =
    subst (λ (s : Standing). IsEdited c.args.change s (record { page = c.edit.new.page; calls = c.self.inside.calls; laid = false; steps = steps_of c.edit.new.journal })) c.self.view_is
    (applies_edit c.args.change (record { page = c.self.inside.page; calls = c.self.inside.calls; laid = is_some c.self.inside.root; steps = steps_of c.self.inside.journal }) (record { page = c.edit.new.page; calls = c.self.inside.calls; laid = false; steps = steps_of c.edit.new.journal })
    c.requires.change c.in-Ok.ensures.edits refl)

pub returns-in-Err-clause-applies : goal.returns-in-Err-clause-applies
returns-in-Err-clause-applies c =
    subst (λ (s : Standing). Applies (Err c.in-Err.error) c.args.change s (record { page = c.edit.new.page; calls = c.self.inside.calls; laid = is_some c.self.inside.root; steps = steps_of c.edit.new.journal })) c.self.view_is
    (applies_none c.args.change (record { page = c.self.inside.page; calls = c.self.inside.calls; laid = is_some c.self.inside.root; steps = steps_of c.self.inside.journal })
    (record { page = c.edit.new.page; calls = c.self.inside.calls; laid = is_some c.self.inside.root; steps = steps_of c.edit.new.journal })
    c.requires.change c.in-Err.error c.in-Err.ensures.edits refl)
