use Rattle.std.proofs.Common.{refl, subst, arith, false, Err}
use Rattle.std.specs.Prelude.{is_some}
use Rattle.doc_text.specs.declared.edit.Edit.TheVariants as edit
use Rattle.page_tree.specs.declared.error.EditError.TheVariants as error
use Rattle.session.specs.Engine.{Applies, IsEdited}
use Rattle.session.specs.Standing.{Standing, steps_of}
use Rattle.session.proofs.Applying.{too_many_back, undoes}
use Rattle.session.proofs.engine.Engine.undo.Goals as goal

pub returns-then-done-count-clause-applies : goal.returns-then-done-count-clause-applies
returns-then-done-count-clause-applies c =
    subst (λ (s : Standing). Applies (Err (error.Refused (record { number = 25; place = c.args.at }))) (edit.Undo c.args.count c.args.at) s s) c.self.view_is
    (too_many_back c.args.count c.args.at c.self.inside.page c.self.inside.journal (omega (arith, c.if-done-count.true, c.done.ensures)), record { page = refl; steps = refl; laid = refl })

pub returns-in-Err-clause-applies : goal.returns-in-Err-clause-applies
returns-in-Err-clause-applies c =
    subst (λ (s : Standing). Applies (Err error.NoMemory) (edit.Undo c.args.count c.args.at) s (record { page = c.take_all_back.new.page; calls = c.self.inside.calls; laid = false; steps = steps_of c.take_all_back.new.journal })) c.self.view_is (c.in-Err.ensures.err, refl)

pub returns-clause-applies : goal.returns-clause-applies
returns-clause-applies c =
    subst (λ (s : Standing). IsEdited (edit.Undo c.args.count c.args.at) s (record { page = c.take_all_back.new.page; calls = c.self.inside.calls; laid = false; steps = steps_of c.take_all_back.new.journal })) c.self.view_is
    (undoes c.args.count c.args.at (record { page = c.self.inside.page; calls = c.self.inside.calls; laid = is_some c.self.inside.root; steps = steps_of c.self.inside.journal })
    (record { page = c.take_all_back.new.page; calls = c.self.inside.calls; laid = false; steps = steps_of c.take_all_back.new.journal })
    c.self.inside.journal refl (omega (arith, c.if-done-count.false, c.done.ensures)) c.in-Ok.ensures.ok refl)
