use Rattle.std.proofs.Common.{refl, subst, arith, false, Err}
use Rattle.std.specs.Prelude.{is_some}
use Rattle.doc_text.specs.declared.edit.Edit.TheVariants as edit
use Rattle.page_tree.specs.declared.error.EditError.TheVariants as error
use Rattle.session.specs.Engine.{Applies, IsEdited}
use Rattle.session.specs.Standing.{Standing, steps_of}
use Rattle.session.proofs.Applying.{too_many_again, redoes}
use Rattle.session.proofs.engine.Engine.redo.Goals as goal

pub returns-then-undone-count-clause-applies : goal.returns-then-undone-count-clause-applies
returns-then-undone-count-clause-applies c =
    subst (λ (s : Standing). Applies (Err (error.Refused (record { number = 26; place = c.args.at }))) (edit.Redo c.args.count c.args.at) s s) c.self.view_is
    (too_many_again c.args.count c.args.at c.self.inside.page c.self.inside.journal (omega (arith, c.if-undone-count.true, c.undone.ensures)), record { page = refl; steps = refl; laid = refl })

pub returns-in-Err-clause-applies : goal.returns-in-Err-clause-applies
returns-in-Err-clause-applies c =
    subst (λ (s : Standing). Applies (Err error.NoMemory) (edit.Redo c.args.count c.args.at) s (record { page = c.make_all_again.new.page; calls = c.self.inside.calls; laid = false; steps = steps_of c.make_all_again.new.journal })) c.self.view_is (c.in-Err.ensures.err, refl)

pub returns-clause-applies : goal.returns-clause-applies
returns-clause-applies c =
    subst (λ (s : Standing). IsEdited (edit.Redo c.args.count c.args.at) s (record { page = c.make_all_again.new.page; calls = c.self.inside.calls; laid = false; steps = steps_of c.make_all_again.new.journal })) c.self.view_is
    (redoes c.args.count c.args.at (record { page = c.self.inside.page; calls = c.self.inside.calls; laid = is_some c.self.inside.root; steps = steps_of c.self.inside.journal })
    (record { page = c.make_all_again.new.page; calls = c.self.inside.calls; laid = false; steps = steps_of c.make_all_again.new.journal })
    c.self.inside.journal refl (omega (arith, c.if-undone-count.false, c.undone.ensures)) c.in-Ok.ensures.ok refl)
