use Rattle.session.proofs.Applying.{can_make_again, again_given, again_is, makes_nothing, makes_one, well_again, well_unturned}
use Rattle.page_tree.proofs.Fitting.{turning_fits}
use Rattle.page_tree.specs.Pages.{document_of}
use Rattle.session.proofs.tracing.make_again.Goals as goal

pub turn-turned-requires-clause-fits : goal.turn-turned-requires-clause-fits
turn-turned-requires-clause-fits c = turning_fits c.in-Ok.change.now (document_of c.args.page.now) (can_make_again c.in-Ok.change.now c.args.page.now c.args.last.now c.args.journal.now c.requires.well c.in-Ok.ensures.change)

pub returns-in-Ok-turned-clause-well : goal.returns-in-Ok-turned-clause-well
returns-in-Ok-turned-clause-well c =
    well_again c.args.page.now c.turn-turned.new.self c.args.last.now c.turn-turned.new.last c.args.journal.now c.redo.follows.lender-at-none c.requires.well (c.turn-turned.ensures.right c.requires.well.sound.right) c.turn-turned.ensures.last c.in-Ok.change.now c.in-Ok-turned.ensures.document
    (again_is c.redo.result c.in-Ok.change c.args.journal.now c.redo.follows.lender-at-none c.in-Ok.is c.redo.follows.holds-at-none) c.in-Ok.ensures.change

pub returns-in-Ok-turned-clause-ok : goal.returns-in-Ok-turned-clause-ok
returns-in-Ok-turned-clause-ok c =
    makes_one c.args.page.now c.turn-turned.new.self c.args.last.now c.turn-turned.new.last c.args.journal.now c.redo.follows.lender-at-none c.requires.well (c.turn-turned.ensures.right c.requires.well.sound.right) c.turn-turned.ensures.last c.in-Ok.change.now c.in-Ok-turned.ensures.document
    (again_is c.redo.result c.in-Ok.change c.args.journal.now c.redo.follows.lender-at-none c.in-Ok.is c.redo.follows.holds-at-none) c.in-Ok.ensures.change c.in-Ok-turned.ensures.kept

pub returns-in-Err-turned-clause-well : goal.returns-in-Err-turned-clause-well
returns-in-Err-turned-clause-well c =
    well_unturned c.args.page.now c.turn-turned.new.self c.args.last.now c.turn-turned.new.last c.args.journal.now c.undo.follows.lender-at-none c.requires.well (c.turn-turned.ensures.right c.requires.well.sound.right) c.turn-turned.ensures.last c.in-Ok.change.now c.in-Err-turned.ensures.err
    (again_given c.undo.result c.args.journal.now c.redo.follows.lender-at-none c.undo.follows.lender-at-none (again_is c.redo.result c.in-Ok.change c.args.journal.now c.redo.follows.lender-at-none c.in-Ok.is c.redo.follows.holds-at-none) c.undo.ensures.nothing c.undo.follows.holds-at-none)

pub returns-in-Err-turned-clause-err : goal.returns-in-Err-turned-clause-err
returns-in-Err-turned-clause-err c =
    makes_nothing c.args.page.now c.turn-turned.new.self c.args.last.now c.turn-turned.new.last c.args.journal.now c.undo.follows.lender-at-none c.requires.well (c.turn-turned.ensures.right c.requires.well.sound.right) c.turn-turned.ensures.last c.in-Ok.change.now c.in-Err-turned.ensures.err
    (again_given c.undo.result c.args.journal.now c.redo.follows.lender-at-none c.undo.follows.lender-at-none (again_is c.redo.result c.in-Ok.change c.args.journal.now c.redo.follows.lender-at-none c.in-Ok.is c.redo.follows.holds-at-none) c.undo.ensures.nothing
    c.undo.follows.holds-at-none) c.pages_stand.ensures
