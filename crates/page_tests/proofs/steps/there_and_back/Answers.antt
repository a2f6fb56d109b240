use Rattle.edit_journal.specs.Changes.{turned}
use Rattle.page_tree.specs.Pages.{document_of}
use Rattle.page_tests.proofs.Stepped.{back_fits, ready_again}
use Rattle.page_tests.proofs.steps.there_and_back.Goals as goal

pub turn-requires-2-clause-fits : goal.turn-requires-2-clause-fits
turn-requires-2-clause-fits c =
    let e = c.args.edit.now in
    let doc = document_of c.args.page.now in
    let step = c.in_ok-step.step in
    let made = c.in_ok-step.ensures in
    back_fits e doc (document_of c.turn.new.self) step made.is (c.steps_fit.ensures e doc (turned step.forward doc) c.requires.ready.valid.shaped c.requires.change c.requires.named made.made) c.in_ok-turn.ensures.document

pub returns : goal.returns
returns c =
    let e = c.args.edit.now in
    let doc = document_of c.args.page.now in
    let step = c.in_ok-step.step in
    let made = c.in_ok-step.ensures in
    let leads = c.steps_lead_back.ensures e doc (turned step.forward doc) c.requires.ready.valid.shaped c.requires.change c.requires.named made.made in
    ready_again e c.args.page.now c.turn.new.self c.turn-2.new.self step made.is leads c.in_ok-turn.ensures.document c.in_ok-turn-2.ensures.document (c.in_ok-turn-2.ensures.right (c.in_ok-turn.ensures.right c.requires.ready.right)) c.requires.ready
