use Rattle.session.specs.Standing.{doc_of}
use Rattle.session.proofs.Draws.{due_after, emptied_after}
use Rattle.session.proofs.Making.{changes, told, named, accepted, still_made, on_ok, on_both}
use Rattle.session.proofs.made.edit_once.Goals as goal

pub apply-requires-clause-change : goal.apply-requires-clause-change
apply-requires-clause-change c = changes c.args.nodes c.args.draws.now.state c.in_ok-edit.edit c.in_ok-edit.ensures.edit

pub apply-requires-clause-named : goal.apply-requires-clause-named
apply-requires-clause-named c = named c.args.nodes c.args.draws.now.state c.in_ok-edit.edit c.in_ok-edit.ensures.edit

pub apply-requires-clause-told : goal.apply-requires-clause-told
apply-requires-clause-told c = told c.args.nodes c.args.draws.now.state c.in_ok-edit.edit c.in_ok-edit.ensures.edit (doc_of c.args.engine.now).version c.requires.made.version

pub apply-requires-clause-accepted : goal.apply-requires-clause-accepted
apply-requires-clause-accepted c = accepted c.args.nodes c.args.draws.now.state c.in_ok-edit.edit c.in_ok-edit.ensures.edit (doc_of c.args.engine.now) c.requires.some c.requires.made

pub returns-clause-made : goal.returns-clause-made
returns-clause-made c =
    on_ok c.apply.result
    (λ e. still_made c.args.nodes c.args.draws.now.state c.in_ok-edit.edit c.in_ok-edit.ensures.edit (doc_of c.args.engine.now) (doc_of c.apply.new.engine) c.requires.some c.requires.made e)
    c.apply.ensures.document

pub returns-clause-spares : goal.returns-clause-spares
returns-clause-spares c touches before log k agrees p =
    on_both c.apply.result
    (λ made spreads. due_after touches k c.args.nodes c.args.draws.now.state c.in_ok-edit.edit c.args.engine.now.page c.apply.new.engine.page c.in_ok-edit.ensures.edit agrees made spreads.kept before log p)
    c.apply.ensures.document c.apply.ensures.spreads

pub returns-clause-emptied : goal.returns-clause-emptied
returns-clause-emptied c touches k later agrees =
    on_both c.apply.result
    (λ made spreads. emptied_after touches k c.args.nodes c.args.draws.now.state c.in_ok-edit.edit c.args.engine.now.page c.apply.new.engine.page c.in_ok-edit.ensures.edit agrees made spreads.kept later spreads.up)
    c.apply.ensures.document c.apply.ensures.spreads
