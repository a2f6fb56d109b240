use Rattle.std.proofs.Common.{rules}
use Rattle.session.specs.Engine.{IsEdit, IsEdited}
use Rattle.session.proofs.EditLines.{edit_made}
use Rattle.session.proofs.edits.apply_edit.Goals as goal

pub returns-in-Ok-clause-answers : goal.returns-in-Ok-clause-answers
returns-in-Ok-clause-answers g c =
    let is : IsEdit c.args.edit = search rules in
    let edited : IsEdited c.args.edit c.args.engine.now c.apply.new.self = search rules in
    edit_made c.args.edit c.args.engine.now c.apply.new.self is edited
