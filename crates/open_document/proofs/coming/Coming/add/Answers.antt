use Rattle.std.proofs.Common.{rules, ◌≡◌, ◌++◌, ◌∷◌, []}
use Rattle.session.specs.Printing.{Box}
use Rattle.open_document.proofs.HaveCome.{added_came}
use Rattle.open_document.proofs.coming.Coming.add.Goals as goal

pub returns-clause-came : goal.returns-clause-came
returns-clause-came c done came =
    let s = c.args.self.now in
    let box : Box = (c.args.name.now, c.args.rect) in
    let more : c.push_reserved.new.self.items ≡ s.boxes.items ++ box ∷ [] = search rules in
    added_came s.before.now s.count s.changes.items s.apart s.boxes.items done (box ∷ []) c.push_reserved.new.self.items c.requires.apart more came
