use Rattle.open_document.proofs.HaveCome.{noted_came}
use Rattle.open_document.proofs.coming.Coming.take_in_step.Goals as goal

pub returns-clause-came : goal.returns-clause-came
returns-clause-came c done came =
    let s = c.args.self.now in
    let t = c.note.new.self in
    let e = c.in_ok-note.ensures in
    noted_came s.before.now s.count s.changes.items s.apart s.boxes.items done c.args.name.now c.args.rect c.args.same t.before.now t.count t.changes.items t.apart t.boxes.items c.requires.apart c.requires.compared e.before e.count e.changes e.apart e.boxes came
