use Rattle.std.specs.BTreeMap.{get}
use Rattle.std.specs.Ordering.{nat_cmp}
use Rattle.std.specs.Cmp.Lexicographic.{slice_cmp}
use Rattle.page_tree.proofs.Moves.{moved_either}
use Rattle.page_tree.proofs.register.Register.move_to.Goals as goal

pub invariant_of-self : goal.invariant_of-self
invariant_of-self c =
    moved_either (get (slice_cmp nat_cmp) c.self.inside.numbers) c.args.id c.args.to c.args.index c.move_to.result c.self.inside.tree c.move_to.new.self (rw c.self.view_is c.requires.live) (rw c.self.view_is c.requires.once) c.self.invariant c.move_to.ensures.ok c.move_to.ensures.err
