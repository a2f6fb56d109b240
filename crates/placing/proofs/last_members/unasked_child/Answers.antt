use Rattle.placing.specs.Nodes.{bare}
use Rattle.placing.proofs.LastMembers.{child_of_number}
use Rattle.placing.proofs.last_members.unasked_child.Goals as goal

pub returns-clause-child : goal.returns-clause-child
returns-clause-child c = child_of_number (bare c.args.tree.now.tree) c.args.id c.child-child.result c.args.number c.child-child.ensures.next
