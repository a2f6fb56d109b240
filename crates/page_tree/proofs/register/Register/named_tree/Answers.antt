use Rattle.std.proofs.Common.{subst}
use Rattle.std.specs.BTreeMap.{get}
use Rattle.std.specs.Ordering.{nat_cmp}
use Rattle.std.specs.Cmp.Lexicographic.{slice_cmp}
use Rattle.node_arena.specs.Plain.{Nodes}
use Rattle.placing.specs.declared.node.Node.{Node}
use Rattle.page_tree.specs.Registers.{AreNamed}
use Rattle.page_tree.proofs.Registers.{all_named}
use Rattle.page_tree.proofs.register.Register.named_tree.Goals as goal

pub returns-clause-named : goal.returns-clause-named
returns-clause-named c = subst (λ (n : Nodes Node). AreNamed n.tree) c.self.view_is (all_named (get (slice_cmp nat_cmp) c.self.inside.numbers) c.self.inside.tree.tree c.self.invariant)
