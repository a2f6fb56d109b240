use Rattle.std.proofs.Common.{sym, subst}
use Rattle.std.specs.BTreeMap.{get}
use Rattle.std.specs.Ordering.{nat_cmp}
use Rattle.std.specs.Cmp.Lexicographic.{slice_cmp}
use Rattle.node_arena.specs.Plain.{Nodes}
use Rattle.placing.specs.declared.node.Node.{Node}
use Rattle.page_tree.specs.Registers.{HasName, IsRegister}
use Rattle.page_tree.proofs.Registers.{put_registered}
use Rattle.page_tree.proofs.register.Register.put.Goals as goal

pub invariant_of-self : goal.invariant_of-self
invariant_of-self c =
    let find = get (slice_cmp nat_cmp) c.self.inside.numbers in
    subst (λ (n : Nodes Node). IsRegister find n.tree) (sym c.in-Ok.ensures.ok)
    (put_registered find c.args.id c.args.node c.self.inside.tree.tree (subst (λ (n : Nodes Node). HasName c.args.id c.args.node.name n.tree) (sym c.self.view_is) c.requires.name) c.self.invariant)
