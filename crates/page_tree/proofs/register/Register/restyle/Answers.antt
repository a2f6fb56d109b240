use Rattle.std.proofs.Common.{sym, subst}
use Rattle.std.specs.BTreeMap.{get}
use Rattle.std.specs.Ordering.{nat_cmp}
use Rattle.std.specs.Cmp.Lexicographic.{slice_cmp}
use Rattle.node_arena.specs.Plain.{Nodes}
use Rattle.placing.specs.declared.node.Node.{Node}
use Rattle.page_tree.specs.Registers.{IsRegister}
use Rattle.page_tree.proofs.Restyled.{restyled_registered}
use Rattle.page_tree.proofs.register.Register.restyle.Goals as goal

pub invariant_of-self : goal.invariant_of-self
invariant_of-self c =
    let find = get (slice_cmp nat_cmp) c.self.inside.numbers in
    subst (λ (n : Nodes Node). IsRegister find n.tree) (sym c.write_all.ensures) (restyled_registered find c.args.styles c.self.inside.tree.tree c.self.invariant)
