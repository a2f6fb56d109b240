use Rattle.std.proofs.Common.{sym, subst}
use Rattle.std.specs.BTreeMap.{get}
use Rattle.std.specs.Ordering.{nat_cmp}
use Rattle.std.specs.Cmp.Lexicographic.{slice_cmp}
use Rattle.node_arena.specs.Plain.{Nodes}
use Rattle.placing.specs.declared.node.Node.{Node}
use Rattle.page_tree.specs.Registers.{IsRegister}
use Rattle.page_tree.proofs.Registers.{alone_registered, first_updated}
use Rattle.page_tree.proofs.register.Register.new.Goals as goal

pub invariant_of-result : goal.invariant_of-result
invariant_of-result c =
    let find = get (slice_cmp nat_cmp) c.insert.new.self in
    subst (λ (n : Nodes Node). IsRegister find n.tree) (sym c.in_ok-tree.ensures)
    (alone_registered find c.in_ok-tree.id c.args.root (first_updated c.new-numbers.result c.insert.new.self c.args.root.name c.in_ok-tree.id c.new-numbers.ensures.empty c.in_ok-insert.ensures.updates))
