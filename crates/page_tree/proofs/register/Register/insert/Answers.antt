use Rattle.std.proofs.Common.{◌≡◌, None, sym, subst}
use Rattle.std.specs.BTreeMap.{get}
use Rattle.std.specs.Ordering.{nat_cmp}
use Rattle.std.specs.Cmp.Lexicographic.{slice_cmp}
use Rattle.node_arena.specs.Plain.{Nodes}
use Rattle.placing.specs.declared.node.Node.{Node}
use Rattle.page_tree.specs.Registers.{IsRegister}
use Rattle.page_tree.proofs.Registers.{absent, insert_registered, same_register, taken_back, twice_updated}
use Rattle.page_tree.proofs.register.Register.insert.Goals as goal

pub invariant_of-self-in-Ok : goal.invariant_of-self-in-Ok
invariant_of-self-in-Ok c =
    let tree = c.self.inside.tree in
    let find = get (slice_cmp nat_cmp) c.self.inside.numbers in
    let none : find c.args.node.name ≡ None = absent find tree.tree c.args.node.name c.self.invariant (rw c.self.view_is c.requires.new) in
    let again = get (slice_cmp nat_cmp) c.insert-in-Ok.new.self in
    subst (λ (n : Nodes Node). IsRegister again n.tree) (sym c.in-Ok.ensures.ok)
    (insert_registered find again tree.tree c.args.parent c.args.index c.in-Ok.id c.args.node c.self.invariant (rw c.self.view_is c.requires.parent) c.in-Ok.ensures.fresh none
    (twice_updated c.self.inside.numbers c.insert.new.self c.insert-in-Ok.new.self c.args.node.name _ _ c.in_ok-insert.ensures.updates c.in_ok-insert-in-Ok.ensures.updates))

pub invariant_of-self-in-Err : goal.invariant_of-self-in-Err
invariant_of-self-in-Err c =
    let tree = c.self.inside.tree in
    let find = get (slice_cmp nat_cmp) c.self.inside.numbers in
    let none : find c.args.node.name ≡ None = absent find tree.tree c.args.node.name c.self.invariant (rw c.self.view_is c.requires.new) in
    let again = get (slice_cmp nat_cmp) c.remove.new.self in
    subst (λ (n : Nodes Node). IsRegister again n.tree) (sym c.in-Err.ensures.err)
    (same_register find again tree.tree
    (taken_back c.self.inside.numbers c.remove.new.self c.args.node.name none
    (twice_updated c.self.inside.numbers c.insert.new.self c.remove.new.self c.args.node.name _ None c.in_ok-insert.ensures.updates c.remove.ensures.updates))
    c.self.invariant)
