use Rattle.std.proofs.Common.{None, sym, subst}
use Rattle.std.specs.BTreeMap.{get}
use Rattle.std.specs.Ordering.{nat_cmp}
use Rattle.std.specs.Cmp.Lexicographic.{slice_cmp}
use Rattle.node_arena.specs.Plain.{Nodes}
use Rattle.placing.specs.declared.node.Node.{Node}
use Rattle.page_tree.specs.Registers.{HasName, IsRegister}
use Rattle.page_tree.proofs.Registers.{updated}
use Rattle.page_tree.proofs.Removals.{all_names, removed_registered}
use Rattle.page_tree.proofs.register.Register.remove.Goals as goal

pub invariant_of-self : goal.invariant_of-self
invariant_of-self c =
    let t = c.self.inside.tree.tree in
    let find = get (slice_cmp nat_cmp) c.self.inside.numbers in
    let between = get (slice_cmp nat_cmp) c.remove.new.self in
    let again = get (slice_cmp nat_cmp) c.take_names.new.numbers in
    subst (λ (n : Nodes Node). IsRegister again n.tree) (sym c.in-Ok.ensures.ok)
    (removed_registered find again c.args.id t c.self.invariant
    (all_names t c.args.id c.args.name.now find between again (rw c.self.view_is c.requires.live) (c.self.invariant.distinct c.args.id) (subst (λ (n : Nodes Node). HasName c.args.id c.args.name.now n.tree) (sym c.self.view_is) c.requires.name)
    (updated c.self.inside.numbers c.remove.new.self c.args.name.now None c.remove.ensures.updates) c.take_names.ensures))
