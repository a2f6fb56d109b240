use Rattle.std.proofs.Common.{rules, ◌≡◌, Some, None, subst}
use Rattle.std.specs.BTreeMap.{get}
use Rattle.std.specs.Ordering.{nat_cmp}
use Rattle.std.specs.Cmp.Lexicographic.{slice_cmp}
use Rattle.node_arena.specs.Plain.{Nodes}
use Rattle.placing.specs.declared.node.Node.{Node}
use Rattle.page_tree.specs.Registers.{Finds}
use Rattle.page_tree.proofs.Registers.{finds}
use Rattle.page_tree.proofs.register.Register.find.Goals as goal

pub returns-in-Some : goal.returns-in-Some
returns-in-Some c =
    let there : get (slice_cmp nat_cmp) c.self.inside.numbers c.args.name.now ≡ Some c.in-Some.id.now = search rules in
    subst (λ (n : Nodes Node). Finds n.tree c.args.name.now (Some c.in-Some.id.now)) c.self.view_is
    (finds (get (slice_cmp nat_cmp) c.self.inside.numbers) c.self.inside.tree.tree c.args.name.now (Some c.in-Some.id.now) c.self.invariant there)

pub returns-in-None : goal.returns-in-None
returns-in-None c =
    let there : get (slice_cmp nat_cmp) c.self.inside.numbers c.args.name.now ≡ None = search rules in
    subst (λ (n : Nodes Node). Finds n.tree c.args.name.now None) c.self.view_is
    (finds (get (slice_cmp nat_cmp) c.self.inside.numbers) c.self.inside.tree.tree c.args.name.now None c.self.invariant there)
