use Rattle.std.proofs.Common.{Option, subst}
use Rattle.node_arena.specs.declared.number.NodeId.{NodeId}
use Rattle.page_tree.specs.Registers.{Finds}
use Rattle.page_tree.proofs.Forgotten.{other_name, without_name}
use Rattle.page_tree.proofs.forget.forget_name.Goals as goal

pub returns-in-Some : goal.returns-in-Some
returns-in-Some c =
    λ f here.
    let t = c.args.page.now.nodes.tree in
    let now = c.forget.ensures f here in
    (now.0, other_name t c.args.node.now.name c.in-Some.id f.id (subst (λ (o : Option NodeId). Finds t c.args.node.now.name o) c.in-Some.is c.find.ensures) now.1)

pub returns-in_default : goal.returns-in_default
returns-in_default c =
    λ f here.
    let t = c.args.page.now.nodes.tree in
    (here, without_name t c.args.node.now.name f.id (subst (λ (o : Option NodeId). Finds t c.args.node.now.name o) c.in_default.is c.find.ensures))
