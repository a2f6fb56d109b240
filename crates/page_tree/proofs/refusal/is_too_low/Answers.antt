use Rattle.std.proofs.Common.{◌+◌, ap, ◌∙◌}
use Rattle.std.specs.Prelude.{nat_lt}
use Rattle.plain_tree.specs.Trees.{height_of}
use Rattle.node_arena.specs.Numbers.{below_at}
use Rattle.node_arena.specs.Plain.{Nodes}
use Rattle.placing.specs.declared.node.Node.{Node}
use Rattle.page_tree.proofs.Moves.{height_is, level_left}
use Rattle.page_tree.proofs.refusal.is_too_low.Goals as goal

pub returns : goal.returns
returns c =
    let t = c.args.page.now.nodes.tree in
    let name = c.args.named.now.name in
    let parent = c.args.parent.now.name in
    let level = c.level.ensures.value ∙ level_left t name parent c.args.id c.args.to c.requires in
    let height = ap (λ n. n + 1) (c.height_below-below.ensures.value ∙ ap (λ (n : Nodes Node). height_of (below_at n.tree c.args.id)) c.tree-tree.ensures) ∙ height_is t name parent c.args.id c.args.to c.requires in
    λ i. nat_lt 64 (level i + height i)
