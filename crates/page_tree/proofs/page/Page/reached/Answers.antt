use Rattle.std.proofs.Common.{◌&&◌, ◌∙◌}
use Rattle.layout_cache.specs.Reach.{reached_by}
use Rattle.tree_rules.specs.Chains.{has_subgrid, is_grid_kind}
use Rattle.tree_rules.specs.Labels.{grid_of}
use Rattle.placing.specs.declared.node.Node.{Node}
use Rattle.page_tree.proofs.Applied.{marks_change}
use Rattle.page_tree.proofs.page.Page.reached.Goals as goal

pub returns-clause-nodes : goal.returns-clause-nodes
returns-clause-nodes c =
    record {
      numbers = c.in_ok-marked.marked.numbers;
      marked = marks_change c.args.change.now c.args.self.now.nodes.tree c.in_ok-marked.marked.numbers c.in_ok-marked.ensures.numbers;
      is = c.from_vec.ensures ∙ c.in_ok-list.ensures.list ∙ (λ i. reached_by (λ (v : Node). is_grid_kind v.kind && has_subgrid (grid_of v.style)) (c.tree-tree.ensures i).tree (c.as_slice-numbers.ensures i) (c.in_ok-marked.ensures.felt i));
    }
