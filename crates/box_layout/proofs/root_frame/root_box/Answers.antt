use Rattle.std.proofs.Common.{sym, subst, ◌∙◌, ◌≤ℤ◌}
use Rattle.placing.specs.Nodes.{bare, sight_at}
use Rattle.placing.specs.Ranges.{IsGridStyle}
use Rattle.tree_rules.specs.Labels.{GridStyle}
use Rattle.tree_rules.specs.NodeSizes.{inner}
use Rattle.box_layout.proofs.RootStyled.{width_is}
use Rattle.box_layout.proofs.root_frame.root_box.Goals as goal

pub root_width-requires : goal.root_width-requires
root_width-requires c = subst IsGridStyle (sym c.node_at.ensures.grid) (c.requires.readable.nodes c.args.id c.requires.live).grid

pub returns-clause-value : goal.returns-clause-value
returns-clause-value c = c.root_width.ensures.value ∙ width_is c.node_at.result.now.style (sight_at (bare c.args.tree.now.tree) c.args.id).label c.node_at.ensures.grid c.node_at.ensures.content c.args.width c.args.sizes

pub returns-clause-least : goal.returns-clause-least
returns-clause-least c = subst (λ (g : GridStyle). inner g.columns ≤ℤ c.root_width.result) c.node_at.ensures.grid c.root_width.ensures.least
