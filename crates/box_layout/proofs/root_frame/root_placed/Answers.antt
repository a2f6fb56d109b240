use Rattle.std.proofs.Common.{false, sym, subst, true}
use Rattle.placing.specs.Nodes.{bare, sight_at}
use Rattle.placing.specs.Ranges.{IsGridAxis, IsGridStyle}
use Rattle.tree_rules.specs.Labels.{GridStyle, grid_of}
use Rattle.tree_rules.specs.NodeSizes.{inner}
use Rattle.tree_rules.specs.Queries.{IsGivenFor}
use Rattle.inline_sizes.proofs.Limits.{content_some}
use Rattle.box_layout.proofs.RootStyled.{placed_is}
use Rattle.box_layout.proofs.root_frame.root_placed.Goals as goal

pub root_height-size-requires : goal.root_height-size-requires
root_height-size-requires c = subst IsGridStyle (sym c.node_at.ensures.grid) (c.requires.readable.nodes c.args.id c.requires.live).grid

pub given_box-requires : goal.given_box-requires
given_box-requires c = subst (λ (g : GridStyle). IsGridAxis g.rows) (sym c.node_at.ensures.grid) (c.requires.readable.nodes c.args.id c.requires.live).grid.rows

pub returns-clause-some : goal.returns-clause-some
returns-clause-some c = subst (IsGivenFor true false 0) (sym c.given_box.ensures) (content_some (inner (grid_of c.node_at.result.now.style).rows) c.root_height-size.result c.root_height-size.ensures.least)

pub returns-clause-value : goal.returns-clause-value
returns-clause-value c =
    placed_is c.node_at.result.now.style (sight_at (bare c.args.tree.now.tree) c.args.id).label c.node_at.ensures.grid c.node_at.ensures.content c.args.viewport.0 c.args.viewport.1 c.args.across c.args.content c.root_height-size.result c.args.inline c.root_rect.result c.given_box.result
    c.root_height-size.ensures.value c.root_rect.ensures.value c.given_box.ensures
