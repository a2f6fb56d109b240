use Rattle.std.proofs.Common.{◌∙◌, sym, subst, []}
use Rattle.placing.specs.Nodes.{bare, sight_at}
use Rattle.placing.specs.Ranges.{IsGridStyle}
use Rattle.tree_rules.specs.Labels.{ContentStyle, GridStyle}
use Rattle.tree_rules.specs.declared.kind.NodeKind.TheVariants as kind
use Rattle.box_layout.specs.declared.sitting.Container.{Container}
use Rattle.box_layout.specs.Sittings.{HasStyle, container_by}
use Rattle.box_layout.proofs.FlexAlike.{by_style}
use Rattle.box_layout.proofs.flexes.flex_of.Goals as goal

pub container_of-requires : goal.container_of-requires
container_of-requires c = subst IsGridStyle (sym c.node_at.ensures.grid) (c.requires.readable.nodes c.args.id c.requires.live).grid

pub returns : goal.returns
returns c =
    let x = (sight_at (bare c.args.tree.now.tree) c.args.id).label in
    let has : HasStyle c.node_at.result.now.style x = record { grid = sym c.node_at.ensures.grid; content = sym c.node_at.ensures.content } in
    let f : GridStyle → ContentStyle → Container = λ g k. container_by c.args.column (record { name = []; kind = kind.Flex; grid = g; content = k }) c.args.main c.args.cross in
    c.container_of.ensures ∙ by_style f c.node_at.result.now.style x has
