use Rattle.std.proofs.Common.{◌≡◌, sym, subst, List, ℤ, [], Some}
use Rattle.std.specs.Prelude.{IfOk}
use Rattle.placing.specs.Nodes.{bare, sight_at}
use Rattle.tree_rules.specs.Labels.{ContentStyle, GridStyle}
use Rattle.tree_rules.specs.declared.kind.NodeKind.TheVariants as kind
use Rattle.block_sizes.specs.Flexes.{crosses_by}
use Rattle.box_layout.specs.Sittings.{HasStyle}
use Rattle.box_layout.proofs.FlexAlike.{by_style}
use Rattle.box_layout.proofs.flexes.line_sizes.Goals as goal

pub returns : goal.returns
returns c =
    let x = (sight_at (bare c.args.tree.now.tree) c.args.id).label in
    let has : HasStyle c.node_at.result.now.style x = record { grid = sym c.node_at.ensures.grid; content = sym c.node_at.ensures.content } in
    let f : GridStyle → ContentStyle → List ℤ = λ g k. crosses_by c.args.column (record { name = []; kind = kind.Flex; grid = g; content = k }) c.args.outers.now c.args.ranges.now (Some c.args.cross) in
    let Is : List ℤ → Type 0 = λ zs. IfOk c.crosses_of.result (λ sizes. sizes ≡ zs) in
    subst Is (by_style f c.node_at.result.now.style x has) c.crosses_of.ensures
