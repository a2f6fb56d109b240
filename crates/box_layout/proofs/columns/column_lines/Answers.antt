use Rattle.std.proofs.Common.{arith, ap, ◌≡◌, ◌∙◌, sym, subst, ℕ, pos, Some, List, [], length, map}
use Rattle.std.specs.Prelude.{IfOk}
use Rattle.flex_lines.specs.Lines.{AreRanges}
use Rattle.part_rules.specs.declared.flex.FlexItem.{FlexItem}
use Rattle.part_rules.specs.Lists.{zipped}
use Rattle.placing.specs.Nodes.{bare, sight_at}
use Rattle.tree_rules.specs.FlexSizes as rules
use Rattle.tree_rules.specs.Labels.{ContentStyle, GridStyle, Label}
use Rattle.tree_rules.specs.Repetitions.{gap_by}
use Rattle.tree_rules.specs.declared.kind.NodeKind.TheVariants as kind
use Rattle.inline_sizes.proofs.FlexMembers.{flex_label}
use Rattle.block_sizes.specs.Flexes.{lines_of}
use Rattle.box_layout.specs.FlexFrames.{member_item, settled_by}
use Rattle.box_layout.specs.Sittings.{HasStyle}
use Rattle.box_layout.proofs.ColumnAlike.{items_alike}
use Rattle.box_layout.proofs.FlexAlike.{by_style, members_few, pair_count}
use Rattle.box_layout.proofs.columns.column_lines.Goals as goal

pub lines_by-requires : goal.lines_by-requires
lines_by-requires g c =
    let b = bare c.args.tree.now.tree in
    let count : length c.deref.result.now ≡ length c.args.members.now = ap length (c.deref.ensures.value ∙ c.in_ok-items.ensures) ∙ pair_count (member_item b c.args.height) c.args.members.now c.args.blocks.now c.requires.counted in
    record { few = omega (arith, count, members_few b c.args.id c.args.members.now c.requires.members (c.requires.readable.children c.args.id)) }

pub returns-clause-ranges : goal.returns-clause-ranges
returns-clause-ranges g c =
    let b = bare c.args.tree.now.tree in
    let count : length c.deref.result.now ≡ length c.args.members.now = ap length (c.deref.ensures.value ∙ c.in_ok-items.ensures) ∙ pair_count (member_item b c.args.height) c.args.members.now c.args.blocks.now c.requires.counted in
    subst (λ (k : ℕ). IfOk c.lines_by.result (λ lines. AreRanges k lines.ranges)) count c.lines_by.ensures.ranges

pub returns-clause-value : goal.returns-clause-value
returns-clause-value g c = λ boxes e.
    let b = bare c.args.tree.now.tree in
    let n = c.args.id in
    let height = c.args.height in
    let members = c.args.members.now in
    let style = c.node_at.result.now.style in
    let x : Label = (sight_at b n).label in
    let has : HasStyle style x = record { grid = sym c.node_at.ensures.grid; content = sym c.node_at.ensures.content } in
    let f : GridStyle → ContentStyle → rules.Lines = λ u k. rules.lines_by (record { name = []; kind = kind.Flex; grid = u; content = k }) height c.column_gap-gap.result c.deref.result.now in
    let items : List FlexItem = map (rules.column_item (Some height)) (settled_by b members boxes) in
    let items_is : c.deref.result.now ≡ items = c.deref.ensures.value ∙ c.in_ok-items.ensures ∙ ap (zipped (member_item b height) members) e ∙ items_alike b height members boxes in
    subst (λ (l : rules.Lines). IfOk c.lines_by.result (λ lines. lines_of lines ≡ l))
    (by_style f style x has ∙ ap (λ z. rules.lines_by x height z c.deref.result.now) c.column_gap-gap.ensures ∙ ap (rules.lines_by x height (gap_by (Some height) (pos 0) x.grid.rows.gap)) items_is ∙
    ap (λ (y : Label). rules.lines_by y height (gap_by (Some height) (pos 0) y.grid.rows.gap) items) (flex_label b n))
    c.lines_by.ensures.value
