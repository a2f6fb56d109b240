-- The block sizes of rows and columns, by their children.
use Rattle.std.proofs.Common.{ap, ◌≡◌, ◌∙◌, sym, refl, ℕ, ℤ, pos, List, [], ◌∷◌, length, map, false, None, Some}
use Rattle.inline_sizes.specs.Flexes.{flex_seen, member_of}
use Rattle.placing.specs.declared.lined.Member.{Member}
use Rattle.node_arena.specs.declared.number.NodeId.{NodeId}
use Rattle.part_rules.specs.declared.flex.FlexItem.{FlexItem}
use Rattle.part_rules.specs.Lists.{zipped}
use Rattle.placing.specs.Nodes.{BareTrees, sight_at}
use Rattle.tree_rules.specs.FlexSizes as rules
use Rattle.tree_rules.specs.Labels.{ContentStyle, GridStyle, Label}
use Rattle.tree_rules.specs.Repetitions.{gap_by}
use Rattle.block_sizes.proofs.Mains.{mains_counted}
use Rattle.block_sizes.proofs.Same.{column_block_is_defined, row_block_is_defined}
use Rattle.block_sizes.proofs.Settled.{flex_label, map_length, seen_length, values}
use Rattle.block_sizes.specs.Flexes.{column_block_by, lines_of, row_block_by}
use Rattle.block_sizes.specs.Settling.{column_boxes_seen, settled_seen}
use Rattle.placing.specs.declared.lined.Lines.{Lines}

-- there is a main size for each child of a row
pub row_counted : (b : BareTrees) (n : NodeId) (width : ℤ) (members : List Member) (lines : Lines) → map (member_of b) members ≡ (flex_seen b n).members → lines_of lines ≡ rules.row_lines (flex_seen b n) width → length lines.mains ≡ length members
row_counted b n width members lines same along =
    let f : rules.Flex = flex_seen b n in
    let items : List FlexItem = map (λ (m : rules.Member). rules.flex_item false (Some width) m.kid.label m.inline) f.members in
    ap (λ (l : rules.Lines). length l.mains) along
    ∙ mains_counted width (gap_by (Some width) (pos 0) f.label.grid.columns.gap) f.label.content.wrap items
    ∙ map_length (λ (m : rules.Member). rules.flex_item false (Some width) m.kid.label m.inline) f.members
    ∙ seen_length b n members same

-- the block size of a row of these lines
abbrev row_by : Label → List rules.Member → rules.Lines → ℤ
row_by x members l = row_block_by x (map (rules.outer_cross false None) (zipped rules.settled_at members l.mains)) l.ranges

pub row_made : (b : BareTrees) (n : NodeId) (width : ℤ) (g : GridStyle) (c : ContentStyle) (outers : List ℤ) (ranges : List (ℕ × ℕ)) (lines : Lines)
    → g ≡ (sight_at b n).label.grid → c ≡ (sight_at b n).label.content → outers ≡ map (rules.outer_cross false None) (settled_seen b n lines.mains) → ranges ≡ lines.ranges → lines_of lines ≡ rules.row_lines (flex_seen b n) width
    → row_block_by (values g c) outers ranges ≡ rules.row_block (flex_seen b n) (rules.row_lines (flex_seen b n) width) (rules.row_settled (flex_seen b n) (rules.row_lines (flex_seen b n) width))
unfolding settled_seen
row_made b n width g c outers ranges lines eg ec eo er along =
    (λ i. row_block_by (values (eg i) (ec i)) (eo i) (er i))
    ∙ (λ i. row_by (values (flex_label b n i).grid (flex_label b n i).content) (flex_seen b n).members (lines_of lines))
    ∙ ap (row_by (flex_seen b n).label (flex_seen b n).members) along
    ∙ sym (row_block_is_defined (flex_seen b n) (rules.row_lines (flex_seen b n) width) (rules.row_settled (flex_seen b n) (rules.row_lines (flex_seen b n) width)))

pub settled_map : (box : rules.Member → ℤ) (members : List rules.Member) → zipped rules.settled_at members (map box members) ≡ map (λ (m : rules.Member). rules.settled_at m (box m)) members
settled_map box [] = refl
settled_map box (m ∷ members) = ap (λ (ss : List rules.Settled). rules.settled_at m (box m) ∷ ss) (settled_map box members)

pub column_made : (b : BareTrees) (n : NodeId) (width : ℤ) (g : GridStyle) (c : ContentStyle) (items : List FlexItem) (boxes : List ℤ)
    → g ≡ (sight_at b n).label.grid → c ≡ (sight_at b n).label.content → items ≡ map (rules.column_item None) (settled_seen b n boxes) → boxes ≡ column_boxes_seen b n width
    → column_block_by (values g c) items ≡ rules.column_block (flex_seen b n) (rules.column_settled (flex_seen b n) width)
unfolding settled_seen
column_made b n width g c items boxes eg ec ei eb =
    (λ i. column_block_by (values (eg i) (ec i)) (ei i))
    ∙ (λ i. column_block_by (values (flex_label b n i).grid (flex_label b n i).content) (map (rules.column_item None) (zipped rules.settled_at (flex_seen b n).members (eb i))))
    ∙ ap (λ (ss : List rules.Settled). column_block_by (flex_seen b n).label (map (rules.column_item None) ss)) (settled_map (rules.column_box (flex_seen b n).label width) (flex_seen b n).members)
    ∙ sym (column_block_is_defined (flex_seen b n) (rules.column_settled (flex_seen b n) width))
