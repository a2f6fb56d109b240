-- The lines of a row of a tree, and how many children a flex container has.
use Rattle.std.proofs.Common.{arith, refl, sym, ap, ◌≡◌, ◌∙◌, ℕ, suc, ◌+◌, ◌<◌, ◌^◌, ℤ, Bool, true, false, List, [], ◌∷◌, length, map, if◌then◌else◌, Some}
use Rattle.std.specs.Prelude.{int_le}
use Rattle.node_arena.specs.declared.number.NodeId.{NodeId}
use Rattle.part_rules.specs.declared.flex.FlexItem.{FlexItem}
use Rattle.placing.specs.Nodes.{BareTrees, kids_at, sight_at}
use Rattle.placing.specs.Ranges.{AreReadable}
use Rattle.style_types.specs.Styles.{StyleMap}
use Rattle.tree_rules.specs.Answers.{Kid}
use Rattle.tree_rules.specs.FlexSizes as rules
use Rattle.tree_rules.specs.Labels.{ContentStyle, GridStyle, Label, content_of, grid_of}
use Rattle.tree_rules.specs.Orders.{in_order, numbered_from, put_before, sorted_by}
use Rattle.tree_rules.specs.declared.kind.NodeKind.TheVariants as kind
use Rattle.inline_sizes.specs.Flexes.{flex_seen}
use Rattle.inline_sizes.specs.Styled.{styled}
use Rattle.block_sizes.proofs.Settled.{flex_label, map_length}
use Rattle.block_sizes.specs.Flexes.{lines_of, row_lines_by}
use Rattle.block_sizes.specs.Settling.{row_items_seen}
use Rattle.placing.specs.declared.lined.Lines.{Lines}

abbrev with_values : GridStyle → ContentStyle → Label
with_values g c = record { name = []; kind = kind.Flex; grid = g; content = c }

row_is_defined : (f : rules.Flex) (width : ℤ) → rules.row_lines f width ≡ row_lines_by f.label width (map (λ (m : rules.Member). rules.flex_item false (Some width) m.kid.label m.inline) f.members)
row_is_defined f width = refl

pub lines_made : (b : BareTrees) (n : NodeId) (width : ℤ) (style : StyleMap) (items : List FlexItem) (lines : Lines) → grid_of style ≡ (sight_at b n).label.grid → content_of style ≡ (sight_at b n).label.content → items ≡ row_items_seen b n width
    → lines_of lines ≡ row_lines_by (styled style) width items → lines_of lines ≡ rules.row_lines (flex_seen b n) width
lines_made b n width style items lines g c i e =
    e
    ∙ (λ j. row_lines_by (with_values (g j) (c j)) width (i j))
    ∙ (λ j. row_lines_by (with_values (flex_label b n j).grid (flex_label b n j).content) width (row_items_seen b n width))
    ∙ sym (row_is_defined (flex_seen b n) width)

-- ---- how many

numbered_length : {A : Type 0} (n : ℕ) (xs : List A) → length (numbered_from n xs) ≡ length xs
numbered_length n [] = refl
numbered_length n (x ∷ xs) = ap suc (numbered_length (n + 1) xs)

put_length : {A : Type 0} (key : A → ℤ) (x : A) (xs : List A) → length (put_before key x xs) ≡ suc (length xs)
put_length key x [] = refl
put_length key x (y ∷ rest) = at (int_le (key x) (key y)) (put_length key x rest)
  where
    at : (t : Bool) → length (put_before key x rest) ≡ suc (length rest) → length (if t then x ∷ y ∷ rest else y ∷ put_before key x rest) ≡ suc (suc (length rest))
    at true e = refl
    at false e = ap suc e

sorted_length : {A : Type 0} (key : A → ℤ) (xs : List A) → length (sorted_by key xs) ≡ length xs
sorted_length key [] = refl
sorted_length key (x ∷ rest) = put_length key x (sorted_by key rest) ∙ ap suc (sorted_length key rest)

members_length : (b : BareTrees) (n : NodeId) → length (flex_seen b n).members ≡ length (kids_at b n)
unfolding flex_seen
members_length b n =
    map_length rules.member_of (in_order (λ (k : Kid). k.label.grid.order) (kids_at b n))
    ∙ sorted_length (λ (e : ℕ × Kid). e.1.label.grid.order) (numbered_from 0 (kids_at b n)) ∙ numbered_length 0 (kids_at b n)

pub items_few : (b : BareTrees) (n : NodeId) (width : ℤ) (items : List FlexItem) → AreReadable b → items ≡ row_items_seen b n width → length items < 2 ^ 32
items_few b n width items readable e =
    omega (arith, ap length e, map_length (λ (m : rules.Member). rules.flex_item false (Some width) m.kid.label m.inline) (flex_seen b n).members, members_length b n, readable.children n)
