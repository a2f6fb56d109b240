-- The boxes of a whole tree in its viewport (CSS Grid 2, section 6; that the root is an item in the viewport is an own rule).
use Rattle.std.specs.Prelude.{◌≡◌, refl, ℤ, pos, false, List, [], ◌∷◌, Some, None, ℕ, map}
use Rattle.plain_tree.specs.Trees.{Trees, tree, labels_of}
use Rattle.style_types.specs.declared.value.Align.{Align}
use Rattle.style_types.specs.declared.value.AlignMode.TheVariants as align_mode
use Rattle.tree_rules.specs.declared.kind.NodeKind.{NodeKind}
use Rattle.tree_rules.specs.declared.query.Given.{Given}
use Rattle.tree_rules.specs.declared.query.Given.TheVariants as given
use Rattle.tree_rules.specs.Answers.{Box, Down, Kid}
use Rattle.tree_rules.specs.Chains.{above_of}
use Rattle.tree_rules.specs.Distribution.{aligned_at}
use Rattle.tree_rules.specs.Frames.{Framed, boxes_at}
use Rattle.tree_rules.specs.Labels.{Label}
use Rattle.tree_rules.specs.NodeSizes.{block_used, bounds_of, content_of_box, inline_used, inner, is_stretched, margins}
use Rattle.tree_rules.specs.Whole.{kid_of, kids_of}
use Rattle.std.specs.Prelude.{codes}
use Rattle.lunit.specs.Units.{IsUnits, clamp, floor_div}
use Rattle.plain_tree.specs.Trees.{leafless}
use Rattle.part_rules.specs.declared.content.Content.TheVariants as content
use Rattle.style_types.specs.declared.value.Size.TheVariants as size
use Rattle.tree_rules.specs.declared.kind.NodeKind.TheVariants as kind
use Rattle.tree_rules.specs.Labels.{GridStyle, ContentStyle, plain_axis, plain_content, plain_content_axis, plain_grid}

-- The root is an item in an area of the size of the viewport, with `justify-self` `stretch` and `align-self` `start` in place of its own
-- (own rule: it could also keep its own). Percentages are of the viewport, and with an `auto` margin it is fit to its content.
abbrev pub root_justify : Align
root_justify = record { mode = align_mode.Stretch; safe = None }

abbrev pub root_align : Align
root_align = record { mode = align_mode.Start; safe = None }

-- the root with its answers; it sees no grid above it
abbrev pub root_of : Label → Trees Label → Kid
root_of x below = kid_of x [] (kids_of (above_of x [] below) 0 below)

-- the inline size of the border box of the root in a viewport of this width
abbrev pub root_width : ℤ → Kid → ℤ
root_width width r =
    let x = r.label in
    inline_used (bounds_of (Some width) x.content.border_box x.grid.columns x.content.inline)
    (is_stretched root_justify x.grid.columns x.content.inline) (margins x.grid.columns) width (r.answers.inline [])

-- the block size of the border box of the root in a viewport of this height
abbrev pub root_height : ℤ → Kid → Down → ℤ
root_height height r d =
    let x = r.label in
    block_used (bounds_of (Some height) x.content.border_box x.grid.rows x.content.block) false (margins x.grid.rows) height d.block

-- what the root is given along an axis, by its border box
abbrev pub root_inline : Kid → ℤ → Given
root_inline r box = given.Size (content_of_box (inner r.label.grid.columns) box)

abbrev pub root_block : Kid → ℤ → Given
root_block r box = given.Size (content_of_box (inner r.label.grid.rows) box)

-- The root with its frame in the viewport.
abbrev pub root_framed : ℤ → ℤ → Kid → Framed
root_framed width height r =
    let x = r.label in
    let w = root_width width r in
    let d = r.answers.down [] (root_inline r w) in
    let h = root_height height r d in
    record {
      name = x.name;
      frame = record {
        rect = record {
          x = aligned_at root_justify x.grid.columns (pos 0) width w;
          y = aligned_at root_align x.grid.rows (pos 0) height h;
          width = w;
          height = h;
        };
        inline = root_inline r w;
        block = root_block r h;
      };
      down = d;
    }

-- The boxes of a tree in a viewport of this width and height, in document order.
abbrev pub boxes : ℤ → ℤ → Label → Trees Label → List Box
boxes width height x below = boxes_at (pos 0, pos 0) (root_framed width height (root_of x below) ∷ [])

-- ---- what is said of boxes

-- nothing stands below a leaf
abbrev pub IsBareLeaf : NodeKind → Trees Label → Type 0
IsBareLeaf kind.Grid below = Unit {0}
IsBareLeaf kind.Flex below = Unit {0}
IsBareLeaf (kind.Leaf content) leafless = Unit {0}
IsBareLeaf (kind.Leaf content) (tree x below after) = ⊥

-- only containers have children
abbrev pub LeavesAreBare : Trees Label → Type 0
LeavesAreBare leafless = Unit {0}
LeavesAreBare (tree x below after) = IsBareLeaf x.kind below × (LeavesAreBare below × LeavesAreBare after)

-- the name of each box
abbrev pub names_told : List Box → List (List ℕ)
names_told told = map (λ (b : Box). b.0) told

-- the name of each node, in document order
abbrev pub names_of : Trees Label → List (List ℕ)
names_of t = map (λ (x : Label). x.name) (labels_of t)

-- the size of each box is within the range of lengths
abbrev pub AreLimited : List Box → Type 0
AreLimited [] = Unit {0}
AreLimited (b ∷ rest) = (IsUnits b.1.width × IsUnits b.1.height) × AreLimited rest

-- ---- worked rows, in units: leaves of 40 by 20 as roots in a viewport of 100 by 50

abbrev leaf : GridStyle → ContentStyle → Label
leaf g c = record { name = codes "main"; kind = kind.Leaf (content.Fixed (pos 40) (pos 20)); grid = g; content = c }

abbrev at : ℤ → ℤ → ℤ → ℤ → List Box
at x y width height = (codes "main", record { x = x; y = y; width = width; height = height }) ∷ []

-- The root is stretched to the width, and as high as its content.
stretched_root : boxes (pos 100) (pos 50) (leaf plain_grid plain_content) leafless ≡ at (pos 0) (pos 0) (pos 100) (pos 20)
unfolding clamp
stretched_root = refl

-- Its own alignments count for nothing.
own_alignment : boxes (pos 100) (pos 50)
    (leaf plain_grid
    (record plain_content {
      inline = record plain_content_axis { own = record { mode = align_mode.End; safe = None } };
      block = record plain_content_axis
          { own = record { mode = align_mode.Stretch; safe = None } };
    })) leafless ≡ at (pos 0) (pos 0) (pos 100) (pos 20)
unfolding clamp
own_alignment = refl

-- With an `auto` margin at the left it is fit to its content, and the margin takes the rest.
auto_margin : boxes (pos 100) (pos 50) (leaf (record plain_grid { columns = record plain_axis { margin_start = None } }) plain_content) leafless ≡
    at (pos 60) (pos 0) (pos 40) (pos 20)
unfolding clamp
auto_margin = refl

-- Percentages are of the viewport: half of 100, and the minimum of 90% of 50.
of_viewport : boxes (pos 100) (pos 50)
    (leaf plain_grid
    (record plain_content {
      inline = record plain_content_axis { size = size.Percent 50000 };
      block = record plain_content_axis
          { least = size.Percent 90000 };
    })) leafless ≡ at (pos 0) (pos 0) (pos 50) (pos 45)
unfolding clamp floor_div
of_viewport = refl

-- Margins of 7 and 5 and a border of 3: 100 less 7 and 5, from 7 on; the height is 20 and 3.
with_margins : boxes (pos 100) (pos 50)
    (leaf
    (record plain_grid {
      columns = record plain_axis { margin_start = Some (pos 7); margin_end = Some (pos 5) };
      rows = record plain_axis
          { border_start = pos 3 };
    }) plain_content) leafless ≡ at (pos 7) (pos 0) (pos 88) (pos 23)
unfolding clamp
with_margins = refl
