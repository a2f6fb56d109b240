-- The values of a style along one axis, and nodes of which the style alone counts.
use Rattle.std.specs.Prelude.{ℕ, ℤ, [], Option, option_map, unwrap_or}
use Rattle.std.specs.Int.{int_max}
use Rattle.lunit.specs.Units.{clamp}
use Rattle.part_rules.specs.declared.flex.FlexItem.{FlexItem}
use Rattle.style_types.specs.Styles.{StyleMap}
use Rattle.tree_rules.specs.declared.kind.NodeKind.TheVariants as kind
use Rattle.tree_rules.specs.FlexSizes.{automatic_minimum, base_size}
use Rattle.tree_rules.specs.Labels.{ContentAxis, GridAxis, Label, content_of, grid_of, label_of}
use Rattle.tree_rules.specs.NodeSizes.{bounds_of, margins}
use Rattle.placing.specs.Axes.{content_axis, grid_axis}

-- the grid-class values of a style along an axis
abbrev pub grid_at : ℕ → StyleMap → GridAxis
grid_at axis style = grid_axis axis (grid_of style)

-- the content-class values of a style along an axis
abbrev pub content_at : ℕ → StyleMap → ContentAxis
content_at axis style = content_axis axis (content_of style)

-- a node with this style, where neither its name nor its kind counts
abbrev pub styled : StyleMap → Label
styled style = label_of [] kind.Flex style

-- a node with this style as an item of a flex container along this axis (CSS Flexbox 1, 9.2)
abbrev pub flex_item_at : ℕ → Option ℤ → StyleMap → ℤ × ℤ → FlexItem
flex_item_at axis main style content =
    let c = content_of style in
    let b = bounds_of main c.border_box (grid_at axis style) (content_at axis style) in
    record {
      base = clamp (int_max b.inner (base_size main c.border_box c.basis b content.1));
      min = clamp (unwrap_or b.least (automatic_minimum c.scrolls b content.0));
      max = option_map clamp b.most;
      margins = margins (grid_at axis style);
      inner = b.inner;
      grow = c.grow;
      shrink = c.shrink;
    }
