-- The root by its style and by what is known of its content.
use Rattle.std.specs.Prelude.{ℤ, pos, []}
use Rattle.lunit.specs.declared.geometry.Rect.{Rect}
use Rattle.style_types.specs.Styles.{StyleMap}
use Rattle.tree_rules.specs.Answers.{Down, Kid}
use Rattle.tree_rules.specs.Boxes.{root_align, root_justify}
use Rattle.tree_rules.specs.Distribution.{aligned_at}
use Rattle.tree_rules.specs.Frames.{down_of}
use Rattle.tree_rules.specs.Labels.{grid_of}
use Rattle.inline_sizes.specs.Styled.{styled}

-- what is known of a node whose content has this block size
abbrev pub with_block : ℤ → Down
with_block block = down_of block [] (λ height. [])

-- a root of this style whose content has these inline sizes, and this block size at each of them
abbrev pub root_by : StyleMap → ℤ × ℤ → ℤ → Kid
root_by style inline block = record {
  label = styled style;
  chain = [];
  answers = record
      { inline = λ outer. inline; lend_columns = λ outer. []; down = λ outer width. with_block block };
}

-- the rectangle of a root of this style, with a border box of these sizes, in a viewport of these sizes
abbrev pub root_rect : StyleMap → ℤ × ℤ → ℤ × ℤ → Rect
root_rect style viewport size = record {
  x = aligned_at root_justify (grid_of style).columns (pos 0) viewport.0 size.0;
  y = aligned_at root_align (grid_of style).rows (pos 0)
      viewport.1 size.1;
  width = size.0;
  height = size.1;
}
