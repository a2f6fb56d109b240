-- The frame of a root in its viewport, by its own values and by what is known of its content (own rule).
use Rattle.std.specs.Prelude.{ℤ, pos, false, Some, []}
use Rattle.node_arena.specs.declared.number.NodeId.{NodeId}
use Rattle.placing.specs.Nodes.{BareTrees, sight_at}
use Rattle.tree_rules.specs.Answers.{Frame}
use Rattle.tree_rules.specs.AskedQueries.{block_query}
use Rattle.tree_rules.specs.Boxes.{root_align, root_framed, root_inline, root_justify, root_of, root_width}
use Rattle.tree_rules.specs.Distribution.{aligned_at}
use Rattle.tree_rules.specs.Frames.{given_box}
use Rattle.tree_rules.specs.Labels.{Label}
use Rattle.tree_rules.specs.NodeSizes.{block_used, bounds_of, inline_used, is_stretched, margins}
use Rattle.tree_rules.specs.declared.query.Given.{Given}
use Rattle.tree_rules.specs.declared.query.Query.{Query}

-- the inline size of its border box, by the two inline sizes of its content
abbrev pub width_by : ℤ → Label → ℤ × ℤ → ℤ
width_by width x sizes =
    inline_used (bounds_of (Some width) x.content.border_box x.grid.columns x.content.inline)
    (is_stretched root_justify x.grid.columns x.content.inline) (margins x.grid.columns) width sizes

-- the block size of its border box, by the block size of its content
abbrev pub height_by : ℤ → Label → ℤ → ℤ
height_by height x content = block_used (bounds_of (Some height) x.content.border_box x.grid.rows x.content.block) false (margins x.grid.rows) height content

-- its frame, by the inline size of its border box, what it is given for that, and the block size of its content
abbrev pub root_frame_by : ℤ × ℤ → Label → ℤ → Given → ℤ → Frame
root_frame_by viewport x across inline content =
    let height = height_by viewport.1 x content in
    record {
      rect = record {
        x = aligned_at root_justify x.grid.columns (pos 0) viewport.0 across;
        y = aligned_at root_align x.grid.rows (pos 0) viewport.1 height;
        width = across;
        height = height;
      };
      inline = inline;
      block = given_box x.grid.rows height;
    }

-- its frame by the definitions, by its number in a tree
abbrev pub root_frame_in : BareTrees → NodeId → ℤ → ℤ → Frame
root_frame_in b id width height = (root_framed width height (root_of (sight_at b id).label (sight_at b id).below)).frame

-- the question for its block size at its width
abbrev pub root_block_in : BareTrees → NodeId → ℤ → Query
root_block_in b id width =
    block_query false []
    (root_inline (root_of (sight_at b id).label (sight_at b id).below) (root_width width (root_of (sight_at b id).label (sight_at b id).below)))
