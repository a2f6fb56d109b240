-- Flex containers and their children as the code holds them, from those of the definitions.
use Rattle.std.specs.Prelude.{◌≡◌, ℕ, ℤ, pos, ◌-ℤ◌, Bool, List, [], ◌∷◌, length, map, Some, option_map, unwrap_or, if◌then◌else◌}
use Rattle.std.specs.Int.{int_max}
use Rattle.lunit.specs.Units.{clamp, top}
use Rattle.node_arena.specs.declared.number.NodeId.{NodeId}
use Rattle.part_rules.specs.Alignment.{content_moved}
use Rattle.part_rules.specs.FlexLines.{gaps}
use Rattle.part_rules.specs.Lists.{sum_of}
use Rattle.placing.specs.declared.node.Frame.{Frame}
use Rattle.style_types.specs.Styles.{StyleMap}
use Rattle.tree_rules.specs.Distribution.{is_safe, mode_of}
use Rattle.tree_rules.specs.FlexSizes.{cross_content, cross_grid, is_stretched_across, line_align, main_grid}
use Rattle.tree_rules.specs.Frames as rules
use Rattle.tree_rules.specs.Frames.{given_box}
use Rattle.tree_rules.specs.Labels.{GridAxis, Label, content_of, grid_of}
use Rattle.tree_rules.specs.NodeSizes.{Bounds, bounds_of, inner, inner_start}
use Rattle.tree_rules.specs.Orders.{sorted_by}
use Rattle.tree_rules.specs.Repetitions.{gap_by}
use Rattle.box_layout.specs.declared.aligned.Margins.{Margins}
use Rattle.box_layout.specs.declared.sitting.Container.{Container}
use Rattle.box_layout.specs.declared.sitting.Sitting.{Sitting}

-- ---- the container

-- a flex container whose content box has these sizes along its main axis and across it
abbrev pub container_by : Bool → Label → ℤ → ℤ → Container
container_by column x main cross = record {
  column = column;
  main = main;
  cross = cross;
  gap = gap_by (Some main) (pos 0) (main_grid column x).gap;
  between = gap_by (Some cross) (pos 0) (cross_grid column x).gap;
  along = x.content.inline.distribution;
  across = x.content.block.distribution;
  inline_start = inner_start x.grid.columns;
  block_start = inner_start x.grid.rows;
}

-- a node with this style
pub record HasStyle (style : StyleMap) (x : Label) : Type 0 where
  pub grid : x.grid ≡ grid_of style
  pub content : x.content ≡ content_of style

-- ---- a child

-- its margins along an axis
abbrev pub margins_in : GridAxis → Margins
margins_in g = record { start = g.margin_start; end = g.margin_end }

-- the least size that limits allow
abbrev pub least_across : Bounds → ℤ
least_across b = clamp (int_max b.inner (unwrap_or b.least (pos 0)))

-- the greatest size that they allow; where there is none that of all lengths
abbrev pub greatest_across : Bounds → ℤ
greatest_across b = unwrap_or (option_map clamp b.most) top

-- The least and the greatest size across: both its own, or the limits where it is stretched.
abbrev pub limits_across : Bool → Bounds → ℤ → ℤ × ℤ
limits_across stretched b own =
    let limits : ℤ × ℤ = (least_across b, greatest_across b) in
    let both : ℤ × ℤ = (own, own) in
    if stretched then limits else both

-- A child of this number, with this size along the main axis, and this hypothetical one across it, of a container with this size across.
abbrev pub sitting_by : Bool → ℤ → Label → ℕ → NodeId → Label → ℤ → ℤ → Sitting
sitting_by column across container number child x main cross =
    let limits : ℤ ×
    ℤ = limits_across (is_stretched_across column container x)
    (bounds_of (Some across) x.content.border_box (cross_grid column x) (cross_content column x)) cross in
    record {
      number = number;
      child = child;
      main = main;
      along = margins_in (main_grid column x);
      across = margins_in (cross_grid column x);
      align = line_align container x;
      least = limits.0;
      most = limits.1;
      inline_inner = inner x.grid.columns;
      block_inner = inner x.grid.rows;
    }

-- a child of the definitions as its line places it, where this is the child of each number
abbrev pub sitting_of : Bool → ℤ → Label → (ℕ → NodeId) → rules.Sitting → Sitting
sitting_of column across container child s =
    sitting_by column across container s.settled.member.number (child s.settled.member.number) s.settled.member.kid.label s.main s.cross

-- What a child is given in the inline axis is the size of its content box there: in a row by its main size, in a column by the width that it
-- had before its line was known.
abbrev pub IsGiven : Bool → rules.Sitting → Type 0
IsGiven column s =
    let g = s.settled.member.kid.label.grid.columns in
    s.settled.inline ≡ (if column then given_box g s.settled.box else given_box g s.main)

abbrev pub AreGiven : Bool → List rules.Sitting → Type 0
AreGiven column [] = Unit {0}
AreGiven column (s ∷ rest) = IsGiven column s × AreGiven column rest

-- ---- the frames of the definitions

-- the frame of a numbered child, where this is the child of each number
abbrev pub framed_child : (ℕ → NodeId) → ℕ × rules.Framed → Frame
framed_child child e = record { child = child e.0; rect = e.1.frame.rect; inline = e.1.frame.inline; block = e.1.frame.block }

-- The children of a flex container with these sizes of its content box, line by line and with their numbers: what is then brought back in
-- document order.
abbrev pub flex_numbered : Bool → Label → ℤ → ℤ → List ℤ → List (ℕ × ℕ) → List rules.Sitting → List (ℕ × rules.Framed)
flex_numbered column x main cross sizes ranges all =
    let gap = gap_by (Some main) (pos 0) (main_grid column x).gap in
    let between = gap_by (Some cross) (pos 0) (cross_grid column x).gap in
    let free = cross -ℤ gaps between (length sizes) -ℤ sum_of sizes in
    let a = x.content.block.distribution in
    rules.lines_framed column x main cross gap between (λ k. content_moved (mode_of a.mode) (is_safe a) free k (length sizes)) 0 (pos 0) sizes ranges all

-- their frames in document order
abbrev pub flex_ordered : (ℕ → NodeId) → List (ℕ × rules.Framed) → List Frame
flex_ordered child framed = map (framed_child child) (sorted_by (λ (e : ℕ × rules.Framed). pos e.0) framed)
