-- The children of a node stand near it, whatever its kind.
use Rattle.std.proofs.Common.{arith, ℕ, ◌+◌, ◌≤◌, Bool, true, false, List, length, if◌then◌else◌}
use Rattle.std.proofs.lemmas.Int.{ints}
use Rattle.lunit.specs.Units.{IsUnits}
use Rattle.node_arena.specs.Numbers.{IsNumbered}
use Rattle.node_arena.specs.declared.number.NodeId.{NodeId}
use Rattle.part_rules.specs.declared.view.View.{View}
use Rattle.placing.proofs.Each.{Each}
use Rattle.placing.specs.Nodes.{IsLive, NodeTrees, above_at, bare, kids_at, sight_at}
use Rattle.placing.specs.Ranges.{AreReadable, IsGridStyle}
use Rattle.plain_tree.specs.Trees.{Trees, leafless, tree}
use Rattle.tree_rules.specs.Answers.{Kid, Pair}
use Rattle.tree_rules.specs.Chains.{Above, Link}
use Rattle.tree_rules.specs.Frames.{given_size}
use Rattle.tree_rules.specs.GridSizes.{Entry, Grid, TrackAxis, grid_by, rows_of_grid, view_by, wide_children}
use Rattle.tree_rules.specs.Labels.{Label}
use Rattle.tree_rules.specs.Orders.{in_order}
use Rattle.tree_rules.specs.Places.{answers_of}
use Rattle.tree_rules.specs.Whole.{answers_by, column_down, kids_of, row_down}
use Rattle.tree_rules.specs.FlexSizes.{Flex, flex_by}
use Rattle.tree_rules.specs.declared.kind.NodeKind.{NodeKind}
use Rattle.tree_rules.specs.declared.kind.NodeKind.TheVariants as kind
use Rattle.tree_rules.specs.declared.query.Given.{Given}
use Rattle.tree_rules.specs.declared.query.Given.TheVariants as given
use Rattle.inline_sizes.proofs.FineContexts.{each_in_order}
use Rattle.inline_sizes.proofs.FineSights.{items_in_tracks, nodes_styled, sight_fine}
use Rattle.inline_sizes.proofs.LentInside.{AreStyled}
use Rattle.inline_sizes.specs.GridsSeen.{HasItemsInTracks, grid_seen}
use Rattle.inline_sizes.specs.TrackAxes.{track_count}
use Rattle.box_layout.proofs.FlexNear.{column_stands, row_stands}
use Rattle.box_layout.proofs.GridNear.{entries_styled, grid_stands}
use Rattle.box_layout.proofs.OwnTracks.{view_gap, view_near}
use Rattle.box_layout.specs.Stands.{IsGivenNear, StandBelow}

-- what is given as a size is a length
size_given : (level : ℕ) (g : Given) → IsGivenNear level g → IsUnits (given_size g)
size_given level given.None h = (omega (arith, ints), omega (arith, ints))
size_given level (given.Size x) h = h
size_given level (given.Tracks edges gap) h = (omega (arith, ints), omega (arith, ints))

-- ---- the values of the children

pub kids_styled : (above : Above) (n : ℕ) (t : Trees Label) → AreStyled t → Each (λ (k : Kid). IsGridStyle k.label.grid) (kids_of above n t)
kids_styled above n leafless h = tt
kids_styled above n (tree x below after) h = (h.0, kids_styled above (n + 1) after h.1.1)

seen_styled : (t : NodeTrees) (n : NodeId) → AreReadable (bare t) → IsNumbered t → Each (λ (k : Kid). IsGridStyle k.label.grid) (kids_at (bare t) n)
seen_styled t n readable numbered = kids_styled (above_at (bare t) n) 0 (sight_at (bare t) n).below (sight_fine (bare t) n (nodes_styled t readable numbered)).lower

-- ---- by kind

module _ (level : ℕ) (x : Label) (chain : List Link) (kids : List Kid) (reps : List Pair) (inline block : Given) (near : level ≤ 64) (style : IsGridStyle x.grid) (styled : Each (λ (k : Kid). IsGridStyle k.label.grid) kids) (few : length kids ≤ 65536)
    (inline_is : IsGivenNear level inline) (block_is : IsGivenNear level block) where
  grid_case : track_count (grid_by x chain kids reps inline).placed.columns ≤ 131072 → track_count (grid_by x chain kids reps inline).placed.rows ≤ 131072 → StandBelow level (((answers_by kind.Grid x chain kids).down reps inline).frames block)
  grid_case columns_few rows_few =
      let g : Grid = grid_by x chain kids reps inline in
      let columns : View 0 = view_by g.columns inline in
      let rows : TrackAxis = rows_of_grid g (wide_children g columns) in
      let entries : Each (λ (e : Entry). IsGridStyle e.kid.label.grid) g.entries = entries_styled (in_order (λ (k : Kid). k.label.grid.order) kids) g.placed.areas (each_in_order (λ (k : Kid). IsGridStyle k.label.grid) (λ (k : Kid). k.label.grid.order) kids styled) in
      grid_stands level g columns rows block near style entries (view_near 0 g.columns level inline style.columns.gap columns_few inline_is) (view_gap 0 g.columns level inline style.columns.gap inline_is) style.rows.gap rows_few block_is

  flex_case : StandBelow level (((answers_by kind.Flex x chain kids).down reps inline).frames block)
  flex_case = go x.content.column
    where
      f : Flex
      f = flex_by x kids

      go : (b : Bool) → StandBelow level ((if b then column_down (flex_by x kids) (given_size inline) else row_down (flex_by x kids) (given_size inline)).frames block)
      go true = column_stands level x kids style styled few (given_size inline) block (size_given level inline inline_is) (size_given level block block_is)
      go false = row_stands level x kids style styled few (given_size inline) block (size_given level inline inline_is) (size_given level block block_is)

  any_case : (k : NodeKind) → track_count (grid_by x chain kids reps inline).placed.columns ≤ 131072 → track_count (grid_by x chain kids reps inline).placed.rows ≤ 131072 → StandBelow level (((answers_by k x chain kids).down reps inline).frames block)
  any_case kind.Grid columns_few rows_few = grid_case columns_few rows_few
  any_case kind.Flex columns_few rows_few = flex_case
  any_case (kind.Leaf content) columns_few rows_few = tt

-- ---- of an arena

seen_grid : (t : NodeTrees) (n : NodeId) (reps : List Pair) (inline : Given) → HasItemsInTracks (sight_at (bare t) n) (grid_seen (bare t) n reps inline) → HasItemsInTracks (sight_at (bare t) n) (grid_by (sight_at (bare t) n).label (sight_at (bare t) n).chain (kids_at (bare t) n) reps inline)
unfolding grid_seen
seen_grid t n reps inline h = h

pub frames_near : (t : NodeTrees) (n : NodeId) → IsLive (bare t) n → AreReadable (bare t) → IsNumbered t → (level : ℕ) (reps : List Pair) (inline block : Given) → level ≤ 64 → IsGivenNear level inline → IsGivenNear level block
    → StandBelow level (((answers_of (sight_at (bare t) n)).down reps inline).frames block)
frames_near t n live readable numbered level reps inline block near inline_is block_is =
    let x : Label = (sight_at (bare t) n).label in
    let chain : List Link = (sight_at (bare t) n).chain in
    let kids : List Kid = kids_at (bare t) n in
    let tracks : HasItemsInTracks (sight_at (bare t) n) (grid_by x chain kids reps inline) = seen_grid t n reps inline (items_in_tracks t n reps inline readable numbered) in
    any_case level x chain kids reps inline block near (readable.nodes n live).grid (seen_styled t n readable numbered) (readable.children n) inline_is block_is x.kind tracks.inside.few_columns tracks.inside.few_rows
