-- The answers of every node of a tree (own rule: the form in which what the sections say of one node is put together).
use Rattle.std.specs.Prelude.{ℕ, ◌+◌, ℤ, List, [], ◌∷◌, if◌then◌else◌}
use Rattle.plain_tree.specs.Trees.{Trees, leafless, tree}
use Rattle.part_rules.specs.declared.content.Content.{Content}
use Rattle.part_rules.specs.WordLines.{height_at, narrowest, widest}
use Rattle.part_rules.specs.declared.view.View.{View}
use Rattle.tree_rules.specs.declared.kind.NodeKind.{NodeKind}
use Rattle.tree_rules.specs.declared.kind.NodeKind.TheVariants as kind
use Rattle.tree_rules.specs.declared.query.Given.{Given}
use Rattle.tree_rules.specs.declared.query.Given.TheVariants as given
use Rattle.tree_rules.specs.Answers.{Answers, Down, Kid}
use Rattle.tree_rules.specs.Chains.{Above, Link, above_of, chain_of}
use Rattle.tree_rules.specs.FlexSizes.{Flex, column_block, column_settled, flex_by, flex_inline, row_block, row_lines, row_settled}
use Rattle.tree_rules.specs.Frames.{column_framed, down_of, given_size, grid_framed, row_framed}
use Rattle.tree_rules.specs.GridSizes.{Grid, grid_block, grid_by, grid_inline, grid_lends_columns, grid_lends_rows, rows_of_grid, view_by, wide_children}
use Rattle.tree_rules.specs.Labels.{Label}

-- ---- leaves

-- what is known of a leaf by its width
abbrev pub leaf_down : Content → Given → Down
leaf_down c width = down_of (height_at c (given_size width)) [] (λ height. [])

-- The answers of a leaf (own rule).
abbrev pub leaf_answers : Content → Answers
leaf_answers c = record { inline = λ outer. (narrowest c, widest c); lend_columns = λ outer. []; down = λ outer width. leaf_down c width }

-- ---- grids

-- what is known of a grid by its inline size
abbrev pub grid_down : Grid → Given → Down
grid_down g width =
    let columns : View 0 = view_by g.columns width in
    let wides = wide_children g columns in
    let rows = rows_of_grid g wides in
    down_of (grid_block g rows) (grid_lends_rows g rows) (grid_framed g columns rows wides)

-- The answers of a grid with these links upwards and these children.
abbrev pub grid_answers : Label → List Link → List Kid → Answers
grid_answers x chain kids = record {
  inline = λ outer. grid_inline (grid_by x chain kids outer given.None);
  lend_columns = λ outer. grid_lends_columns (grid_by x chain kids outer given.None);
  down = λ outer width. grid_down (grid_by x chain kids outer width) width;
}

-- ---- flex containers

-- what is known of a row by its inline size
abbrev pub row_down : Flex → ℤ → Down
row_down f width =
    let lines = row_lines f width in
    let settled = row_settled f lines in
    down_of (row_block f lines settled) [] (row_framed f width lines settled)

-- what is known of a column by its inline size
abbrev pub column_down : Flex → ℤ → Down
column_down f width =
    let settled = column_settled f width in
    down_of (column_block f settled) [] (column_framed f width settled)

-- what is known of a flex container by its inline size
abbrev pub flex_down : Flex → ℤ → Down
flex_down f width =
    let row = row_down f width in
    let column = column_down f width in
    if f.label.content.column then column else row

-- The answers of a flex container with these children.
abbrev pub flex_answers : Label → List Kid → Answers
flex_answers x kids =
    let f = flex_by x kids in
    record { inline = λ outer. flex_inline f; lend_columns = λ outer. []; down = λ outer width. flex_down f (given_size width) }

-- ---- any node

-- The answers of a node of this kind.
abbrev pub answers_by : NodeKind → Label → List Link → List Kid → Answers
answers_by kind.Grid x chain kids = grid_answers x chain kids
answers_by kind.Flex x chain kids = flex_answers x kids
answers_by (kind.Leaf content) x chain kids = leaf_answers content

-- The answers of a node from its label, the links upwards, and its children with their answers.
abbrev pub step : Label → List Link → List Kid → Answers
step x chain kids = answers_by x.kind x chain kids

-- a child of this chain with its answers
abbrev pub kid_of : Label → List Link → List Kid → Kid
kid_of x chain kids = record { label = x; chain = chain; answers = step x chain kids }

-- The trees below a node with their answers, of which the next is the child of this number.
abbrev pub kids_of : Above → ℕ → Trees Label → List Kid
kids_of above n leafless = []
kids_of above n (tree x below after) =
    let chain = chain_of above n x in
    kid_of x chain (kids_of (above_of x chain below) 0 below) ∷ kids_of above (n + 1) after
