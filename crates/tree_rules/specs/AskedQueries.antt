-- What a question asks of the children of a node, and all that laying out a tree asks (own rule).
use Rattle.std.specs.Prelude.{◌≡◌, refl, ℕ, ◌+◌, ◌==◌, ℤ, Bool, false, List, [], ◌∷◌, ◌++◌, map, filter, not, if◌then◌else◌, pos}
use Rattle.plain_tree.specs.Trees.{Trees, leafless, tree}
use Rattle.part_rules.specs.declared.view.View.{View}
use Rattle.part_rules.specs.Lists.{zipped}
use Rattle.tree_rules.specs.declared.kind.NodeKind.{NodeKind}
use Rattle.tree_rules.specs.declared.kind.NodeKind.TheVariants as kind
use Rattle.tree_rules.specs.declared.query.Ask.{Ask}
use Rattle.tree_rules.specs.declared.query.Ask.TheVariants as ask
use Rattle.tree_rules.specs.declared.query.Given.{Given}
use Rattle.tree_rules.specs.declared.query.Given.TheVariants as given
use Rattle.tree_rules.specs.declared.query.Query.{Query}
use Rattle.tree_rules.specs.Answers.{Answers, Frame, Kid, Pair}
use Rattle.tree_rules.specs.Boxes.{root_framed, root_inline, root_of, root_width}
use Rattle.tree_rules.specs.Chains.{Above, Link, above_of, chain_of}
use Rattle.tree_rules.specs.FlexSizes.{Flex, Member, Settled, column_settled, flex_by, row_lines, row_settled}
use Rattle.tree_rules.specs.Frames.{given_size}
use Rattle.tree_rules.specs.GridSizes.{Entry, Grid, Wide, grid_by, pairs_for, shares_columns, shares_rows, view_by, wide_children}
use Rattle.tree_rules.specs.Labels.{Label}
use Rattle.tree_rules.specs.Orders.{numbered_from}
use Rattle.tree_rules.specs.Places.{above_root}
use Rattle.tree_rules.specs.Queries.{is_container, needs_inline, same_query}
use Rattle.tree_rules.specs.Whole.{kids_of, step}
use Rattle.lunit.specs.Units.{clamp, floor_div}
use Rattle.part_rules.specs.Fractions.{left_flexible}
use Rattle.part_rules.specs.Placement.{placed_by_rows}
use Rattle.part_rules.specs.Sharing.{handed_by_level}
use Rattle.part_rules.specs.Tracks.{sized, group_fitted, spans_fitted}
use Rattle.tree_rules.specs.Samples.{px, fixed, fr, tracks, with_gap, grid, plain_leaf, side_by_side, main, name_a, name_b}
use Rattle.tree_rules.specs.Labels.{plain_content}

-- A question to a child, with the child's number.
abbrev pub ToChild : Type 0
ToChild = ℕ × Query

-- ---- questions to children

-- the question for the inline sizes, or the lent columns, of a child
abbrev pub inline_query : Bool → List Pair → Query
inline_query shared pairs = record { ask = if shared then ask.LendColumns else ask.Inline; reps = pairs; inline = given.None; block = given.None }

-- the question for the block size, or the lent rows, of a child that is given this
abbrev pub block_query : Bool → List Pair → Given → Query
block_query shared pairs width = record { ask = if shared then ask.LendRows else ask.Block; reps = pairs; inline = width; block = given.None }

-- the question for the frames of a child that is given this
abbrev pub frames_query : List Pair → Frame → Query
frames_query pairs f = record { ask = ask.Frames; reps = pairs; inline = f.inline; block = f.block }

-- what a grid asks of a child in any case
abbrev pub grid_asks_inline : Grid → Entry → ToChild
grid_asks_inline g e = (e.number, inline_query (shares_columns e.kid) (pairs_for e.kid g.pairs))

-- what a grid asks of a child once its columns are known
abbrev pub grid_asks_block : Grid → Wide → ToChild
grid_asks_block g w = (w.entry.number, block_query (shares_rows w.entry.kid) (pairs_for w.entry.kid g.pairs) w.inline)

-- What a question to a grid asks of its children.
abbrev pub grid_uses : Grid → Query → List ToChild
grid_uses g q =
    let columns : View 0 = view_by g.columns q.inline in
    let blocks = map (grid_asks_block g) (wide_children g columns) in
    map (grid_asks_inline g) g.entries ++ (if needs_inline q.ask then blocks else [])

-- what a flex container asks of a child in any case
abbrev pub flex_asks_inline : Member → ToChild
flex_asks_inline m = (m.number, inline_query false [])

-- what a flex container asks of a child once its inline size is known
abbrev pub flex_asks_block : Settled → ToChild
flex_asks_block s = (s.member.number, block_query false [] s.inline)

-- the width that a child of a column has in its frame, which can be another than that at which its block size is found (both count; it could also
-- be the latter alone)
abbrev pub frame_width : ℕ × Frame → ToChild
frame_width f = (f.0, block_query false [] f.1.inline)

-- the children of a flex container with their inline sizes
abbrev pub settled_in : Flex → ℤ → List Settled
settled_in f width =
    let row = row_settled f (row_lines f width) in
    let column = column_settled f width in
    if f.label.content.column then column else row

-- the frames of a column
abbrev pub asks_frames : Flex → Ask → Bool
asks_frames f ask.Frames = f.label.content.column
asks_frames f a = false

-- What a question to a flex container asks of its children.
abbrev pub flex_uses : Flex → Answers → Query → List ToChild
flex_uses f a q =
    let blocks = map flex_asks_block (settled_in f (given_size q.inline)) in
    let widths = map frame_width (numbered_from 0 ((a.down q.reps q.inline).frames q.block)) in
    map flex_asks_inline f.members ++ (if needs_inline q.ask then blocks else []) ++ (if asks_frames f q.ask then widths else [])

-- What a question to a node of this kind asks of its children.
abbrev pub uses_by : NodeKind → Label → List Link → List Kid → Query → List ToChild
uses_by kind.Grid x chain kids q = grid_uses (grid_by x chain kids q.reps q.inline) q
uses_by kind.Flex x chain kids q = flex_uses (flex_by x kids) (step x chain kids) q
uses_by (kind.Leaf content) x chain kids q = []

-- What a question to a node asks of its children, by their numbers.
abbrev pub uses : Label → List Link → List Kid → Query → List ToChild
uses x chain kids q = uses_by x.kind x chain kids q

-- ---- the questions on the way of the boxes

-- the counts that the children of a node see, where they see it
abbrev pub pairs_below : NodeKind → Label → List Link → List Kid → Query → List Pair
pairs_below kind.Grid x chain kids q = (grid_by x chain kids q.reps q.inline).pairs
pairs_below kind.Flex x chain kids q = []
pairs_below (kind.Leaf content) x chain kids q = []

-- the question for the frames of a child that is a container
abbrev pub passed_to : List Pair → ℕ × Kid → Frame → List ToChild
passed_to pairs k f = if is_container k.1.label.kind then (k.0, frames_query (pairs_for k.1 pairs) f) ∷ [] else []

-- one list of questions
abbrev pub all_of : List (List ToChild) → List ToChild
all_of [] = []
all_of (x ∷ rest) = x ++ all_of rest

-- From the frames of a node those of its children that are containers.
abbrev pub passes_on : Label → List Link → List Kid → Query → List ToChild
passes_on x chain kids q =
    all_of
    (zipped (passed_to (pairs_below x.kind x chain kids q)) (numbered_from 0 kids) (((step x chain kids).down q.reps q.inline).frames q.block))

-- the questions that are passed on, which come from frames alone
abbrev pub passes_from : Ask → Label → List Link → List Kid → Query → List ToChild
passes_from ask.Frames x chain kids q = passes_on x chain kids q
passes_from a x chain kids q = []

-- ---- all questions

-- the questions to the child of this number
abbrev pub for_child : ℕ → List ToChild → List Query
for_child n [] = []
for_child n (t ∷ rest) = if t.0 == n then t.1 ∷ for_child n rest else for_child n rest

-- each question once
abbrev pub without_repeats : List Query → List Query
without_repeats [] = []
without_repeats (q ∷ rest) = q ∷ filter (λ r. not (same_query q r)) (without_repeats rest)

-- A question, with the name of its node.
abbrev pub ToNode : Type 0
ToNode = List ℕ × Query

-- The questions to the trees below a node, of which the next is the child of this number, and to all below them, where each question leads to
-- questions to the children.
abbrev pub spread : (Label → List Link → List Kid → Query → List ToChild) → Above → ℕ → List ToChild → Trees Label → List ToNode
spread leads above n asked leafless = []
spread leads above n asked (tree x below after) =
    let chain = chain_of above n x in
    let lower = above_of x chain below in
    let kids = kids_of lower 0 below in
    let own = without_repeats (for_child n asked) in
    let next = all_of (map (leads x chain kids) own) in
    map (λ q. (x.name, q)) own ++ spread leads lower 0 next below ++ spread leads above (n + 1) asked after

-- the question for the frames of the root
abbrev pub root_query : ℤ → ℤ → Label → Trees Label → List ToChild
root_query width height x below =
    let r = root_of x below in
    if is_container x.kind then (0, frames_query [] (root_framed width height r).frame) ∷ [] else []

-- The path: for each container of a tree the question for its frames, with what the boxes of the tree in this viewport give it.
abbrev pub path : ℤ → ℤ → Label → Trees Label → List ToNode
path width height x below = spread passes_on above_root 0 (root_query width height x below) (tree x below leafless)

-- a question leads to those that it uses, and on the path to the next ones of the path
abbrev pub leads_to : Label → List Link → List Kid → Query → List ToChild
leads_to x chain kids q = uses x chain kids q ++ passes_from q.ask x chain kids q

-- All that laying out a tree in this viewport can ask: the path, the root's inline sizes and its block size at its width, and all that these use,
-- each once.
abbrev pub asked : ℤ → ℤ → Label → Trees Label → List ToNode
asked width height x below =
    let r = root_of x below in
    let own : List ToChild = (0, inline_query false []) ∷ (0, block_query false [] (root_inline r (root_width width r))) ∷ root_query width height x below in
    spread leads_to above_root 0 own (tree x below leafless)

-- ---- worked rows

-- columns of 100px and 1fr with a gap of 10 and two leaves, in a viewport of 300 by 200
abbrev two_columns : Label
two_columns = grid main (with_gap (tracks (fixed 100 ∷ fr 1000 ∷ [])) 10) plain_content

abbrev two_leaves : Trees Label
two_leaves = side_by_side (plain_leaf name_a 40 20 ∷ plain_leaf name_b 50 30 ∷ [])

abbrev at_width : ℤ → Query
at_width width = block_query false [] (given.Size width)

abbrev frames_of_main : Query
frames_of_main = record { ask = ask.Frames; reps = []; inline = given.Size (px 300); block = given.Size (px 30) }

-- The only container is the root, which is 300 wide and 30 high.
the_path : path (px 300) (px 200) two_columns two_leaves ≡ (main, frames_of_main) ∷ []
unfolding clamp floor_div sized group_fitted spans_fitted handed_by_level left_flexible placed_by_rows
the_path = refl

-- Of the leaves it asks their inline sizes, and their heights in columns of 100 and 190.
all_asked : asked (px 300) (px 200) two_columns two_leaves
    ≡ (main, inline_query false []) ∷ (main, at_width (px 300)) ∷ (main, frames_of_main) ∷ (name_a, inline_query false []) ∷
    (name_a, at_width (px 100)) ∷ (name_b, inline_query false []) ∷ (name_b, at_width (px 190)) ∷ []
unfolding clamp floor_div sized group_fitted spans_fitted handed_by_level left_flexible placed_by_rows
all_asked = refl

-- The question for the inline sizes asks for no height.
inline_uses : uses two_columns [] (kids_of (above_of two_columns [] two_leaves) 0 two_leaves) (inline_query false []) ≡
    (0, inline_query false []) ∷ (1, inline_query false []) ∷ []
unfolding clamp floor_div sized group_fitted spans_fitted handed_by_level left_flexible placed_by_rows
inline_uses = refl

each_once : without_repeats (at_width (pos 3) ∷ at_width (pos 4) ∷ at_width (pos 3) ∷ []) ≡ at_width (pos 3) ∷ at_width (pos 4) ∷ []
each_once = refl

for_second : for_child 1 ((1, at_width (pos 3)) ∷ (0, at_width (pos 4)) ∷ (1, at_width (pos 5)) ∷ []) ≡ at_width (pos 3) ∷ at_width (pos 5) ∷ []
for_second = refl
