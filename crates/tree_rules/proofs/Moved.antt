-- The boxes below a node stand to its border box in the same way wherever that is.
use Rattle.std.specs.Prelude.{◌≡◌, refl, ℕ, ◌+◌, ℤ, ◌+ℤ◌, Bool, true, false, List, [], ◌∷◌, ◌++◌, if◌then◌else◌}
use Rattle.std.proofs.Common.{ap, sym, subst, ◌∙◌}
use Rattle.std.proofs.Math.IntN.{+ℤ_assoc}
use Rattle.lunit.specs.declared.item.Item.{Item}
use Rattle.part_rules.specs.declared.view.View.{View}
use Rattle.plain_tree.specs.Trees.{Trees, leafless, tree}
use Rattle.tree_rules.specs.declared.kind.NodeKind.{NodeKind}
use Rattle.tree_rules.specs.declared.kind.NodeKind.TheVariants as kind
use Rattle.tree_rules.specs.declared.query.Given.{Given}
use Rattle.tree_rules.specs.Answers.{Box, Down, Kid, Pair}
use Rattle.tree_rules.specs.Chains.{Above, Link, above_of, chain_of}
use Rattle.tree_rules.specs.FlexSizes.{column_block, column_settled, flex_by, row_block, row_lines, row_settled}
use Rattle.tree_rules.specs.Frames.{Framed, boxes_at, column_framed, down_of, given_size, grid_framed, moved_boxes, moved_by, row_framed}
use Rattle.tree_rules.specs.GridSizes.{grid_block, grid_by, grid_lends_rows, rows_of_grid, view_by, wide_children}
use Rattle.tree_rules.specs.Labels.{Label}
use Rattle.tree_rules.specs.Places.{Seen, answers_of}
use Rattle.tree_rules.specs.Whole.{answers_by, column_down, kids_of, row_down}
use Rattle.tree_rules.proofs.Sorted.{EachTwo}
use Rattle.tree_rules.proofs.Told.{IsFrameOf, column_frames, grid_frames, row_frames}

-- a position, moved
abbrev moved_at : ℤ × ℤ → ℤ × ℤ → ℤ × ℤ
moved_at by at = (by.0 +ℤ at.0, by.1 +ℤ at.1)

-- the boxes below a node move with it
abbrev Moves : Down → Type 0
Moves d = (height : Given) (at by : ℤ × ℤ) → d.boxes height (moved_at by at) ≡ moved_boxes by (d.boxes height at)

-- children whose boxes move, whatever they are asked
abbrev AllMove : List Kid → Type 0
AllMove [] = Unit {0}
AllMove (k ∷ ks) = ((pairs : List Pair) (g : Given) → Moves (k.answers.down pairs g)) × AllMove ks

moved_joined : (by : ℤ × ℤ) (xs ys : List Box) → moved_boxes by (xs ++ ys) ≡ moved_boxes by xs ++ moved_boxes by ys
moved_joined by [] ys = refl
moved_joined by (b ∷ xs) ys = ap (λ l. (b.0, moved_by by b.1) ∷ l) (moved_joined by xs ys)

-- The boxes of children, where those of each and of the later ones move.
one_moves : (f : Framed) (fs : List Framed) (at by : ℤ × ℤ) → Moves f.down → boxes_at (moved_at by at) fs ≡ moved_boxes by (boxes_at at fs) → boxes_at (moved_at by at) (f ∷ fs) ≡ moved_boxes by (boxes_at at (f ∷ fs))
one_moves f fs at by own rest =
    let rect = moved_by at f.frame.rect in
    let here = moved_by by rect in
    let below = f.down.boxes f.frame.block (rect.x, rect.y) in
    let x : (by.0 +ℤ at.0) +ℤ f.frame.rect.x ≡ by.0 +ℤ (at.0 +ℤ f.frame.rect.x) = +ℤ_assoc by.0 at.0 f.frame.rect.x in
    let y : (by.1 +ℤ at.1) +ℤ f.frame.rect.y ≡ by.1 +ℤ (at.1 +ℤ f.frame.rect.y) = +ℤ_assoc by.1 at.1 f.frame.rect.y in
    let placed : boxes_at (moved_at by at) (f ∷ fs) ≡
    (f.name, here) ∷ f.down.boxes f.frame.block (here.x, here.y) ++ boxes_at (moved_at by at) fs = λ i. (f.name, record { x = x i; y = y i; width = f.frame.rect.width; height = f.frame.rect.height }) ∷ f.down.boxes f.frame.block (x i, y i) ++ boxes_at (moved_at by at) fs in
    let moved : f.down.boxes f.frame.block (here.x, here.y) ++ boxes_at (moved_at by at) fs ≡ moved_boxes by below ++ moved_boxes by (boxes_at at fs) = λ i. own f.frame.block (rect.x, rect.y) by i ++ rest i in
    placed ∙ ap (λ l. (f.name, here) ∷ l) (moved ∙ sym (moved_joined by below (boxes_at at fs)))

all_move : (fs : List Framed) (kids : List Kid) → EachTwo IsFrameOf kids fs → AllMove kids → (at by : ℤ × ℤ) → boxes_at (moved_at by at) fs ≡ moved_boxes by (boxes_at at fs)
all_move [] [] h all at by = refl
all_move [] (k ∷ ks) h all at by = absurd h
all_move (f ∷ fs) [] h all at by = absurd h
all_move (f ∷ fs) (k ∷ ks) h all at by =
    let own : Moves f.down = subst (λ (d : Down). Moves d) (sym (h.0).down) (all.0 (h.0).pairs (h.0).inline) in
    one_moves f fs at by own (all_move fs ks h.1 all.1 at by)

down_moves : (block : ℤ) (lent : List Item) (framed : Given → List Framed) (kids : List Kid) → ((height : Given) → EachTwo IsFrameOf kids (framed height)) → AllMove kids → Moves (down_of block lent framed)
down_moves block lent framed kids h all height at by = all_move (framed height) kids (h height) all at by

one_of_two : (c : Bool) (d e : Down) → Moves d → Moves e → Moves (if c then d else e)
one_of_two true d e h k = h
one_of_two false d e h k = k

kind_moves : (k : NodeKind) (x : Label) (chain : List Link) (kids : List Kid) → AllMove kids → (pairs : List Pair) (g : Given) → Moves ((answers_by k x chain kids).down pairs g)
kind_moves kind.Grid x chain kids all pairs g =
    let grid = grid_by x chain kids pairs g in
    let columns : View 0 = view_by grid.columns g in
    let wides = wide_children grid columns in
    let rows = rows_of_grid grid wides in
    down_moves (grid_block grid rows) (grid_lends_rows grid rows) (grid_framed grid columns rows wides) kids (grid_frames x chain kids pairs g columns rows) all
kind_moves kind.Flex x chain kids all pairs g =
    let f = flex_by x kids in
    let width = given_size g in
    one_of_two x.content.column (column_down f width) (row_down f width) (down_moves (column_block f (column_settled f width)) [] (column_framed f width (column_settled f width)) kids (column_frames x kids width) all)
    (down_moves (row_block f (row_lines f width) (row_settled f (row_lines f width))) [] (row_framed f width (row_lines f width) (row_settled f (row_lines f width))) kids (row_frames x kids width) all)
kind_moves (kind.Leaf content) x chain kids all pairs g = λ height at by. refl

kids_move : (above : Above) (n : ℕ) (t : Trees Label) → AllMove (kids_of above n t)
kids_move above n leafless = tt
kids_move above n (tree x below after) = (kind_moves x.kind x (chain_of above n x) (kids_of (above_of x (chain_of above n x) below) 0 below) (kids_move (above_of x (chain_of above n x) below) 0 below), kids_move above (n + 1) after)

-- The boxes below a node whose border box is moved are those below it, moved with it.
pub boxes_move : (s : Seen) (reps : List Pair) (inline block : Given) (x y right down : ℤ) → ((answers_of s).down reps inline).boxes block (right +ℤ x, down +ℤ y) ≡ moved_boxes (right, down) (((answers_of s).down reps inline).boxes block (x, y))
boxes_move s reps inline block x y right down = kind_moves s.label.kind s.label s.chain (kids_of (above_of s.label s.chain s.below) 0 s.below) (kids_move (above_of s.label s.chain s.below) 0 s.below) reps inline block (x, y) (right, down)
