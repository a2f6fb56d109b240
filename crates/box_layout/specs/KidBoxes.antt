-- The boxes of the children of a node and of all below them, child by child (CSS Grid 2, section 6; CSS Flexbox 1, section 9).
use Rattle.std.specs.Prelude.{ℤ, List, [], ◌∷◌, ◌++◌}
use Rattle.tree_rules.specs.Answers.{Box, Frame, Kid, Pair}
use Rattle.tree_rules.specs.Frames.{moved_by}
use Rattle.tree_rules.specs.GridSizes.{pairs_for}

-- The box of a child with this frame, and those below it, where the border box of its parent is at this position and the parent's subgrids see
-- these counts.
abbrev pub kid_boxes : List Pair → ℤ × ℤ → Kid → Frame → List Box
kid_boxes pairs at k f =
    let rect = moved_by at f.rect in
    (k.label.name, rect) ∷ (k.answers.down (pairs_for k pairs) f.inline).boxes f.block (rect.x, rect.y)

-- the boxes of all these children and of all below them, in document order
unfoldable pub boxes_from : List Pair → ℤ × ℤ → List Kid → List Frame → List Box
boxes_from pairs at [] frames = []
boxes_from pairs at (k ∷ kids) [] = []
boxes_from pairs at (k ∷ kids) (f ∷ frames) = kid_boxes pairs at k f ++ boxes_from pairs at kids frames
