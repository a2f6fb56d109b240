-- The frame of the root of a tree, as laying the tree out in a viewport finds it (own rule).
use Rattle.std.specs.Prelude.{◌≡◌, ℕ, ◌≤◌, ℤ, pos, true, [], ◌∷◌}
use Rattle.node_arena.specs.Numbers.{top_numbers}
use Rattle.placing.specs.Kept.{frame_of}
use Rattle.placing.specs.Nodes.{BareTrees, sight_at}
use Rattle.tree_rules.specs.Boxes.{root_framed, root_of}
use Rattle.tree_rules.specs.Queries.{Fits, is_container}
use Rattle.box_layout.specs.Asking.{frames_asked}
use Rattle.box_layout.specs.BoxesSeen.{IsNearAt}
use Rattle.box_layout.specs.declared.layout.RootFrame.{RootFrame}

-- It is that of the root in a viewport of this width and height. The question for the frames of its children fits it, and it stands near the origin.
pub record IsRootFrame (b : BareTrees) (width height : ℤ) (r : RootFrame) : Type 0 where
  pub across : r.width ≡ width
  pub down : r.height ≡ height
  pub top : top_numbers b ≡ r.frame.child ∷ []
  pub value : frame_of r.frame ≡ (root_framed width height (root_of (sight_at b r.frame.child).label (sight_at b r.frame.child).below)).frame
  pub fits : is_container (sight_at b r.frame.child).label.kind ≡ true → Fits (sight_at b r.frame.child) (frames_asked [] r.frame.inline r.frame.block)
  pub near : (level : ℕ) → 1 ≤ level → IsNearAt level (pos 0) (pos 0) (frame_of r.frame)
