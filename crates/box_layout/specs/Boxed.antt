-- What the walk on the way of the boxes asks of a node, and what it says of the boxes that it hands over (own rule).
use Rattle.std.specs.Prelude.{◌≡◌, ℕ, true, false, List, map}
use Rattle.node_arena.specs.declared.number.NodeId.{NodeId}
use Rattle.placing.specs.Kept.{frame_of, kept_at}
use Rattle.placing.specs.Nodes.{BareTrees, children_at, sight_at}
use Rattle.placing.specs.Walks.{State}
use Rattle.placing.specs.declared.node.Frame.{Frame as NodeFrame}
use Rattle.tree_rules.specs.Answers.{Box}
use Rattle.tree_rules.specs.Queries.{Fits, answer_of, child_frames, is_container}
use Rattle.tree_rules.specs.declared.query.Query.{Query}
use Rattle.walker.specs.declared.seat.Seat.{Seat}
use Rattle.walker.specs.declared.walker.Walker.{Walker}
use Rattle.box_layout.specs.Asking.{frames_asked}
use Rattle.box_layout.specs.Beneath.{pairs_to}
use Rattle.box_layout.specs.BoxesSeen.{IsNearAt, boxes_seen, boxes_with}
use Rattle.box_layout.specs.LastBoxes.{AreFound}
use Rattle.box_layout.specs.LeafHeights.{MeasuresBelow}
use Rattle.box_layout.specs.Paths.{AreKeptBelow, IsChildLaid, IsLaidOut}
use Rattle.box_layout.specs.declared.child_seats.ChildSeats.{ChildSeats}
use Rattle.box_layout.specs.declared.spot.Boxes.{Boxes}
use Rattle.box_layout.specs.declared.spot.Spot.{Spot}

-- ---- questions for frames

-- of a container in its seat, by what its frame gives it
abbrev pub asked_in : Seat → NodeFrame → Query
asked_in seat f = frames_asked seat.reps.now f.inline f.block

-- of the child of a frame, by what it sees of its parent
abbrev pub asked_to : ChildSeats → NodeFrame → Query
asked_to seats f = frames_asked (pairs_to seats (frame_of f)) f.inline f.block

-- such a question fits a node, where it is a container
abbrev pub FitsFrames : BareTrees → NodeId → Query → Type 0
FitsFrames b n q = is_container (sight_at b n).label.kind ≡ true → Fits (sight_at b n) q

-- these frames, as the code holds them, answer it
abbrev pub AnswerFrames : BareTrees → NodeId → Query → List NodeFrame → Type 0
AnswerFrames b n q frames = child_frames (map frame_of frames) ≡ answer_of (sight_at b n) q

-- they are those of the children of a node, in document order
abbrev pub AreOfChildren : BareTrees → NodeId → List NodeFrame → Type 0
AreOfChildren b n frames = map (λ (f : NodeFrame). f.child) frames ≡ children_at b n

-- ---- boxes

-- the box of the child of a spot, and those below it, by what it sees of its parent
abbrev pub boxes_to : BareTrees → NodeId → ChildSeats → Spot → List Box
boxes_to b c seats spot = boxes_with b c (pairs_to seats (frame_of spot.frame.now)) (frame_of spot.frame.now) (spot.x, spot.y)

-- the box of a node in its seat at a spot, and those below it
abbrev pub boxes_at : BareTrees → NodeId → Seat → Spot → List Box
boxes_at b n seat spot = boxes_with b n seat.reps.now (frame_of spot.frame.now) (spot.x, spot.y)

-- the boxes below a container in its seat that has the frame of a spot and whose border box starts there
abbrev pub boxes_in : BareTrees → NodeId → Seat → Spot → List Box
boxes_in b n seat spot = boxes_seen b n (asked_in seat spot.frame.now) (spot.x, spot.y)

-- a spot of a node of this level that is near
abbrev pub IsNearSpot : ℕ → Spot → Type 0
IsNearSpot level spot = IsNearAt level spot.x spot.y (frame_of spot.frame.now)

-- ---- what the boxes are handed to

-- the receiver of the boxes and the list of those that were found last stay the ones of before: what is written there is seen by
-- those who lent it
pub record SameSinks {T : Type 0} (old new : Boxes T) : Type 0 where
  pub told : new.told.ghost_name ≡ old.told.ghost_name
  pub last : new.last.ghost_name ≡ old.last.ghost_name

-- The boxes that were found last are right by these nodes, unless an answer of a walk went since its list was full.
abbrev pub StillFound : {R L T : Type 0} → BareTrees → Walker R L → Boxes T → Type 0
StillFound b w out = w.tally.now.lost ≡ false → AreFound b (kept_at w.tree.now.tree) out.last.now

-- ---- what a walk has done

-- The boxes below a container were found: it was laid out, leaves were measured where grids were found anew, and the questions on the way are kept.
pub record IsBoxed (b : BareTrees) (n : NodeId) (q : Query) (old new : State) : Type 0 where
  pub laid : IsLaidOut n q old new
  pub leaves : MeasuresBelow b n q old new
  pub paths : AreKeptBelow b n q new

-- the box of a node and those below it were found, where nothing is asked of a leaf
pub record IsChildBoxed (b : BareTrees) (c : NodeId) (q : Query) (old new : State) : Type 0 where
  pub laid : IsChildLaid b c q old new
  pub leaves : is_container (sight_at b c).label.kind ≡ true → MeasuresBelow b c q old new
  pub paths : is_container (sight_at b c).label.kind ≡ true → AreKeptBelow b c q new

-- where all questions on the way are kept, nothing changes
abbrev pub IsQuietBelow : BareTrees → NodeId → Query → State → State → Type 0
IsQuietBelow b n q old new = AreKeptBelow b n q old → new ≡ old

-- where all questions on the way are kept, nothing changes, for a node that may be a leaf
abbrev pub IsQuietChild : BareTrees → NodeId → Query → State → State → Type 0
IsQuietChild b c q old new = (is_container (sight_at b c).label.kind ≡ true → AreKeptBelow b c q old) → new ≡ old
