-- What the children of a node see of it, as the code holds it (CSS Grid 2, section 9).
use Rattle.std.specs.Prelude.{◌≡◌, ℕ, ◌<◌, ◌&&◌, ◌||◌, Bool, true, false, if◌then◌else◌, List, [], ◌∷◌, length, drop, get_or, Option, None, Some}
use Rattle.lunit.specs.declared.geometry.Area.{Area}
use Rattle.node_arena.specs.declared.number.NodeId.{NodeId}
use Rattle.node_arena.specs.Numbers.{child_at}
use Rattle.placing.specs.Areas.{IsPlaced}
use Rattle.placing.specs.Nodes.{BareTrees, sight_at}
use Rattle.placing.specs.Seats.{IsSeat, context_at, context_of}
use Rattle.placing.specs.declared.contexts.Above.{Above}
use Rattle.placing.specs.declared.contexts.Above.TheVariants as above
use Rattle.placing.specs.declared.contexts.Context.{Context}
use Rattle.placing.specs.declared.contexts.Placed.{Placed}
use Rattle.placing.specs.declared.wide.GridBase.{GridBase}
use Rattle.tree_rules.specs.Answers.{Frame, Pair}
use Rattle.tree_rules.specs.Chains.{has_chain}
use Rattle.tree_rules.specs.declared.query.Given.{Given}
use Rattle.tree_rules.specs.declared.query.Given.TheVariants as given
use Rattle.tree_rules.specs.declared.query.Query.{Query}
use Rattle.inline_sizes.specs.Grids.{has_subgrid_kind}
use Rattle.box_layout.specs.BoxesSeen.{pairs_seen}
use Rattle.box_layout.specs.declared.child_seats.ChildSeats.{ChildSeats}
use Rattle.box_layout.specs.declared.child_seats.HeldBase.{HeldBase}
use Rattle.box_layout.specs.declared.child_seats.HeldBase.TheVariants as held

-- whether tracks are given
abbrev pub is_tracks : Given → Bool
is_tracks (given.Tracks edges gap) = true
is_tracks (given.Size x) = false
is_tracks given.None = false

-- whether the child of a frame is given tracks in an axis
abbrev pub is_lower : Frame → Bool
is_lower f = is_tracks f.inline || is_tracks f.block

abbrev pub has_lower : List Frame → Bool
has_lower [] = false
has_lower (f ∷ rest) = is_lower f || has_lower rest

-- The frames of the children of a node tell which of them are subgrids of it: those that are given tracks.
abbrev pub AreTelling : BareTrees → NodeId → List Frame → Type 0
AreTelling b n frames =
    (index : ℕ) (c : NodeId) (f : Frame) (rest : List Frame) → child_at b n index ≡ Some c → drop index frames ≡ f ∷ rest →
    has_chain (sight_at b c).chain ≡ is_lower f

-- the grid before its children are asked, wherever it is held
abbrev pub base_held : HeldBase → GridBase
base_held (held.Made base) = base.value
base_held (held.Kept wide) = wide.parts.base

-- what its subgrids see of it: the counts of the repetitions, the topmost grid first
abbrev pub pairs_held : Option HeldBase → List Pair
pairs_held None = []
pairs_held (Some h) = (base_held h).pairs

-- the context that its subgrids see above them; another where no grid is held
abbrev pub above_held : Option HeldBase → Above → Above
above_held None other = other
above_held (Some h) other = (base_held h).above

-- what the child of a frame sees of the node: the counts of the repetitions, where it is a subgrid of it
abbrev pub pairs_to : ChildSeats → Frame → List Pair
pairs_to seats f = if is_lower f then pairs_held seats.held else []

-- the context that the child of a frame sees above it, where it is a subgrid of the node
abbrev pub above_to : ChildSeats → Frame → Above
above_to seats f = if is_lower f then above_held seats.held above.Nothing else above.Nothing

-- the seat of the child of this number and frame, in its area
abbrev pub IsSeatTo : BareTrees → NodeId → ChildSeats → ℕ → Frame → Type 0
IsSeatTo b c seats number f =
    (a : Area) → (number < length seats.areas → (d : Area) → a ≡ get_or seats.areas number d) →
    IsSeat (sight_at b c) (pairs_to seats f) (above_to seats f) a

-- the area of the child of this number, where it is a subgrid of the node
abbrev pub IsAreaOf : BareTrees → NodeId → Placed → ℕ → Area → Type 0
IsAreaOf b n p number a =
    (c : NodeId) (made : Context) (reps : List Pair) → child_at b n number ≡ Some c → context_of made ≡ context_at (sight_at b n) reps →
    IsPlaced b n (context_of made) p → has_chain (sight_at b c).chain ≡ true → IsSeat (sight_at b c) reps (above.Grid made) a

-- the seat of a child that is a subgrid of the node
pub record IsSeated (b : BareTrees) (c : NodeId) (number : ℕ) (seats : ChildSeats) : Type 0 where
  pub counts : length (pairs_held seats.held) ≡ length (sight_at b c).chain
  pub there : number < length seats.areas
  pub seat : (d : Area) → IsSeat (sight_at b c) (pairs_held seats.held) (above_held seats.held above.Nothing) (get_or seats.areas number d)

-- These are the seats of the children of a node: which of them are subgrids of it, and where these stand.
pub record AreSeats (b : BareTrees) (n : NodeId) (seats : ChildSeats) : Type 0 where
  pub told : (number : ℕ) (c : NodeId) → child_at b n number ≡ Some c → has_chain (sight_at b c).chain ≡ (seats.some && has_subgrid_kind (sight_at b c).label)
  pub seated : (number : ℕ) (c : NodeId) → child_at b n number ≡ Some c → has_chain (sight_at b c).chain ≡ true → IsSeated b c number seats

-- where there are subgrids, they see the counts of the node's repetitions once it is asked this
abbrev pub HasPairs : BareTrees → NodeId → Query → ChildSeats → Type 0
HasPairs b n q seats = seats.some ≡ true → pairs_held seats.held ≡ pairs_seen b n q
