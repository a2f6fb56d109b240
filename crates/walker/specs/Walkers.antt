-- What contracts see of a walk (own rule).
use Rattle.std.specs.Prelude.{◌≡◌, List, Option}
use Rattle.node_arena.specs.declared.number.NodeId.{NodeId}
use Rattle.outside.specs.declared.event.Event.{Event}
use Rattle.placing.specs.Kept.{IsRight, kept_at}
use Rattle.placing.specs.Nodes.{BareTrees, NodeTrees, bare}
use Rattle.placing.specs.Ranges.{AreReadable}
use Rattle.placing.specs.Seats.{IsSeat}
use Rattle.placing.specs.Walks.{State, state}
use Rattle.placing.specs.declared.node.Answer.{Answer}
use Rattle.tree_rules.specs.Places.{Seen}
use Rattle.tree_rules.specs.declared.query.Query.{Query}
use Rattle.walker.specs.declared.seat.Seat.{Seat}
use Rattle.walker.specs.declared.walker.Walker.{Walker}

-- the bare tree that is walked
abbrev pub nodes : {R L : Type 0} → Walker R L → BareTrees
nodes w = bare w.tree.now.tree

-- the answers that a node of it keeps
abbrev pub kept : {R L : Type 0} → Walker R L → NodeId → List (Query × Answer)
kept w n = kept_at w.tree.now.tree n

-- all that a walk changes, as one state, by what the ruler tells of its log
abbrev pub seen : {R L : Type 0} → (R → Option (List Event)) → Walker R L → State
seen log w = state w.tree.now w.tally.now w.passes.now (log w.ruler.now)

-- the same tree, ruler and counts are walked with: what is written there is seen by those who lent them
pub record SameParts {R L : Type 0} (old new : Walker R L) : Type 0 where
  pub tree : new.tree.ghost_name ≡ old.tree.ghost_name
  pub ruler : new.ruler.ghost_name ≡ old.ruler.ghost_name
  pub tally : new.tally.ghost_name ≡ old.tally.ghost_name
  pub passes : new.passes.ghost_name ≡ old.passes.ghost_name

-- What always holds of a tree between two calls: each kept answer is right, and all values are such as a text reads as.
pub record IsHeld (t : NodeTrees) : Type 0 where
  pub right : IsRight t
  pub readable : AreReadable (bare t)

abbrev pub Stands : {R L : Type 0} → Walker R L → Type 0
Stands w = IsHeld w.tree.now.tree

-- it is the seat of a node
abbrev pub HasSeat : Seen → Seat → Type 0
HasSeat s seat = IsSeat s seat.reps.now seat.above.now seat.area
